-- One more query of a clause list.
use Rattle.std.proofs.Common.{◌≡◌, ℕ, ◌+◌, ◌≤◌, Bool, true, false, List, [], ◌∷◌, length, map, sym, refl, ap, ap₂, ◌∙◌, Some, drop, zero, suc, zero-add, arith}
use Rattle.std.specs.Prelude.{slice_get, ◌&&◌, ◌||◌, ◌==◌, nat_le, replicate, Option}
use Rattle.std.specs.List.{range_with_len}
use Rattle.std.proofs.Math.Dec.{eqb-suc-zero}
use Rattle.std.proofs.lemmas.Bool.{le-leb}
use Rattle.std.proofs.lemmas.List.{drop_all}
use Rattle.std.proofs.lemmas.List.FromFn.{length-range_with_len}
use Rattle.std.proofs.Math.Bool.{and-true, and_assoc}
use Rattle.doc_bits.specs.Places.{zip_with, and_not}
use Rattle.doc_bits.specs.Counts.{counted}
use Rattle.query_lang.specs.Trees.{Tree, Trees, no_trees, tree, compound, tree_of, trees_of}
use Rattle.query_lang.specs.declared.query.Query.{Query}
use Rattle.shard_search.specs.Matches.{matches, all_match, some_match, count_match, is_empty, needed}
use Rattle.shard_search.specs.Sets.{each_of}
use Rattle.shard_search.proofs.SetLemmas.{zip_join, zip_unit, drop_is, drop_none, with_count, count_is, plus_zero, combined, map_same}
use Rattle.byte_text.proofs.Lists.{drop_get}

module _ {A C : Type 0} (f : A → Bool → A) (h : A → C → A) (k : Bool → C → C) (e : C) (law : (a : A) (b : Bool) (c : C) → h (f a b) c ≡ h a (k b c)) (unit : (a : A) → h a e ≡ a)
    (has : List ℕ → List ℕ → ℕ → Bool) (fold : Trees → ℕ → C) (folds : (q : Tree) (qs : Trees) → fold (tree q qs) ≡ (λ d. k (matches has q d) (fold qs d))) (ends : fold no_trees ≡ (λ d. e))
    (queries : List Query) (i docs : ℕ) (whole : List A) where
  -- what the queries from place i on make of a set
  abbrev pub left : ℕ → List A → List A
  left j set = zip_with h set (each_of (fold (trees_of (map tree_of (drop j queries)))) docs)

  pub one_more : (q : Query) (set new : List A) (bits : List Bool) → slice_get queries i ≡ Some q → bits ≡ each_of (matches has (tree_of q)) docs → new ≡ zip_with f set bits
      → left i set ≡ whole → left (i + 1) new ≡ whole
  one_more q set new bits at is made before =
      ap (left (i + 1)) made
      ∙ ap (λ b. left (i + 1) (zip_with f set b)) is
      ∙ zip_join f h k law set (matches has (tree_of q)) (fold (trees_of (map tree_of (drop (i + 1) queries)))) (range_with_len 0 docs)
      ∙ ap (λ g. zip_with h set (each_of g docs)) (sym (folds (tree_of q) (trees_of (map tree_of (drop (i + 1) queries)))))
      ∙ ap (λ qs. zip_with h set (each_of (fold (trees_of (map tree_of qs))) docs)) (sym (drop_get queries i q at))
      ∙ before

  pub all_done : (set : List A) → length queries ≤ i → length set ≡ docs → left i set ≡ whole → set ≡ whole
  all_done set past n before =
      sym (zip_unit h e unit set (range_with_len 0 docs) (n ∙ sym (length-range_with_len 0 docs)))
      ∙ ap (λ g. zip_with h set (each_of g docs)) (sym ends)
      ∙ ap (λ qs. zip_with h set (each_of (fold (trees_of (map tree_of qs))) docs)) (sym (drop_all i queries past))
      ∙ before

module _ (has : List ℕ → List ℕ → ℕ → Bool) (queries : List Query) (i docs : ℕ) where
  pub keep_more : (whole : List Bool) (q : Query) (set new bits : List Bool) → slice_get queries i ≡ Some q → bits ≡ each_of (matches has (tree_of q)) docs → new ≡ zip_with ◌&&◌ set bits
      → zip_with ◌&&◌ set (each_of (all_match has (trees_of (map tree_of (drop i queries)))) docs) ≡ whole
      → zip_with ◌&&◌ new (each_of (all_match has (trees_of (map tree_of (drop (i + 1) queries)))) docs) ≡ whole
  keep_more whole = one_more ◌&&◌ ◌&&◌ ◌&&◌ true and_assoc and-true has (all_match has) (λ q qs. refl) refl queries i docs whole

  pub keep_done : (whole set : List Bool) → length queries ≤ i → length set ≡ docs
      → zip_with ◌&&◌ set (each_of (all_match has (trees_of (map tree_of (drop i queries)))) docs) ≡ whole → set ≡ whole
  keep_done whole = all_done ◌&&◌ ◌&&◌ ◌&&◌ true and_assoc and-true has (all_match has) (λ q qs. refl) refl queries i docs whole

  pub drop_more : (whole : List Bool) (q : Query) (set new bits : List Bool) → slice_get queries i ≡ Some q → bits ≡ each_of (matches has (tree_of q)) docs → new ≡ zip_with and_not set bits
      → zip_with and_not set (each_of (some_match has (trees_of (map tree_of (drop i queries)))) docs) ≡ whole
      → zip_with and_not new (each_of (some_match has (trees_of (map tree_of (drop (i + 1) queries)))) docs) ≡ whole
  drop_more whole = one_more and_not and_not ◌||◌ false drop_is drop_none has (some_match has) (λ q qs. refl) refl queries i docs whole

  pub drop_done : (whole set : List Bool) → length queries ≤ i → length set ≡ docs
      → zip_with and_not set (each_of (some_match has (trees_of (map tree_of (drop i queries)))) docs) ≡ whole → set ≡ whole
  drop_done whole = all_done and_not and_not ◌||◌ false drop_is drop_none has (some_match has) (λ q qs. refl) refl queries i docs whole

  pub count_more : (whole : List ℕ) (q : Query) (set new : List ℕ) (bits : List Bool) → slice_get queries i ≡ Some q → bits ≡ each_of (matches has (tree_of q)) docs → new ≡ zip_with counted set bits
      → zip_with ◌+◌ set (each_of (count_match has (trees_of (map tree_of (drop i queries)))) docs) ≡ whole
      → zip_with ◌+◌ new (each_of (count_match has (trees_of (map tree_of (drop (i + 1) queries)))) docs) ≡ whole
  count_more whole = one_more counted ◌+◌ with_count 0 count_is plus_zero has (count_match has) (λ q qs. refl) refl queries i docs whole

  pub count_done : (whole set : List ℕ) → length queries ≤ i → length set ≡ docs
      → zip_with ◌+◌ set (each_of (count_match has (trees_of (map tree_of (drop i queries)))) docs) ≡ whole → set ≡ whole
  count_done whole = all_done counted ◌+◌ with_count 0 count_is plus_zero has (count_match has) (λ q qs. refl) refl queries i docs whole

pub no_queries : (queries : List Query) → is_empty (trees_of (map tree_of queries)) ≡ (length queries == 0)
no_queries [] = refl
no_queries (q ∷ queries) = sym (eqb-suc-zero (length queries))

-- nothing is asked of `should`
pub none_needed : (set : List Bool) (docs least : ℕ) (count : ℕ → ℕ) → least ≡ 0 → length set ≡ docs → set ≡ zip_with ◌&&◌ set (each_of (λ d. nat_le least (count d)) docs)
none_needed set docs least count z n =
    sym (zip_unit ◌&&◌ true and-true set (range_with_len 0 docs) (n ∙ sym (length-range_with_len 0 docs)))
    ∙ ap (zip_with ◌&&◌ set) (map_same (λ d. true) (λ d. nat_le least (count d)) (range_with_len 0 docs) (λ d. rw z (sym (le-leb 0 (count d) (omega arith)))))

counted_from : (n low : ℕ) (f : ℕ → ℕ) → zip_with ◌+◌ (replicate n 0) (map f (range_with_len low n)) ≡ map f (range_with_len low n)
counted_from zero low f = refl
counted_from (suc n) low f = ap₂ ◌∷◌ (zero-add (f low)) (counted_from n (low + 1) f)

pub from_zero : (docs : ℕ) (f : ℕ → ℕ) → zip_with ◌+◌ (replicate docs 0) (each_of f docs) ≡ each_of f docs
from_zero docs f = counted_from docs 0 f

pub length-zeros : (n : ℕ) → length {A = ℕ} (replicate n 0) ≡ n
length-zeros zero = refl
length-zeros (suc n) = ap suc (length-zeros n)

pub map_twice : {A B : Type 0} (g : A → B) (f : ℕ → A) (xs : List ℕ) → map g (map f xs) ≡ map (λ x. g (f x)) xs
map_twice g f [] = refl
map_twice g f (x ∷ xs) = ap (λ t. g (f x) ∷ t) (map_twice g f xs)

-- the set of a `bool`
pub bool_set : (has : List ℕ → List ℕ → ℕ → Bool) (q : Tree) (must filter should must_not : Trees) (minimum : Option ℕ) (docs least : ℕ) (all m f n bits : List Bool)
    → q ≡ compound must filter should must_not minimum → least ≡ needed must filter should minimum → all ≡ replicate docs true
    → m ≡ zip_with ◌&&◌ all (each_of (all_match has must) docs)
    → f ≡ zip_with ◌&&◌ m (each_of (all_match has filter) docs)
    → n ≡ zip_with and_not f (each_of (some_match has must_not) docs)
    → bits ≡ zip_with ◌&&◌ n (each_of (λ d. nat_le least (count_match has should d)) docs)
    → bits ≡ each_of (matches has q) docs
bool_set has q must filter should must_not minimum docs least all m f n bits is w e1 e2 e3 e4 e5 =
    e5
    ∙ ap (λ l. zip_with ◌&&◌ n (each_of (λ d. nat_le l (count_match has should d)) docs)) w
    ∙ combined (all_match has must) (all_match has filter) (some_match has must_not) (λ d. nat_le (needed must filter should minimum) (count_match has should d)) docs all m f n e1 e2 e3 e4
    ∙ ap (λ x. each_of (matches has x) docs) (sym is)
