-- Sets of documents, place by place.
use Rattle.std.proofs.Common.{◌≡◌, ℕ, suc, zero, ◌+◌, ◌<◌, ◌≢◌, Bool, true, false, List, [], ◌∷◌, length, map, filter, replicate, sym, refl, ap, ap₂, ◌∙◌, arith}
use Rattle.std.specs.Prelude.{◌&&◌, ◌||◌, not, ◌==◌, slice_index_or, slice_set, if◌then◌else◌}
use Rattle.std.specs.List.{range_with_len}
use Rattle.std.proofs.lemmas.Bool.{ne_eqb, eq-eqb}
use Rattle.std.proofs.lemmas.List.FromFn.{length-map-range_with_len, get_or-map-range_with_len}
use Rattle.std.proofs.Math.Bool.{or-true, and-false, or-false}
use Rattle.doc_bits.specs.Places.{zip_with, and_not, places_of}
use Rattle.doc_bits.specs.Counts.{counted}
use Rattle.doc_bits.proofs.Lists.{length-zip_with}
use Rattle.shard_search.specs.Sets.{each_of}
use Rattle.doc_bits.proofs.Lists.{filter-range_same as filter_same}

pub drop_is : (a b c : Bool) → and_not (and_not a b) c ≡ and_not a (b || c)
drop_is true true c = refl
drop_is true false c = refl
drop_is false b c = refl

abbrev pub with_count : Bool → ℕ → ℕ
with_count b n = (if b then 1 else 0) + n

pub count_is : (a : ℕ) (b : Bool) (c : ℕ) → counted a b + c ≡ a + with_count b c
count_is a true c = omega arith
count_is a false c = omega arith

pub drop_none : (a : Bool) → and_not a false ≡ a
drop_none true = refl
drop_none false = refl

pub plus_zero : (a : ℕ) → a + 0 ≡ a
plus_zero a = omega arith

module _ {A B C : Type 0} (f : A → B → A) (h : A → C → A) (k : B → C → C) (law : (a : A) (b : B) (c : C) → h (f a b) c ≡ h a (k b c)) where
  pub zip_join : (set : List A) (p : ℕ → B) (r : ℕ → C) (xs : List ℕ) → zip_with h (zip_with f set (map p xs)) (map r xs) ≡ zip_with h set (map (λ d. k (p d) (r d)) xs)
  zip_join [] p r xs = refl
  zip_join (a ∷ set) p r [] = refl
  zip_join (a ∷ set) p r (x ∷ xs) = ap₂ ◌∷◌ (law a (p x) (r x)) (zip_join set p r xs)

module _ {A C : Type 0} (h : A → C → A) (e : C) (law : (a : A) → h a e ≡ a) where
  pub zip_unit : (set : List A) (xs : List ℕ) → length set ≡ length xs → zip_with h set (map (λ d. e) xs) ≡ set
  zip_unit [] xs n = refl
  zip_unit (a ∷ set) [] n = absurd (omega arith)
  zip_unit (a ∷ set) (x ∷ xs) n = ap₂ ◌∷◌ (law a) (zip_unit set xs (omega arith))

pub length-each : {A : Type 0} (f : ℕ → A) (docs : ℕ) → length (each_of f docs) ≡ docs
length-each f docs = length-map-range_with_len f 0 docs

pub map_same : {A : Type 0} (f g : ℕ → A) (xs : List ℕ) → ((d : ℕ) → f d ≡ g d) → map f xs ≡ map g xs
map_same f g [] h = refl
map_same f g (x ∷ xs) h = ap₂ ◌∷◌ (h x) (map_same f g xs h)

pub each_same : {A : Type 0} (f g : ℕ → A) (docs : ℕ) → ((d : ℕ) → f d ≡ g d) → each_of f docs ≡ each_of g docs
each_same f g docs h = map_same f g (range_with_len 0 docs) h

all_from : (n a : ℕ) → replicate n true ≡ map (λ d. true) (range_with_len a n)
all_from zero a = refl
all_from (suc n) a = ap (λ t. true ∷ t) (all_from n (a + 1))

pub all_true : (docs : ℕ) → replicate docs true ≡ each_of (λ d. true) docs
all_true docs = all_from docs 0

-- what must and filter keep, must_not drops and should keeps
combined_from : (a f n s : ℕ → Bool) (docs low : ℕ)
    → zip_with ◌&&◌ (zip_with and_not (zip_with ◌&&◌ (zip_with ◌&&◌ (replicate docs true) (map a (range_with_len low docs))) (map f (range_with_len low docs))) (map n (range_with_len low docs))) (map s (range_with_len low docs))
    ≡ map (λ d. a d && f d && not (n d) && s d) (range_with_len low docs)
combined_from a f n s zero low = refl
combined_from a f n s (suc docs) low = ap (λ t. (a low && f low && not (n low) && s low) ∷ t) (combined_from a f n s docs (low + 1))

pub combined : (a f n s : ℕ → Bool) (docs : ℕ) (all must filter rest : List Bool)
    → all ≡ replicate docs true → must ≡ zip_with ◌&&◌ all (each_of a docs) → filter ≡ zip_with ◌&&◌ must (each_of f docs) → rest ≡ zip_with and_not filter (each_of n docs)
    → zip_with ◌&&◌ rest (each_of s docs) ≡ each_of (λ d. a d && f d && not (n d) && s d) docs
combined a f n s docs all must filter rest p q r t =
    ap (λ x. zip_with ◌&&◌ x (each_of s docs)) t
    ∙ ap (λ x. zip_with ◌&&◌ (zip_with and_not x (each_of n docs)) (each_of s docs)) r
    ∙ ap (λ x. zip_with ◌&&◌ (zip_with and_not (zip_with ◌&&◌ x (each_of f docs)) (each_of n docs)) (each_of s docs)) q
    ∙ ap (λ x. zip_with ◌&&◌ (zip_with and_not (zip_with ◌&&◌ (zip_with ◌&&◌ x (each_of a docs)) (each_of f docs)) (each_of n docs)) (each_of s docs)) p
    ∙ combined_from a f n s docs 0

-- ---- one document put into a set

nothing_from : (n low : ℕ) (g : ℕ → Bool) → zip_with ◌||◌ (replicate n false) (map g (range_with_len low n)) ≡ map g (range_with_len low n)
nothing_from zero low g = refl
nothing_from (suc n) low g = ap (λ t. g low ∷ t) (nothing_from n (low + 1) g)

pub length-nothing : (n : ℕ) → length (replicate n false) ≡ n
length-nothing zero = refl
length-nothing (suc n) = ap suc (length-nothing n)

pub from_nothing : (docs : ℕ) (g : ℕ → Bool) → zip_with ◌||◌ (replicate docs false) (each_of g docs) ≡ each_of g docs
from_nothing docs g = nothing_from docs 0 g

not_it : (b : Bool) (m n : ℕ) → m ≢ n → b ≡ (b || (m == n))
not_it b m n h = sym (ap (λ x. b || x) (ne_eqb m n h) ∙ or-false b)

none_of : (k low : ℕ) (set : List Bool) → k < low → set ≡ zip_with ◌||◌ set (map (λ d. k == d) (range_with_len low (length set)))
none_of k low [] h = refl
none_of k low (b ∷ set) h = ap₂ ◌∷◌ (not_it b k low (omega arith)) (none_of k (low + 1) set (omega arith))

put_from : (set : List Bool) (k low n : ℕ) → n ≡ low + k → slice_set set k true ≡ zip_with ◌||◌ set (map (λ d. n == d) (range_with_len low (length set)))
put_from [] k low n e = refl
put_from (b ∷ set) zero low n e = ap₂ ◌∷◌ (sym (ap (λ x. b || x) (eq-eqb n low (omega arith)) ∙ or-true b)) (none_of n (low + 1) set (omega arith))
put_from (b ∷ set) (suc k) low n e = ap₂ ◌∷◌ (not_it b n low (omega arith)) (put_from set k (low + 1) n (omega arith))

pub put_is : (set : List Bool) (k docs : ℕ) → length set ≡ docs → slice_set set k true ≡ zip_with ◌||◌ set (each_of (λ d. k == d) docs)
put_is set k docs n = put_from set k 0 k (omega arith) ∙ ap (λ m. zip_with ◌||◌ set (map (λ d. k == d) (range_with_len 0 m))) n

-- ---- the places of a set

pub places_each : (p : ℕ → Bool) (docs : ℕ) → places_of (each_of p docs) ≡ filter p (range_with_len 0 docs)
places_each p docs =
    ap (λ n. filter (λ i. slice_index_or (each_of p docs) i false) (range_with_len 0 n)) (length-each p docs)
    ∙ filter_same (λ i. slice_index_or (each_of p docs) i false) p 0 docs (λ i low high. get_or-map-range_with_len p 0 docs i i false (omega arith) (omega arith))

zip_at : (xs ys : List Bool) (i : ℕ) → slice_index_or (zip_with ◌&&◌ xs ys) i false ≡ (slice_index_or xs i false && slice_index_or ys i false)
zip_at [] ys i = refl
zip_at (x ∷ xs) [] i = sym (and-false (slice_index_or (x ∷ xs) i false))
zip_at (x ∷ xs) (y ∷ ys) zero = refl
zip_at (x ∷ xs) (y ∷ ys) (suc i) = zip_at xs ys i

both_cases : (p q : ℕ → Bool) (x : ℕ) (xs : List ℕ) (a b : Bool) → p x ≡ a → q x ≡ b → filter (λ i. p i && q i) xs ≡ filter p (filter q xs) → filter (λ i. p i && q i) (x ∷ xs) ≡ filter p (filter q (x ∷ xs))
both_cases p q x xs true true e f h = rw (e, f) (rw e (ap (λ t. x ∷ t) h))
both_cases p q x xs true false e f h = rw (e, f) h
both_cases p q x xs false true e f h = rw (e, f) (rw e h)
both_cases p q x xs false false e f h = rw (e, f) h

filter_both : (p q : ℕ → Bool) (xs : List ℕ) → filter (λ i. p i && q i) xs ≡ filter p (filter q xs)
filter_both p q [] = refl
filter_both p q (x ∷ xs) = both_cases p q x xs (p x) (q x) refl refl (filter_both p q xs)

pub places_and : (p : ℕ → Bool) (live : List Bool) (docs : ℕ) → length live ≡ docs → places_of (zip_with ◌&&◌ (each_of p docs) live) ≡ filter p (places_of live)
places_and p live docs n =
    ap (λ k. filter (λ i. slice_index_or (zip_with ◌&&◌ (each_of p docs) live) i false) (range_with_len 0 k)) (length-zip_with ◌&&◌ (each_of p docs) live (length-each p docs ∙ sym n) ∙ length-each p docs)
    ∙ filter_same (λ i. slice_index_or (zip_with ◌&&◌ (each_of p docs) live) i false) (λ i. p i && slice_index_or live i false) 0 docs
    (λ i low high. zip_at (each_of p docs) live i ∙ ap (λ b. b && slice_index_or live i false) (get_or-map-range_with_len p 0 docs i i false (omega arith) (omega arith)))
    ∙ filter_both p (λ i. slice_index_or live i false) (range_with_len 0 docs)
    ∙ ap (λ k. filter p (filter (λ i. slice_index_or live i false) (range_with_len 0 k))) (sym n)
