-- The table that `open` makes keeps the rule.
use Rattle.std.proofs.Common.{◌≡◌, ℕ, zero, suc, ◌+◌, ◌*◌, ◌/◌, ◌%◌, ◌<◌, ◌≤◌, List, [], ◌∷◌, ◌++◌, length, replicate, get_or, sym, refl, ap, ◌∙◌, subst, arith, Bool, true, false, inl, inr}
use Rattle.std.specs.Prelude.{All, IsTrue, slice_index_or}
use Rattle.std.specs.List.{list_all}
use Rattle.std.proofs.lemmas.Bool.{cases_Bool, cases_lt}
use Rattle.std.proofs.lemmas.List.{length-replicate, length-append, get_or_append_left, get_or-append-add}
use Rattle.std.proofs.lemmas.List.Elements.{All-push}
use mathlib.Core.Option.{some, some-injective, some-ne-none}
use lib.ListN.{get_elem?}
use Rattle.atomic_table.specs.Table.{opening}
use Rattle.region_cell.specs.Cells.{CellView}
use Rattle.cache_table.specs.Abouts.{About}
use Rattle.cache_table.specs.declared.home.Home.{Home}
use Rattle.cache_table.specs.declared.home.Home.TheVariants.{Policy, Cell, Away}
use Rattle.cache_table.specs.Opened.{free_word, free_words}
use Rattle.cache_table.specs.Rule.{last_place, Fits, Suits, Fresh, Ruled, newcomer, holds_of}
use Rattle.cache_table.specs.Calls.{IsFreeCell, IsFreePolicy, IsSpace, AreSpaced, AreCells, aways}
use Rattle.cache_table.specs.Views.{Tied}
use Rattle.cache_table.proofs.Keeps.{starts}

pub none_tied : Tied (replicate 4096 false) []
none_tied m = nothing 4096 m
  where
    nothing : (n m : ℕ) → slice_index_or (replicate n false) m false ≡ false
    nothing zero m = refl
    nothing (suc n) zero = refl
    nothing (suc n) (suc m) = nothing n m

all_true : {X : Type 0} (p : X → Bool) (xs : List X) → IsTrue (list_all p xs) → All (λ x. IsTrue (p x)) xs
all_true p [] t k d h = absurd (omega arith)
all_true p (x ∷ xs) t k d h = elim (cases_Bool (p x)) [
  | inl u ↦ at u (all_true p xs (let e = rw u at t in e)) k d h
  | inr u ↦ let e = rw u at t in absurd (cc)
]
  where
    at : p x ≡ true → All (λ x. IsTrue (p x)) xs → All (λ x. IsTrue (p x)) (x ∷ xs)
    at u r zero d h = u
    at u r (suc k) d h = r k d (omega arith)

-- each frame tells where all do, and is steady where all are
pub all_of : {X : Type 0} (size : X → ℕ) (tells steady : X → Bool) (n : ℕ) (xs : List X) → All (λ x. size x ≡ n) xs
    → All (λ x. (size x ≡ n) × (IsTrue (list_all tells xs) → IsTrue (tells x)) × (IsTrue (list_all steady xs) → IsTrue (steady x))) xs
all_of size tells steady n xs h k d l = (h k d l, (λ t. all_true tells xs t k d l), (λ t. all_true steady xs t k d l))

length_free : (n : ℕ) → length (free_words n) ≡ 8 * n
length_free zero = refl
length_free (suc n) = omega (arith, length-append (free_words n) free_word, length_free n)

-- the word of a region is free
free_at : (n r : ℕ) → r < n → get_or (free_words n) (8 * r + 7) 0 ≡ 18446744073709551360
free_at zero r h = absurd (omega arith)
free_at (suc n) r h = elim (cases_lt r n) [
  | inl l ↦ get_or_append_left (free_words n) free_word 0 (8 * r + 7) (omega (arith, length_free n, l)) ∙ free_at n r l
  | inr g ↦ let p : 8 * r + 7 ≡ length (free_words n) + 7 = omega (arith, length_free n, g, h) in ap (λ (i : ℕ). get_or (free_words (suc n)) i 0) p ∙ get_or-append-add (free_words n) free_word 7 0
]

-- no word shows a turn taken or a hold
abbrev Calm : List ℕ → Type 0
Calm [] = Unit {0}
Calm (x ∷ xs) = (x % 2 ≡ 0) × (holds_of x ≡ 0) × Calm xs

calm_at : (xs : List ℕ) (k : ℕ) → Calm xs → (get_or xs k 0 % 2 ≡ 0) × (holds_of (get_or xs k 0) ≡ 0)
calm_at [] k h = (refl, refl)
calm_at (x ∷ xs) zero h = (h.0, h.1)
calm_at (x ∷ xs) (suc k) h = calm_at xs k h.2

calm_both : (xs ys : List ℕ) → Calm xs → Calm ys → Calm (xs ++ ys)
calm_both [] ys h k = k
calm_both (x ∷ xs) ys h k = (h.0, h.1, calm_both xs ys h.2 k)

calm_word : Calm free_word
calm_word = (refl, refl, (refl, refl, (refl, refl, (refl, refl, (refl, refl, (refl, refl, (refl, refl, (refl, refl, tt))))))))

calm_free : (n : ℕ) → Calm (free_words n)
calm_free zero = tt
calm_free (suc n) = calm_both (free_words n) free_word (calm_free n) calm_word

calm_nils : (m : ℕ) → Calm (replicate m 0)
calm_nils zero = tt
calm_nils (suc m) = (refl, refl, calm_nils m)

abbrev nils : ℕ → List ℕ
nils m = replicate m 0

zeros : (m k : ℕ) → get_or (nils m) k 0 ≡ 0
zeros zero k = refl
zeros (suc m) zero = refl
zeros (suc m) (suc k) = zeros m k

get_left : {X : Type 0} (xs ys : List X) (i : ℕ) (x : X) → get_elem? xs i ≡ some x → get_elem? (xs ++ ys) i ≡ some x
get_left [] ys i x h = absurd (some-ne-none x (sym h))
get_left (z ∷ zs) ys zero x h = h
get_left (z ∷ zs) ys (suc i) x h = get_left zs ys i x h

get_last : {X : Type 0} (xs : List X) (x : X) → get_elem? (xs ++ x ∷ []) (length xs) ≡ some x
get_last [] x = refl
get_last (z ∷ zs) x = get_last zs x

module _ {A F : Type 0} where
  aways_length : (n : ℕ) (ys : List (Home A F)) → length (aways n ys) ≡ length ys + n
  aways_length zero ys = omega arith
  aways_length (suc n) ys = omega (arith, length-append (aways n ys) (Away ∷ []), aways_length n ys)

  aways_each : (P : Home A F → Type 0) → P Away → (n : ℕ) (ys : List (Home A F)) → All P ys → All P (aways n ys)
  aways_each P p zero ys h = h
  aways_each P p (suc n) ys h = All-push P (aways n ys) Away (aways_each P p n ys h) p

  aways_get : (n : ℕ) (ys : List (Home A F)) (i : ℕ) (y : Home A F) → get_elem? ys i ≡ some y → get_elem? (aways n ys) i ≡ some y
  aways_get zero ys i y h = h
  aways_get (suc n) ys i y h = get_left (aways n ys) (Away ∷ []) i y (aways_get n ys i y h)

abbrev pub words : ℕ → ℕ → List ℕ
words r m = (0 ∷ free_words r) ++ replicate m 0

pub words_are : (n m : ℕ) (ws : List ℕ) → n ≡ m → ws ≡ words n 4096 → ws ≡ words m 4096
words_are n m ws e h = h ∙ ap (λ (k : ℕ). words k 4096) e

module _ (told : Bool) (files : ℕ → ℕ → List ℕ) (A F : Type 0) where
  is_space : (a : About) (c : CellView) → Suits told files a 18446744073709551360 c → (c.metadata.region.tracker.tickets ≡ []) × (c.metadata.region.tracker.gaps ≡ []) → IsSpace {A = A} {F = F} told files a (Cell c)
  is_space a c s t = (s, t.0, t.1)

  -- one more cell of a free region, behind seven slots with nothing
  spaced_more : (a : About) (n m : ℕ) (ys : List (Home A F)) (c : CellView) → m ≡ n + 1 → AreSpaced told files a n ys → Suits told files a 18446744073709551360 c → (c.metadata.region.tracker.tickets ≡ []) × (c.metadata.region.tracker.gaps ≡ []) → AreSpaced told files a m (aways 7 ys ++ Cell c ∷ [])
  spaced_more a n m ys c e h s t = let front : List (Home A F) = aways 7 ys in let l : length front ≡ length ys + 7 = aways_length 7 ys in record {
    count = omega (arith, e, h.count, length-append front (Cell c ∷ []), l);
    each = All-push (IsSpace told files a) front (Cell c) (aways_each (IsSpace told files a) tt 7 ys h.each) (is_space a c s t);
    cells = λ r less. elim (cases_lt r n) [
      | inl low ↦ let z = h.cells r low in (z.0, get_left front (Cell c ∷ []) (8 * r + 7) z.0 (aways_get 7 ys (8 * r + 7) z.0 z.1), z.2)
      | inr high ↦ let p : 8 * r + 7 ≡ length front = omega (arith, e, h.count, l, less, high) in (Cell c, ap (get_elem? (front ++ Cell c ∷ [])) p ∙ get_last front (Cell c), (s, t.0, t.1))
    ];
  }

  pub cells_more : (a : About) (n m : ℕ) (ys : List (Home A F)) (c : CellView) → m ≡ n + 1 → AreCells told files a n ys → Suits told files a 18446744073709551360 c → (c.metadata.region.tracker.tickets ≡ []) × (c.metadata.region.tracker.gaps ≡ []) → AreCells told files a m (aways 7 ys ++ Cell c ∷ [])
  cells_more a n m [] c e h s t = absurd h
  cells_more a n m (y ∷ ys) c e h s t = (h.0, spaced_more a n m ys c e h.1 s t)

  fits_free : (a : About) (k : ℕ) (y : Home A F) → IsFreeCell told files a y → Fits told files a (suc k) 18446744073709551360 y
  fits_free a k (Policy p) h = absurd h
  fits_free a k Away h = absurd h
  fits_free a k (Cell c) h = h.0

  fits_first : (a : About) (y : Home A F) → IsFreePolicy a y → Fits told files a 0 0 y
  fits_first a (Policy p) h = h
  fits_first a Away h = absurd h
  fits_first a (Cell c) h = absurd h

  no_tickets : (a : About) (c : CellView) → IsSpace {A = A} {F = F} told files a (Cell c) → (c.metadata.region.tracker.tickets ≡ []) × (c.metadata.region.tracker.gaps ≡ [])
  no_tickets a c h = (h.1, h.2)

  pub fresh : (a : About) (slots : List (Home A F)) → AreCells told files a a.config.regions slots → Fresh told files a (words a.config.regions 4096) slots
  fresh a [] h = absurd h
  fresh a (y ∷ ys) h = record {
    wide = (let free : List ℕ = free_words a.config.regions in let new : List ℕ = replicate 4096 0 in let z : ℕ = 0 in omega (arith, length-append free new, length_free a.config.regions, length-replicate 4096 z));
    deep = (let n = h.1.count in omega arith);
    free = λ k le. calm_at (words a.config.regions 4096) k (refl, refl, calm_both (free_words a.config.regions) (replicate 4096 0) (calm_free a.config.regions) (calm_nils 4096));
    home = slot;
    alive = λ m lt e. let n : ℕ = a.config.regions in let zs : List ℕ = replicate 4096 0 in let place : last_place a + 1 + m ≡ suc (length (free_words n) + m) = omega (arith, length_free n) in
        let is : get_or (words n 4096) (last_place a + 1 + m) 0 ≡ 0 = ap (λ (i : ℕ). get_or (words n 4096) i 0) place ∙ get_or-append-add (free_words n) zs m 0 ∙ zeros 4096 m in omega arith;
    unclaimed = claimed;
  } where
    at : (r : ℕ) → r < a.config.regions → (z : Home A F) × (get_elem? ys (8 * r + 7) ≡ some z) × Fits told files a (suc (8 * r + 7)) (get_or (words a.config.regions 4096) (suc (8 * r + 7)) 0) z
    at r less = let z = h.1.cells r less in let n : ℕ = a.config.regions in
        let is : get_or (words n 4096) (suc (8 * r + 7)) 0 ≡ 18446744073709551360 = get_or_append_left (free_words n) (replicate 4096 0) 0 (8 * r + 7) (omega (arith, length_free n, less)) ∙ free_at n r less in
        (z.0, z.1, subst (λ (w : ℕ). Fits told files a (suc (8 * r + 7)) w z.0) (sym is) (fits_free a (8 * r + 7) z.0 z.2))

    slot : (k : ℕ) → k ≤ last_place a → k % 8 ≡ 0 → (z : Home A F) × (get_elem? (y ∷ ys) k ≡ some z) × Fits told files a k (get_or (words a.config.regions 4096) k 0) z
    slot zero le whole = (y, refl, fits_first a y h.0)
    slot (suc k) le whole = let e : k ≡ 8 * (k / 8) + 7 = omega (arith, whole) in
        subst (λ (i : ℕ). (z : Home A F) × (get_elem? ys i ≡ some z) × Fits told files a (suc i) (get_or (words a.config.regions 4096) (suc i) 0) z) (sym e) (at (k / 8) (omega (arith, le, whole, e)))

    claimed : (k : ℕ) (c : CellView) → 0 < k → get_elem? (y ∷ ys) k ≡ some (Cell c) → (c.metadata.region.tracker.tickets ≡ []) × (c.metadata.region.tracker.gaps ≡ [])
    claimed zero c p e = absurd (omega arith)
    claimed (suc k) c p e = no_tickets a c (all_at ys k h.1.each e)
      where
        all_at : (l : List (Home A F)) (i : ℕ) → All (IsSpace told files a) l → get_elem? l i ≡ some (Cell c) → IsSpace {A = A} {F = F} told files a (Cell c)
        all_at [] i q d = absurd (some-ne-none (Cell c) (sym d))
        all_at (x ∷ xs) zero q d = subst (IsSpace told files a) (some-injective x (Cell c) d) (q 0 x (omega arith))
        all_at (x ∷ xs) (suc i) q d = all_at xs i (λ j u l. q (suc j) u (omega arith)) d

  pub opens : (a : About) (ws : List ℕ) (slots : List (Home A F)) → AreCells told files a a.config.regions slots → ws ≡ words a.config.regions 4096 → Ruled told files a (opening ws slots (newcomer a 64 []))
  opens a ws slots h e = subst (λ (l : List ℕ). Ruled told files a (opening l slots (newcomer a 64 []))) (sym e) (starts told files A F a (words a.config.regions 4096) slots (fresh a slots h))
