-- The order of candidates: the first from a list on, and the one behind a region.
use Rattle.std.proofs.Common.{arith, ◌≡◌, ◌<◌, ◌≤◌, ◌+◌, ℕ, zero, suc, true, false, List, [], ◌∷◌, ◌++◌, sym, ◌∙◌, inl, inr, refl, drop, Some, None}
use Rattle.std.specs.Prelude.{◌==◌, slice_get}
use Rattle.std.specs.List.{position_from}
use Rattle.std.proofs.lemmas.Bool.{cases_eq, cases_Bool, eq-eqb, ne_eqb}
use Rattle.freq_lists.specs.Lists.{times_in, head, list_at, next, behind, is_in}
use Rattle.cache_policy.specs.Ageing.{candidates_in, next_after}

pub first_some : (k r : ℕ) (ls : List (List ℕ)) → head (list_at k ls) ≡ Some r → head (candidates_in (drop k ls)) ≡ Some r
first_some k r [] h = absurd (cc)
first_some zero r ([] ∷ ls) h = absurd (cc)
first_some zero r ((x ∷ l) ∷ ls) h = h
first_some (suc k) r (l ∷ ls) h = first_some k r ls h

pub first_none : (k : ℕ) (ls : List (List ℕ)) → head (list_at k ls) ≡ None → head (candidates_in (drop k ls)) ≡ head (candidates_in (drop (suc k) ls))
first_none zero [] h = refl
first_none (suc k) [] h = refl
first_none zero ([] ∷ ls) h = refl
first_none zero ((x ∷ l) ∷ ls) h = absurd (cc)
first_none (suc k) (l ∷ ls) h = first_none k ls h

after_in_some : (r n : ℕ) (l rest : List ℕ) → behind r l ≡ Some n → next_after r (l ++ rest) ≡ Some n
after_in_some r n [] rest h = absurd (cc)
after_in_some r n (x ∷ []) rest h = elim (cases_Bool (x == r)) [
  | inl t ↦ let e = rw t at h in absurd (cc)
  | inr t ↦ let e = rw t at h in absurd (cc)
]
after_in_some r n (x ∷ y ∷ l) rest h = elim (cases_Bool (x == r)) [
  | inl t ↦ let e = rw t at h in rw t e
  | inr t ↦ let e = rw t at h in rw t (after_in_some r n (y ∷ l) rest e)
]

after_in_none : (r : ℕ) (l rest : List ℕ) → is_in r l ≡ true → behind r l ≡ None → next_after r (l ++ rest) ≡ head rest
after_in_none r [] rest i h = absurd (cc)
after_in_none r (x ∷ []) rest i h = elim (cases_Bool (x == r)) [
  | inl t ↦ rw t refl
  | inr t ↦ let e = rw t at i in absurd (cc)
]
after_in_none r (x ∷ y ∷ l) rest i h = elim (cases_Bool (x == r)) [
  | inl t ↦ let e = rw t at h in absurd (cc)
  | inr t ↦ let e = rw t at h in let j = rw t at i in rw t (after_in_none r (y ∷ l) rest j e)
]

after_not : (r : ℕ) (l rest : List ℕ) → is_in r l ≡ false → next_after r (l ++ rest) ≡ next_after r rest
after_not r [] rest i = refl
after_not r (x ∷ l) rest i = elim (cases_Bool (x == r)) [
  | inl t ↦ let e = rw t at i in absurd (cc)
  | inr t ↦ let e = rw t at i in rw t (after_not r l rest e)
]

pub after_some : (r n : ℕ) (ls : List (List ℕ)) → next r ls ≡ Some n → next_after r (candidates_in ls) ≡ Some n
after_some r n [] h = absurd (cc)
after_some r n (l ∷ ls) h = elim (cases_Bool (is_in r l)) [
  | inl t ↦ let e = rw t at h in after_in_some r n l (candidates_in ls) e
  | inr t ↦ let e = rw t at h in after_not r l (candidates_in ls) t ∙ after_some r n ls e
]

not_below : (r : ℕ) (ls : List (List ℕ)) (i g : ℕ) → position_from (is_in r) i ls ≡ Some g → i ≤ g
not_below r [] i g h = absurd (cc)
not_below r (l ∷ ls) i g h = elim (cases_Bool (is_in r l)) [
  | inl t ↦ let e : Some i ≡ Some g = rw t at h in let f : i ≡ g = cc in omega (arith, f)
  | inr t ↦ let e = rw t at h in omega (arith, not_below r ls (i + 1) g e)
]

pub after_none : (r : ℕ) (ls : List (List ℕ)) (i g k : ℕ) → position_from (is_in r) i ls ≡ Some g → g ≡ i + k → next r ls ≡ None → next_after r (candidates_in ls) ≡ head (candidates_in (drop (suc k) ls))
after_none r [] i g k h s n = absurd (cc)
after_none r (l ∷ ls) i g zero h s n = elim (cases_Bool (is_in r l)) [
  | inl t ↦ let e = rw t at n in after_in_none r l (candidates_in ls) t e
  | inr t ↦ let e = rw t at h in absurd (omega (arith, s, not_below r ls (i + 1) g e))
]
after_none r (l ∷ ls) i g (suc k) h s n = elim (cases_Bool (is_in r l)) [
  | inl t ↦ let e : Some i ≡ Some g = rw t at h in let f : i ≡ g = cc in absurd (omega (arith, s, f))
  | inr t ↦
      let e = rw t at h in
      let m = rw t at n in
      after_not r l (candidates_in ls) t ∙ after_none r ls (i + 1) g k e (omega (arith, s)) m
]

times_at : (i n : ℕ) (l : List ℕ) → slice_get l i ≡ Some n → 0 < times_in n l
times_at i n [] h = absurd (cc)
times_at zero n (x ∷ l) h = let s : x ≡ n = cc in rw (eq-eqb x n s) (omega arith)
times_at (suc i) n (x ∷ l) h = omega (arith, times_at i n l h)

pub head_get : (l : List ℕ) → head l ≡ slice_get l 0
head_get [] = refl
head_get (x ∷ l) = refl

-- the place behind
pub next_place : (r i : ℕ) (l : List ℕ) → times_in r l ≤ 1 → slice_get l i ≡ Some r → next_after r l ≡ slice_get l (suc i)
next_place r i [] o h = absurd (cc)
next_place r zero (x ∷ l) o h = let s : x ≡ r = cc in rw (eq-eqb x r s) (head_get l)
next_place r (suc i) (x ∷ l) o h = elim (cases_eq x r) [
  | inl s ↦ absurd (let u = rw (eq-eqb x r s) at o in omega (arith, u, times_at i r l h))
  | inr d ↦ let u = rw (ne_eqb x r d) at o in rw (ne_eqb x r d) (next_place r i l (omega (arith, u)) h)
]

pub head_times : (n : ℕ) (l : List ℕ) → head l ≡ Some n → 0 < times_in n l
head_times n l h = times_at 0 n l (sym (head_get l) ∙ h)

pub next_times : (r n : ℕ) (l : List ℕ) → next_after r l ≡ Some n → 0 < times_in n l
next_times r n [] h = absurd (cc)
next_times r n (x ∷ l) h = elim (cases_Bool (x == r)) [
  | inl t ↦ let e = rw t at h in omega (arith, head_times n l e)
  | inr t ↦ let e = rw t at h in omega (arith, next_times r n l e)
]
