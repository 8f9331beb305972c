-- The keys by region: what a write leaves, and what a search finds.
use Rattle.std.proofs.Common.{arith, ◌≡◌, ◌<◌, ◌≤◌, ◌+◌, ℕ, zero, suc, Bool, true, List, [], ◌∷◌, sym, ap, inl, inr, refl, length, get_or, Option, Some, None}
use Rattle.std.specs.Prelude.{◌==◌, slice_get, slice_set, option_and_then, IsSome, IfSome, IfNone, if◌then◌else◌}
use Rattle.std.specs.List.{position_from}
use Rattle.std.proofs.lemmas.Bool.{cases_eq, cases_Bool, eq-eqb, ne_eqb}
use Rattle.std.proofs.lemmas.Bool.Decides.{nat_tests}
use Rattle.cache_policy.specs.Policy.{is_tag}
use Rattle.cache_policy.specs.Kept.{one_if_some}

abbrev pub at : List (Option ℕ) → ℕ → Option ℕ
at ts r = option_and_then (λ t. t) (slice_get ts r)

pub at_same : (ts : List (Option ℕ)) (r : ℕ) (t : Option ℕ) → r < length ts → at (slice_set ts r t) r ≡ t
at_same [] r t h = absurd (omega arith)
at_same (x ∷ ts) zero t h = refl
at_same (x ∷ ts) (suc r) t h = at_same ts r t (omega arith)

pub at_other : (ts : List (Option ℕ)) (r j : ℕ) (t : Option ℕ) → ¬ (j ≡ r) → at (slice_set ts r t) j ≡ at ts j
at_other [] r j t d = refl
at_other (x ∷ ts) zero zero t d = absurd (d refl)
at_other (x ∷ ts) zero (suc j) t d = refl
at_other (x ∷ ts) (suc r) zero t d = refl
at_other (x ∷ ts) (suc r) (suc j) t d = at_other ts r j t (λ e. d (ap suc e))

pub at_past : (ts : List (Option ℕ)) (r : ℕ) → length ts ≤ r → at ts r ≡ None
at_past [] r h = refl
at_past (x ∷ ts) zero h = absurd (omega arith)
at_past (x ∷ ts) (suc r) h = at_past ts r (omega arith)

pub at_gone : (ts : List (Option ℕ)) (r : ℕ) → at (slice_set ts r None) r ≡ None
at_gone [] r = refl
at_gone (x ∷ ts) zero = refl
at_gone (x ∷ ts) (suc r) = at_gone ts r

pub set_at : (ts : List (Option ℕ)) (r j : ℕ) (t : Option ℕ) → r < length ts → at (slice_set ts r t) j ≡ (if j == r then t else at ts j)
set_at ts r j t h = elim (cases_eq j r) [
  | inl e ↦ rw (eq-eqb j r e) (rw e (at_same ts r t h))
  | inr d ↦ rw (ne_eqb j r d) (at_other ts r j t d)
]

pub at_within : (ts : List (Option ℕ)) (r : ℕ) → IsSome (at ts r) → r < length ts
at_within [] r h = absurd (cc)
at_within (x ∷ ts) zero h = omega arith
at_within (x ∷ ts) (suc r) h = omega (arith, at_within ts r h)

pub at_read : (ts : List (Option ℕ)) (r : ℕ) (t : Option ℕ) → r < length ts → t ≡ get_or ts r t → at ts r ≡ t
at_read [] r t h e = absurd (omega arith)
at_read (x ∷ ts) zero t h e = sym e
at_read (x ∷ ts) (suc r) t h e = at_read ts r t (omega arith) e

pub one_is : (o : Option ℕ) → IsSome o → one_if_some o ≡ 1
one_is None h = absurd (cc)
one_is (Some t) h = refl

pub some_is : (o : Option ℕ) → 0 < one_if_some o → IsSome o
some_is None h = absurd (omega arith)
some_is (Some t) h = refl

pub not_below : (test : Option ℕ → Bool) (ts : List (Option ℕ)) (i g : ℕ) → position_from test i ts ≡ Some g → i ≤ g
not_below test [] i g h = absurd (cc)
not_below test (t ∷ ts) i g h = elim (cases_Bool (test t)) [
  | inl p ↦ let e : Some i ≡ Some g = rw p at h in let f : i ≡ g = cc in omega (arith, f)
  | inr p ↦ let e = rw p at h in omega (arith, not_below test ts (i + 1) g e)
]

pub is_tag_at : (tag : ℕ) (t : Option ℕ) → is_tag tag t ≡ true → t ≡ Some tag
is_tag_at tag None h = absurd (cc)
is_tag_at tag (Some t) h = let e : t ≡ tag = grind (arith, nat_tests) in ap (λ (n : ℕ). Some n) e

pub is_tag_same : (tag : ℕ) → is_tag tag (Some tag) ≡ true
is_tag_same tag = eq-eqb tag tag refl

-- what is found has the key
pub found_at : (tag : ℕ) (ts : List (Option ℕ)) (i g k : ℕ) → position_from (is_tag tag) i ts ≡ Some g → g ≡ i + k → at ts k ≡ Some tag
found_at tag [] i g k h s = absurd (cc)
found_at tag (t ∷ ts) i g zero h s = elim (cases_Bool (is_tag tag t)) [
  | inl p ↦ is_tag_at tag t p
  | inr p ↦ let e = rw p at h in absurd (omega (arith, s, not_below (is_tag tag) ts (i + 1) g e))
]
found_at tag (t ∷ ts) i g (suc k) h s = elim (cases_Bool (is_tag tag t)) [
  | inl p ↦ let e : Some i ≡ Some g = rw p at h in let f : i ≡ g = cc in absurd (omega (arith, s, f))
  | inr p ↦ let e = rw p at h in found_at tag ts (i + 1) g k e (omega (arith, s))
]

-- where nothing is found no region has the key
pub not_found : (tag : ℕ) (ts : List (Option ℕ)) (i k : ℕ) → position_from (is_tag tag) i ts ≡ None → at ts k ≡ Some tag → ⊥
not_found tag [] i k h s = cc
not_found tag (t ∷ ts) i zero h s = let u : t ≡ Some tag = s in let e = rw (u, is_tag_same tag) at h in cc
not_found tag (t ∷ ts) i (suc k) h s = elim (cases_Bool (is_tag tag t)) [
  | inl p ↦ let e = rw p at h in cc
  | inr p ↦ let e = rw p at h in not_found tag ts (i + 1) k e s
]

pub find_some : (tag : ℕ) (ts : List (Option ℕ)) (o : Option ℕ) → o ≡ position_from (is_tag tag) 0 ts → IfSome o (λ r. at ts r ≡ Some tag)
find_some tag ts None h = tt
find_some tag ts (Some g) h = found_at tag ts 0 g g (sym h) (omega arith)

pub find_none : (tag : ℕ) (ts : List (Option ℕ)) (o : Option ℕ) → o ≡ position_from (is_tag tag) 0 ts → IfNone o ((r : ℕ) → at ts r ≡ Some tag → ⊥)
find_none tag ts None h = λ r g. not_found tag ts 0 r (sym h) g
find_none tag ts (Some g) h = tt

pub none_only : (C : Option ℕ → Type 0) → ((x : ℕ) → C (Some x) → ⊥) → (y : Option ℕ) → C y → y ≡ None
none_only C bad None h = refl
none_only C bad (Some x) h = absurd (bad x h)
