-- The least unused number is unused.
use Rattle.std.proofs.Common.{arith, ◌≡◌, ◌<◌, ◌≤◌, ◌+◌, ℕ, zero, suc, Bool, true, false, List, [], ◌∷◌, ◌++◌, sym, ◌∙◌, ap, inl, inr, refl, length}
use Rattle.std.specs.Prelude.{◌==◌, if◌then◌else◌}
use Rattle.std.specs.List.{list_any}
use Rattle.std.proofs.lemmas.Bool.{cases_Bool, cases_lt}
use Rattle.std.proofs.lemmas.Bool.Decides.{nat_tests}
use Rattle.sparse_tracker.specs.ByteStates.{least_from, least_unused}
use Rattle.sparse_tracker.specs.Kept.{AllDiffer}

abbrev pub used_by : List ℕ → ℕ → Bool
used_by used n = list_any (λ m. m == n) used

-- the list without the first place of a number
abbrev pub less : ℕ → List ℕ → List ℕ
less n [] = []
less n (m ∷ ms) = if m == n then ms else m ∷ less n ms

pub length-less : (n : ℕ) (used : List ℕ) → used_by used n ≡ true → length (less n used) + 1 ≡ length used
length-less n [] h = absurd (cc)
length-less n (m ∷ ms) h = elim (cases_Bool (m == n)) [
  | inl e ↦ rw e (omega arith)
  | inr e ↦ let k = rw e at h in rw e (let r = length-less n ms k in omega (arith, r))
]

pub stays_used : (n k : ℕ) (used : List ℕ) → used_by used k ≡ true → (n == k) ≡ false → used_by (less n used) k ≡ true
stays_used n k [] h d = absurd (cc)
stays_used n k (m ∷ ms) h d = elim (cases_Bool (m == n)) [
  | inl e ↦
      let s : m ≡ n = grind (arith, nat_tests) in
      let f : (m == k) ≡ false = ap (λ (x : ℕ). x == k) s ∙ d in
      let r = rw f at h in rw e r
  | inr e ↦ elim (cases_Bool (m == k)) [
    | inl f ↦ rw (e, f) refl
    | inr f ↦ let r = rw f at h in rw (e, f) (stays_used n k ms r d)
  ]
]

-- a list that holds all numbers below n has n elements at least
pub holds_all : (n : ℕ) (used : List ℕ) → ((k : ℕ) → k < n → used_by used k ≡ true) → n ≤ length used
holds_all zero used h = omega arith
holds_all (suc n) used h =
    let l = length-less n used (h n (omega arith)) in
    let r = holds_all n (less n used) (λ k b. stays_used n k used (h k (omega arith)) (let d : (n == k) ≡ false = grind (arith, nat_tests) in d)) in
    omega (arith, l, r)

pub fresh_from : (k n : ℕ) (used : List ℕ) → k + n ≡ length used → ((m : ℕ) → m < n → used_by used m ≡ true) → used_by used (least_from k n used) ≡ false
fresh_from zero n used e h = elim (cases_Bool (used_by used n)) [
  | inl t ↦ absurd (let r = holds_all (suc n) used (λ m b. elim (cases_lt m n) [ inl l ↦ h m l | inr l ↦ (let s : n ≡ m = omega arith in ap (used_by used) (sym s) ∙ t) ]) in omega (arith, r))
  | inr f ↦ f
]
fresh_from (suc k) n used e h = elim (cases_Bool (used_by used n)) [
  | inl t ↦ rw t (fresh_from k (n + 1) used (omega arith) (λ m b. elim (cases_lt m n) [ inl l ↦ h m l | inr l ↦ (let s : n ≡ m = omega arith in ap (used_by used) (sym s) ∙ t) ]))
  | inr f ↦ rw f f
]

pub fresh : (used : List ℕ) → used_by used (least_unused used) ≡ false
fresh used = fresh_from (length used) 0 used (omega arith) (λ m b. absurd (omega arith))

pub any_last : (n m : ℕ) (ns : List ℕ) → used_by ns n ≡ false → (m == n) ≡ false → used_by (ns ++ m ∷ []) n ≡ false
any_last n m [] h d = rw d refl
any_last n m (k ∷ ns) h d = elim (cases_Bool (k == n)) [
  | inl e ↦ absurd (let r = rw e at h in cc)
  | inr e ↦ let r = rw e at h in rw e (any_last n m ns r d)
]

pub differ_last : (m : ℕ) (ns : List ℕ) → AllDiffer ns → used_by ns m ≡ false → AllDiffer (ns ++ m ∷ [])
differ_last m [] a h = (refl, tt)
differ_last m (n ∷ ns) a h = elim (cases_Bool (n == m)) [
  | inl e ↦ absurd (let r = rw e at h in cc)
  | inr e ↦ let r = rw e at h in (any_last n m ns a.0 (let d : (m == n) ≡ false = grind (arith, nat_tests) in d), differ_last m ns a.1 r)
]
