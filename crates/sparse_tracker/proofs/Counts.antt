-- How many numbers are below a limit, where no two are equal, and the least unused number.
use Rattle.std.proofs.Common.{arith, ◌≡◌, ◌<◌, ◌≤◌, ◌+◌, ℕ, zero, suc, true, false, List, [], ◌∷◌, sym, inl, inr, refl, length}
use Rattle.std.specs.Prelude.{nat_lt, ◌==◌}
use Rattle.std.proofs.lemmas.Bool.{cases_Bool, cases_lt}
use Rattle.std.proofs.lemmas.Bool.Decides.{nat_tests}
use Rattle.sparse_tracker.specs.ByteStates.{least_from, least_unused}
use Rattle.sparse_tracker.specs.Kept.{AllDiffer, count_below}
use Rattle.sparse_tracker.proofs.Fresh.{used_by, holds_all}

pub none_below : (ns : List ℕ) → count_below 0 ns ≡ 0
none_below [] = refl
none_below (n ∷ ns) = let e : nat_lt n 0 ≡ false = grind (arith, nat_tests) in rw e (let r = none_below ns in omega (arith, r))

pub below_all : (k : ℕ) (ns : List ℕ) → count_below k ns ≤ length ns
below_all k [] = omega arith
below_all k (n ∷ ns) = elim (cases_Bool (nat_lt n k)) [
  | inl e ↦ rw e (let r = below_all k ns in omega (arith, r))
  | inr e ↦ rw e (let r = below_all k ns in omega (arith, r))
]

pub unused_step : (k m : ℕ) (ns : List ℕ) → m ≡ k + 1 → used_by ns k ≡ false → count_below m ns ≡ count_below k ns
unused_step k m [] q h = refl
unused_step k m (n ∷ ns) q h = elim (cases_Bool (n == k)) [
  | inl e ↦ absurd (let r = rw e at h in cc)
  | inr e ↦
      let r = rw e at h in
      let s : nat_lt n m ≡ nat_lt n k = grind (arith, nat_tests) in
      rw (s, unused_step k m ns q r) refl
]

pub used_step : (k m : ℕ) (ns : List ℕ) → m ≡ k + 1 → AllDiffer ns → used_by ns k ≡ true → count_below m ns ≡ count_below k ns + 1
used_step k m [] q d h = absurd (cc)
used_step k m (n ∷ ns) q d h = elim (cases_Bool (n == k)) [
  | inl e ↦
      let s : n ≡ k = grind (arith, nat_tests) in
      let r = rw s at d.0 in
      let a : nat_lt n m ≡ true = grind (arith, nat_tests) in
      let b : nat_lt n k ≡ false = grind (arith, nat_tests) in
      rw (a, b, unused_step k m ns q r) (omega arith)
  | inr e ↦
      let r = rw e at h in
      let s : nat_lt n m ≡ nat_lt n k = grind (arith, nat_tests) in
      let i = used_step k m ns q d.1 r in
      rw (s, i) (omega arith)
]

-- no more numbers than the limit are below it
pub below_limit : (k : ℕ) (ns : List ℕ) → AllDiffer ns → count_below k ns ≤ k
below_limit zero ns d = let e = none_below ns in omega (arith, e)
below_limit (suc k) ns d = elim (cases_Bool (used_by ns k)) [
  | inl e ↦ let r = below_limit k ns d in let s = used_step k (suc k) ns (omega arith) d e in omega (arith, r, s)
  | inr e ↦ let r = below_limit k ns d in let s = unused_step k (suc k) ns (omega arith) e in omega (arith, r, s)
]

-- where as many are below it, all numbers below it are in use
pub all_used : (k : ℕ) (ns : List ℕ) → AllDiffer ns → count_below k ns ≡ k → (i : ℕ) → i < k → used_by ns i ≡ true
all_used zero ns d h i l = absurd (omega (arith, l))
all_used (suc k) ns d h i l = elim (cases_Bool (used_by ns k)) [
  | inl e ↦ elim (cases_lt i k) [
    | inl m ↦ let s = used_step k (suc k) ns (omega arith) d e in all_used k ns d (omega (arith, h, s)) i m
    | inr m ↦ let s : i ≡ k = omega arith in rw s e
  ]
  | inr e ↦ absurd (let r = below_limit k ns d in let s = unused_step k (suc k) ns (omega arith) e in omega (arith, r, s, h))
]

pub least_from_is : (k n r : ℕ) (ns : List ℕ) → n ≤ r → r ≤ k + n → ((i : ℕ) → i < r → used_by ns i ≡ true) → used_by ns r ≡ false → least_from k n ns ≡ r
least_from_is zero n r ns a b h f = omega arith
least_from_is (suc k) n r ns a b h f = elim (cases_lt n r) [
  | inl l ↦ rw (h n l) (least_from_is k (n + 1) r ns (omega arith) (omega arith) h f)
  | inr l ↦ let s : n ≡ r = omega arith in rw (s, f) refl
]

-- all numbers below it are in use, and one up to it is not
pub least_is : (r : ℕ) (ns : List ℕ) → AllDiffer ns → r ≤ count_below r ns → count_below (r + 1) ns ≤ r → r ≡ least_unused ns
least_is r ns d a b =
    let l = below_limit r ns d in
    let all = all_used r ns d (omega (arith, a, l)) in
    let most = holds_all r ns all in
    elim (cases_Bool (used_by ns r)) [
      | inl e ↦ absurd (let s = used_step r (r + 1) ns refl d e in omega (arith, a, b, s))
      | inr e ↦ sym (least_from_is (length ns) 0 r ns (omega arith) (omega (arith, most)) all e)
    ]
