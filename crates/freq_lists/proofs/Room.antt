-- Different numbers below a bound are no more than the bound.
use Rattle.std.proofs.Common.{arith, ◌≡◌, ◌<◌, ◌≤◌, ◌+◌, ℕ, zero, suc, List, [], ◌∷◌, inl, inr, refl, length}
use Rattle.std.specs.Prelude.{◌==◌}
use Rattle.std.proofs.lemmas.Bool.{cases_eq, cases_Bool, eq-eqb}
use Rattle.freq_lists.specs.Lists.{without, times_in}
use Rattle.freq_lists.proofs.Counts.{times_without}

times_less : (m n : ℕ) (l : List ℕ) → times_in m (without n l) ≤ times_in m l
times_less m n [] = omega arith
times_less m n (x ∷ l) = elim (cases_Bool (x == n)) [
  | inl t ↦ rw t (omega (arith, times_less m n l))
  | inr t ↦ rw t (omega (arith, times_less m n l))
]

length_less : (n : ℕ) (l : List ℕ) → length l ≡ length (without n l) + times_in n l
length_less n [] = refl
length_less n (x ∷ l) = elim (cases_Bool (x == n)) [
  | inl t ↦ rw t (omega (arith, length_less n l))
  | inr t ↦ rw t (omega (arith, length_less n l))
]

pub room : (bound : ℕ) (l : List ℕ) → ((n : ℕ) → times_in n l ≤ 1) → ((n : ℕ) → 0 < times_in n l → n < bound) → length l ≤ bound
room bound [] once within = omega arith
room zero (x ∷ l) once within = absurd (omega (arith, within x (rw (eq-eqb x x refl) (omega arith))))
room (suc bound) (x ∷ l) once within =
    let rest = room bound (without bound (x ∷ l)) (λ n. omega (arith, times_less n bound (x ∷ l), once n)) (λ n h. below n h) in
    omega (arith, rest, length_less bound (x ∷ l), once bound)
  where
    below : (n : ℕ) → 0 < times_in n (without bound (x ∷ l)) → n < bound
    below n h = elim (cases_eq n bound) [
      | inl e ↦ absurd (let g = rw e at h in omega (arith, g, times_without bound (x ∷ l)))
      | inr d ↦ let w = within n (omega (arith, h, times_less n bound (x ∷ l))) in omega (arith, w, d)
    ]
