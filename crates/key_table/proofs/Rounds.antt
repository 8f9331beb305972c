-- Steps round the places of a table, and their order as seen from one place.
use Rattle.std.proofs.Common.{arith, ◌≡◌, ◌≢◌, ◌<◌, ◌≤◌, ◌+◌, ◌-◌, ℕ, suc, true, false, ◌∙◌, inl, inr, refl}
use Rattle.std.specs.Prelude.{nat_le, ◌⊎◌}
use Rattle.std.proofs.lemmas.Bool.{cases_lt, lt-ltb, le-ltb}
use Rattle.std.proofs.lemmas.Bool.Decides.{nat_tests}
use Rattle.key_table.specs.Slots.{steps, after}

le_is : (a b : ℕ) → a ≤ b → nat_le a b ≡ true
le_is a b h = grind (arith, nat_tests)

le_not : (a b : ℕ) → b < a → nat_le a b ≡ false
le_not a b h = grind (arith, nat_tests)

module _ (size : ℕ) where
  steps_are : (a b : ℕ) → ((a ≤ b) × (steps size a b ≡ b - a)) ⊎ ((b < a) × (steps size a b ≡ b + (size - a)))
  steps_are a b = elim (cases_lt b a) [
    | inl h ↦ inr (h, rw (le_not a b h) refl)
    | inr h ↦ inl (h, rw (le_is a b h) refl)
  ]

  after_is : (a : ℕ) → ((a + 1 < size) × (after size a ≡ a + 1)) ⊎ ((size ≤ a + 1) × (after size a ≡ 0))
  after_is a = elim (cases_lt (a + 1) size) [
    | inl h ↦ inl (h, rw (lt-ltb (a + 1) size h) refl)
    | inr h ↦ inr (h, rw (le-ltb (a + 1) size h) refl)
  ]

  pub after_less : (a : ℕ) → a < size → after size a < size
  after_less a h = elim (after_is a) [ inl p ↦ omega (arith, p) | inr p ↦ omega (arith, p, h) ]

  pub steps_self : (a : ℕ) → steps size a a ≡ 0
  steps_self a = elim (steps_are a a) [ inl p ↦ omega (arith, p) | inr p ↦ absurd (omega (arith, p)) ]

  pub steps_less : (a b : ℕ) → a < size → b < size → steps size a b < size
  steps_less a b h g = elim (steps_are a b) [ inl p ↦ omega (arith, p, g) | inr p ↦ omega (arith, p, h, g) ]

  pub steps_same : (f a b : ℕ) → f < size → a < size → b < size → steps size f a ≡ steps size f b → a ≡ b
  steps_same f a b hf ha hb e = elim (steps_are f a) [
    | inl p ↦ elim (steps_are f b) [ inl q ↦ omega (arith, p, q, e) | inr q ↦ absurd (omega (arith, p, q, e, hf, ha, hb)) ]
    | inr p ↦ elim (steps_are f b) [ inl q ↦ absurd (omega (arith, p, q, e, hf, ha, hb)) | inr q ↦ omega (arith, p, q, e) ]
  ]

  pub steps_after : (f a : ℕ) → f < size → a < size → after size a ≢ f → steps size f (after size a) ≡ suc (steps size f a)
  steps_after f a hf ha d = elim (after_is a) [
    | inl n ↦ rw n.1 (elim (steps_are f a) [
      | inl p ↦ elim (steps_are f (a + 1)) [ inl q ↦ omega (arith, p, q) | inr q ↦ absurd (omega (arith, p, q)) ]
      | inr p ↦ elim (steps_are f (a + 1)) [
        | inl q ↦ absurd (d (n.1 ∙ omega (arith, p, q)))
        | inr q ↦ omega (arith, p, q, hf)
      ]
    ])
    | inr n ↦ rw n.1 (elim (steps_are f a) [
      | inl p ↦ elim (steps_are f 0) [
        | inl q ↦ absurd (d (n.1 ∙ omega (arith, q)))
        | inr q ↦ omega (arith, p, q, n.0, ha, hf)
      ]
      | inr p ↦ absurd (omega (arith, p, n.0, hf))
    ])
  ]

  -- behind the last place as seen from f comes f
  pub steps_round : (f a : ℕ) → f < size → a < size → after size a ≡ f → suc (steps size f a) ≡ size
  steps_round f a hf ha e = elim (after_is a) [
    | inl n ↦ elim (steps_are f a) [ inl p ↦ absurd (omega (arith, p, n, e)) | inr p ↦ omega (arith, p, n, e, hf) ]
    | inr n ↦ elim (steps_are f a) [ inl p ↦ omega (arith, p, n, e, ha) | inr p ↦ absurd (omega (arith, p, n, e)) ]
  ]

  -- a place that f sees no later than another: the steps between them
  pub between : (f a b : ℕ) → f < size → a < size → b < size → steps size f a ≤ steps size f b → steps size a b + steps size f a ≡ steps size f b
  between f a b hf ha hb h = elim (steps_are f a) [
    | inl p ↦ elim (steps_are f b) [
      | inl q ↦ elim (steps_are a b) [ inl r ↦ omega (arith, p, q, r, h) | inr r ↦ absurd (omega (arith, p, q, r, h)) ]
      | inr q ↦ elim (steps_are a b) [ inl r ↦ absurd (omega (arith, p, q, r)) | inr r ↦ omega (arith, p, q, r, hf, ha) ]
    ]
    | inr p ↦ elim (steps_are f b) [
      | inl q ↦ absurd (omega (arith, p, q, h, hf, ha, hb))
      | inr q ↦ elim (steps_are a b) [ inl r ↦ omega (arith, p, q, r, h) | inr r ↦ absurd (omega (arith, p, q, r, h, hf)) ]
    ]
  ]

  -- a place that f sees later than another: the steps go past f
  pub round : (f a b : ℕ) → f < size → a < size → b < size → steps size f b < steps size f a → steps size a b + steps size f a ≡ steps size f b + size
  round f a b hf ha hb h = elim (steps_are f a) [
    | inl p ↦ elim (steps_are f b) [
      | inl q ↦ elim (steps_are a b) [ inl r ↦ absurd (omega (arith, p, q, r, h)) | inr r ↦ omega (arith, p, q, r, ha) ]
      | inr q ↦ absurd (omega (arith, p, q, h, hf, ha, hb))
    ]
    | inr p ↦ elim (steps_are f b) [
      | inl q ↦ elim (steps_are a b) [ inl r ↦ omega (arith, p, q, r, hf, ha) | inr r ↦ absurd (omega (arith, p, q, r)) ]
      | inr q ↦ elim (steps_are a b) [ inl r ↦ absurd (omega (arith, p, q, r, h)) | inr r ↦ omega (arith, p, q, r, h, hf, ha) ]
    ]
  ]
