-- Members of lists, and actors that hold regions.
use Rattle.std.proofs.Common.{arith, ◌≡◌, ◌<◌, ◌≤◌, ℕ, zero, suc, Bool, true, false, List, [], ◌∷◌, sym, subst, ◌∙◌, ap, inl, inr, refl, length, get_or, Option, Some, None}
use Rattle.std.specs.Prelude.{◌==◌, not, ◌⊎◌}
use Rattle.std.specs.List.{filter}
use Rattle.std.proofs.lemmas.Bool.{cases_lt, cases_Bool, false≢true, eq-eqb, ne_eqb}
use Rattle.std.proofs.lemmas.List.Folds.{list_any_at}
use Rattle.freq_lists.specs.Lists.{is_in, head}
use Rattle.cache_door.specs.declared.hold.Hold.{Hold}
use Rattle.cache_door.specs.Machine.{State, hold_at, is_on, is_held, unheld}

-- where p fails at r, r is not among what p keeps
pub not_kept : (p : ℕ → Bool) (r : ℕ) (xs : List ℕ) → p r ≡ false → is_in r (filter p xs) ≡ false
not_kept p r [] e = refl
not_kept p r (x ∷ xs) e = elim (cases_Bool (p x)) [
  | inl t ↦
      let n : ¬ (x ≡ r) = λ i. let P : ℕ → Type 0 = λ y. p y ≡ true in false≢true (sym e ∙ subst P i t) in
      rw (t, ne_eqb x r n) (not_kept p r xs e)
  | inr f ↦ rw f (not_kept p r xs e)
]

-- what a filter keeps is a member of the list
pub kept_in : (p : ℕ → Bool) (r : ℕ) (xs : List ℕ) → is_in r (filter p xs) ≡ true → is_in r xs ≡ true
kept_in p r [] e = e
kept_in p r (x ∷ xs) e = elim (cases_Bool (x == r)) [
  | inl t ↦ rw t refl
  | inr f ↦ rw f (elim (cases_Bool (p x)) [
    | inl t ↦ kept_in p r xs (rw (t, f) at e)
    | inr g ↦ kept_in p r xs (rw g at e)
  ])
]

-- the first of what a filter keeps passes its test, and is in the list
pub head_passes : (p : ℕ → Bool) (r : ℕ) (xs : List ℕ) → head (filter p xs) ≡ Some r → (p r ≡ true) × (is_in r xs ≡ true)
head_passes p r [] e = (cc)
head_passes p r (x ∷ xs) e = elim (cases_Bool (p x)) [
  | inl t ↦
      let i : x ≡ r = (let h = rw t at e in cc) in
      let P : ℕ → Type 0 = λ y. p y ≡ true in
      (subst P i t, rw (eq-eqb x r i) refl)
  | inr f ↦
      let k = head_passes p r xs (rw f at e) in
      (k.0, elim (cases_Bool (x == r)) [ inl t ↦ rw t refl | inr g ↦ rw g k.1 ])
]

-- ---- holds

pub is_on_some : (r : ℕ) (o : Option Hold) (h : Hold) → o ≡ Some h → h.region ≡ r → is_on r o ≡ true
is_on_some r None h e i = absurd (cc)
is_on_some r (Some k) h e i = let s : k.region ≡ h.region = ap region_of e in eq-eqb k.region r (s ∙ i)
  where
    region_of : Option Hold → ℕ
    region_of None = 0
    region_of (Some x) = x.region

within : (s : State) (a : ℕ) (h : Hold) → hold_at s a ≡ Some h → (a < length s.holds) ⊎ (length s.holds ≤ a)
within s a h e = cases_lt a (length s.holds)

pub past : {X : Type 0} (xs : List X) (i : ℕ) (d : X) → length xs ≤ i → get_or xs i d ≡ d
past [] i d h = refl
past (x ∷ xs) zero d h = absurd (omega arith)
past (x ∷ xs) (suc i) d h = past xs i d (omega arith)

-- a region that an actor holds is held
pub held_is : (s : State) (a : ℕ) (h : Hold) → hold_at s a ≡ Some h → is_held s h.region ≡ true
held_is s a h e = elim (cases_lt a (length s.holds)) [
  | inl l ↦ list_any_at (is_on h.region) s.holds a None l (is_on_some h.region (hold_at s a) h e refl)
  | inr g ↦ absurd (none_some (sym (past s.holds a None g) ∙ e))
]
  where
    none_some : {h : Hold} → None ≡ Some h → ⊥
    none_some e = cc

pub not_unheld : (s : State) (a : ℕ) (h : Hold) (rs : List ℕ) → hold_at s a ≡ Some h → is_in h.region (unheld s rs) ≡ false
not_unheld s a h rs e = not_kept (λ r. not (is_held s r)) h.region rs (rw (held_is s a h e) refl)

-- a region that nobody holds is not that of a hold
pub off_region : (s : State) (a r : ℕ) (h : Hold) → hold_at s a ≡ Some h → is_held s r ≡ false → ¬ (h.region ≡ r)
off_region s a r h e n i = let P : ℕ → Type 0 = λ k. is_held s k ≡ true in false≢true (sym n ∙ subst P i (held_is s a h e))
