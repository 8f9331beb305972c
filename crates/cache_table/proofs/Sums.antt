-- Sums over the views, and the turns in a list.
use Rattle.std.proofs.Common.{inl, inr, ◌≡◌, ℕ, zero, suc, ◌+◌, ◌<◌, ◌≤◌, ◌≢◌, List, [], ◌∷◌, ◌++◌, set, sym, refl, ap, ◌∙◌, arith, cond, eq-eqb, ne_eqb, get_or-set_other}
use mathlib.Core.Logic.{dite}
use native.Mathlib.Decide.{ℕ_discrete}
use mathlib.Core.Option.{some, some-injective, some-ne-none}
use lib.ListN.{get_elem?}
use Rattle.std.specs.Prelude.{true, Option}
use Rattle.sparse_tracker.specs.Weights.{total}
use Rattle.cache_door.specs.declared.hold.Hold.{Hold}
use Rattle.std.proofs.lemmas.Bool.{cases_eq, eq-eqb, ne_eqb}
use Rattle.cache_table.specs.Calls.{marks}
use Rattle.cache_table.specs.Rule.{only, times, count_in, Noted, regions_in, at_of, value, weight}

module _ {A : Type 0} (g : A → ℕ) where
  pub total-set : (l : List A) (j : ℕ) (v w : A) → get_elem? l j ≡ some v → total g (set l j w) + g v ≡ total g l + g w
  total-set [] j v w e = absurd (some-ne-none v (sym e))
  total-set (x ∷ xs) zero v w e = omega (arith, ap g (some-injective x v e))
  total-set (x ∷ xs) (suc j) v w e = omega (arith, total-set xs j v w e)

  pub total-append : (l m : List A) → total g (l ++ m) ≡ total g l + total g m
  total-append [] m = omega arith
  total-append (x ∷ xs) m = omega (arith, total-append xs m)

  pub term_le : (l : List A) (j : ℕ) (v : A) → get_elem? l j ≡ some v → g v ≤ total g l
  term_le [] j v e = absurd (some-ne-none v (sym e))
  term_le (x ∷ xs) zero v e = omega (arith, ap g (some-injective x v e))
  term_le (x ∷ xs) (suc j) v e = omega (arith, term_le xs j v e)

  pub terms_le : (l : List A) (j k : ℕ) (v u : A) → k ≢ j → get_elem? l j ≡ some v → get_elem? l k ≡ some u → g v + g u ≤ total g l
  terms_le [] j k v u n e d = absurd (some-ne-none v (sym e))
  terms_le (x ∷ xs) zero zero v u n e d = absurd (n refl)
  terms_le (x ∷ xs) zero (suc k) v u n e d = omega (arith, ap g (some-injective x v e), term_le xs k u d)
  terms_le (x ∷ xs) (suc j) zero v u n e d = omega (arith, ap g (some-injective x u d), term_le xs j v e)
  terms_le (x ∷ xs) (suc j) (suc k) v u n e d = omega (arith, terms_le xs j k v u (λ h. n (ap suc h)) e d)

  pub total_same : (l : List A) (j : ℕ) (v w : A) → get_elem? l j ≡ some v → g w ≡ g v → total g (set l j w) ≡ total g l
  total_same l j v w e same = omega (arith, total-set l j v w e)

pub yes : (n k : ℕ) → n ≡ k → only n k ≡ 1
yes n k e = ap (λ b. cond b 1 0) (eq-eqb n k e)

pub no : (n k : ℕ) → n ≢ k → only n k ≡ 0
no n k e = ap (λ b. cond b 1 0) (ne_eqb n k e)

-- what no turn of these has may change
pub noted_else : (n k x : ℕ) (words : List ℕ) (ts : List (ℕ × ℕ)) → times k ts ≡ 0 → Noted n words ts → Noted n (set words k x) ts
noted_else n k x words [] none h = tt
noted_else n k x words (t ∷ ts) none h = dite (ℕ_discrete t.0 k)
    (λ e. absurd (omega (arith, yes t.0 k e)))
    (λ ne. (h.0, get_or-set_other words k t.0 x 0 ne ∙ h.1, noted_else n k x words ts (omega (arith, no t.0 k ne)) h.2))

pub count-append : (m : ℕ) (l k : List ℕ) → count_in m (l ++ k) ≡ count_in m l + count_in m k
count-append m [] k = omega arith
count-append m (x ∷ xs) k = omega (arith, count-append m xs k)

pub weight_yes : (k : ℕ) (f : Hold → ℕ) (h : Option Hold) → at_of h ≡ k → weight k f h ≡ value f h
weight_yes k f h e = ap (λ b. cond b (value f h) 0) (eq-eqb (at_of h) k e)

pub weight_no : (k : ℕ) (f : Hold → ℕ) (h : Option Hold) → at_of h ≢ k → weight k f h ≡ 0
weight_no k f h n = ap (λ b. cond b (value f h) 0) (ne_eqb (at_of h) k n)

pub no_region : (ts : List (ℕ × ℕ)) (k : ℕ) → 0 < k → regions_in ts ≡ 0 → times k ts ≡ 0
no_region [] k p e = refl
no_region (t ∷ ts) k p e = dite (ℕ_discrete t.0 0)
    (λ z. let r = no_region ts k p (omega arith) in omega (arith, no t.0 k (λ is. omega arith)))
    (λ ne. absurd (omega (arith, ap {B = ℕ} (λ b. cond b 0 1) (ne_eqb t.0 0 ne))))

pub noted_low : (n k x : ℕ) (words : List ℕ) → n < k → (ts : List (ℕ × ℕ)) → Noted n words ts → Noted n (set words k x) ts
noted_low n k x words far [] h = tt
noted_low n k x words far (t ∷ ts) h = (h.0, get_or-set_other words k t.0 x 0 (λ e. let l = h.0 in omega arith) ∙ h.1, noted_low n k x words far ts h.2)

module _ {A : Type 0} (g : A → ℕ) where
  pub total_none : (l : List A) → ((i : ℕ) (u : A) → get_elem? l i ≡ some u → g u ≡ 0) → total g l ≡ 0
  total_none [] h = refl
  total_none (x ∷ xs) h = omega (arith, h 0 x refl, total_none xs (λ i u e. h (suc i) u e))

  -- where no other term counts
  pub total_alone : (l : List A) (j : ℕ) (v : A) → get_elem? l j ≡ some v → ((i : ℕ) (u : A) → i ≢ j → get_elem? l i ≡ some u → g u ≡ 0) → total g l ≡ g v
  total_alone [] j v e h = absurd (some-ne-none v (sym e))
  total_alone (x ∷ xs) zero v e h = omega (arith, ap g (some-injective x v e), total_none xs (λ i u d. h (suc i) u (λ z. omega arith) d))
  total_alone (x ∷ xs) (suc j) v e h = omega (arith, h 0 x (λ z. omega arith) refl, total_alone xs j v e (λ i u n d. h (suc i) u (λ z. n (omega arith)) d))

-- a number stands in a list where it is counted there
pub marks_of : (m : ℕ) (l : List ℕ) → 0 < count_in m l → marks l m ≡ true
marks_of m [] h = absurd (omega arith)
marks_of m (x ∷ xs) h = elim (cases_eq x m) [
  | inl e ↦ rw (eq-eqb m x (sym e)) refl
  | inr d ↦ let u = rw (ne_eqb x m d) at h in rw (ne_eqb m x (λ e. d (sym e)), marks_of m xs (omega (arith, u))) refl
]

pub count_of : (m : ℕ) (l : List ℕ) → marks l m ≡ true → 0 < count_in m l
count_of m [] h = absurd (cc)
count_of m (x ∷ xs) h = elim (cases_eq x m) [
  | inl e ↦ rw (eq-eqb x m e) (omega arith)
  | inr d ↦ let u = rw (ne_eqb m x (λ e. d (sym e))) at h in rw (ne_eqb x m d) (omega (arith, count_of m xs u))
]
