-- Where there are no more keys than regions, a key that is not mapped finds a free region, and nothing is evicted.
use Rattle.std.proofs.Common.{arith, ◌≡◌, ◌<◌, ◌≤◌, ℕ, suc, true, List, [], ◌∷◌, sym, ◌∙◌, ap, inl, inr, refl, length, Option, Some, None}
use Rattle.std.specs.Prelude.{◌==◌}
use Rattle.std.proofs.lemmas.Bool.{cases_eq, cases_Bool, eq-eqb, ne_eqb}
use Rattle.freq_lists.specs.Lists.{is_in, without, times_in, times, head}
use Rattle.cache_policy.specs.Policy.{PolicyView, tag_at, settle_all}
use Rattle.cache_policy.specs.Kept.{IsGood}
use Rattle.cache_policy.proofs.Tags.{at}
use Rattle.cache_door.specs.declared.hold.Hold.{Hold}
use Rattle.cache_door.specs.Machine.{settled_by, evicted_by, room_by, unheld_by}

-- ---- lists of keys

without_most : (x : ℕ) (l : List ℕ) → length (without x l) ≤ length l
without_most x [] = omega arith
without_most x (y ∷ l) = elim (cases_Bool (y == x)) [
  | inl t ↦ rw t (omega (arith, without_most x l))
  | inr t ↦ rw t (omega (arith, without_most x l))
]

without_less : (x : ℕ) (l : List ℕ) → is_in x l ≡ true → length (without x l) < length l
without_less x [] h = absurd (cc)
without_less x (y ∷ l) h = elim (cases_Bool (y == x)) [
  | inl t ↦ rw t (omega (arith, without_most x l))
  | inr t ↦ let e = rw t at h in rw t (omega (arith, without_less x l e))
]

in_without : (x y : ℕ) (l : List ℕ) → ¬ (y ≡ x) → is_in y l ≡ true → is_in y (without x l) ≡ true
in_without x y [] n h = absurd (cc)
in_without x y (z ∷ l) n h = elim (cases_eq z x) [
  | inl e ↦ let g = rw (ne_eqb z y (λ k. n (sym k ∙ e))) at h in rw (eq-eqb z x e) (in_without x y l n g)
  | inr d ↦ rw (ne_eqb z x d) (elim (cases_Bool (z == y)) [
    | inl t ↦ rw t refl
    | inr t ↦ let g = rw t at h in rw t (in_without x y l n g)
  ])
]

-- ---- a region without a key

-- keys of mapped regions are listed and differ, and one more listed key is not mapped
pub record Listed (tag : ℕ) (ts : List (Option ℕ)) (keys : List ℕ) : Type 0 where
  pub all : (r k : ℕ) → at ts r ≡ Some k → is_in k keys ≡ true
  pub apart : (r s k : ℕ) → at ts r ≡ Some k → at ts s ≡ Some k → r ≡ s
  pub none : (r : ℕ) → at ts r ≡ Some tag → ⊥
  pub here : is_in tag keys ≡ true
  pub few : length keys ≤ length ts

zero_suc : (r : ℕ) → 0 ≡ suc r → ⊥
zero_suc r e = omega (arith, e)

suc_same : (r s : ℕ) → suc r ≡ suc s → r ≡ s
suc_same r s e = omega (arith, e)

pub unmapped : (tag : ℕ) (ts : List (Option ℕ)) (keys : List ℕ) → Listed tag ts keys → (r : ℕ) × (r < length ts) × (at ts r ≡ None)
unmapped tag [] keys h = absurd (omega (arith, h.few, without_less tag keys h.here))
unmapped tag (None ∷ ts) keys h = (0, omega arith, refl)
unmapped tag (Some k ∷ ts) keys h =
    let same : at (Some k ∷ ts) 0 ≡ Some k = refl in
    let rest = unmapped tag ts (without k keys) (record {
      all = λ r j e. in_without k j keys (λ s. zero_suc r (h.apart 0 (suc r) k same (e ∙ ap (λ (n : ℕ). Some n) s))) (h.all (suc r) j e);
      apart = λ r s j e f. suc_same r s (h.apart (suc r) (suc s) j e f);
      none = λ r e. h.none (suc r) e;
      here = in_without k tag keys (λ s. h.none 0 (ap (λ (n : ℕ). Some n) (sym s))) h.here;
      few = omega (arith, h.few, without_less k keys (h.all 0 k same));
    }) in
    (suc rest.0, omega (arith, rest.1), rest.2)

-- ---- it is free, where none is leaving

some_long : (r : ℕ) (l : List ℕ) → 0 < times_in r l → 0 < length l
some_long r [] h = absurd (omega (arith, h))
some_long r (x ∷ l) h = omega arith

pub free_some : (p : PolicyView) (r : ℕ) → IsGood p → p.leaving ≡ [] → r < length p.tags → tag_at p r ≡ None → 0 < length p.free
free_some p r good left inside none =
    let once = good.once r inside in
    let listed : times r p.lists ≡ 0 = rw none at (good.mapped r) in
    let away : times_in r p.leaving ≡ 0 = ap (times_in r) left in
    some_long r p.free (omega (arith, once, listed, away))

pub front : (l : List ℕ) → 0 < length l → (r : ℕ) × (head l ≡ Some r)
front [] h = absurd (omega (arith, h))
front (x ∷ l) h = (x, refl)

-- ---- no room is made

settled_same : (holds : List (Option Hold)) (p : PolicyView) → p.leaving ≡ [] → settled_by holds p ≡ p
settled_same holds p left = ap (λ (l : List ℕ). settle_all (unheld_by holds l) p) left

pub room_same : (holds : List (Option Hold)) (p : PolicyView) → p.leaving ≡ [] → 0 < length p.free → room_by holds p ≡ p
room_same holds p left some = ap (evicted_by holds) (settled_same holds p left) ∙ rw (ne_eqb 0 (length p.free) (λ e. omega (arith, e, some))) refl
