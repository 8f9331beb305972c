-- Settling and leaving, as far as the rule sees it.
use Rattle.std.proofs.Common.{arith, ◌≡◌, ◌<◌, ◌≤◌, ◌+◌, ℕ, List, [], ◌∷◌, ◌++◌, sym, ◌∙◌, ap, refl, length, get_or, inl, inr}
use Rattle.std.proofs.lemmas.Bool.{cases_lt}
use Rattle.freq_lists.specs.Lists.{times_in}
use Rattle.cache_policy.specs.Policy.{PolicyView, settle, settle_all}
use Rattle.cache_policy.specs.Kept as policy
use Rattle.cache_door.proofs.Walks.{at_times, taken_out, once_leaving}
use Rattle.cache_table.specs.Abouts.{About}
use Rattle.cache_table.specs.Rule.{Governs}

-- a region that stands in a list is one of the cache's
pub is_region : (p : PolicyView) → policy.IsGood p → (r : ℕ) → 0 < policy.places p r → r < length p.tags
is_region p good r h = elim (cases_lt r (length p.tags)) [
  | inl l ↦ l
  | inr g ↦ absurd (omega (arith, h, good.none_else r g))
]

pub leaving_times : (p : PolicyView) (i r : ℕ) → i < length p.leaving → r ≡ get_or p.leaving i 0 → 0 < times_in r p.leaving
leaving_times p i r h e = at_times r i p.leaving h (sym e)

pub leaving_near : (a : About) (p : PolicyView) (i r : ℕ) → Governs a p → i < length p.leaving → r ≡ get_or p.leaving i 0 → r + 1 ≤ a.config.regions
leaving_near a p i r g h e = omega (arith, g.regions, is_region p g.good r (omega (arith, leaving_times p i r h e)))

pub settle_more : (rs : List ℕ) (r : ℕ) (p q : PolicyView) → q ≡ settle_all rs p → settle r q ≡ settle_all (rs ++ r ∷ []) p
settle_more rs r p q e = ap (settle r) e ∙ more rs p
  where
    more : (rs : List ℕ) (p : PolicyView) → settle r (settle_all rs p) ≡ settle_all (rs ++ r ∷ []) p
    more [] p = refl
    more (x ∷ xs) p = more xs (settle x p)

pub settle_shorter : (p : PolicyView) (i r : ℕ) → policy.IsGood p → i < length p.leaving → r ≡ get_or p.leaving i 0 → length (settle r p).leaving + 1 ≡ length p.leaving
settle_shorter p i r good h e = (taken_out r i p.leaving h (sym e) (once_leaving p r good)).1
