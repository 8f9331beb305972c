-- Candidates are mapped regions.
use Rattle.std.proofs.Common.{arith, ◌≡◌, ◌<◌, ◌+◌, ℕ, false, List, [], ◌∷◌, inl, inr, refl, Option, Some, None}
use Rattle.std.specs.Prelude.{◌==◌, IsSome, IfSome}
use Rattle.std.specs.List.{position_from}
use Rattle.std.proofs.lemmas.Bool.{cases_Bool}
use Rattle.freq_lists.specs.Lists.{ListsView, times, times_in, is_in}
use Rattle.cache_policy.specs.Policy.{PolicyView, tag_at}
use Rattle.cache_policy.specs.Ageing.{candidates_in}
use Rattle.cache_policy.specs.Kept.{IsGood}
use Rattle.cache_policy.proofs.Tags.{some_is}
use Rattle.cache_policy.proofs.Places.{candidate_times}

pub mapped_all : (p : PolicyView) → IsGood p → (o : Option ℕ) → ((r : ℕ) → o ≡ Some r → 0 < times_in r (candidates_in p.lists)) → IfSome o (λ r. IsSome (tag_at p r))
mapped_all p good None h = tt
mapped_all p good (Some r) h = some_is (tag_at p r) (omega (arith, h r refl, candidate_times r p.lists, good.mapped r))

none_in : (r : ℕ) (l : List ℕ) → is_in r l ≡ false → times_in r l ≡ 0
none_in r [] h = refl
none_in r (x ∷ l) h = elim (cases_Bool (x == r)) [
  | inl t ↦ let e = rw t at h in absurd (cc)
  | inr t ↦ let e = rw t at h in rw t (omega (arith, none_in r l e))
]

pub not_listed : (r : ℕ) (ls : List (List ℕ)) (i : ℕ) → position_from (is_in r) i ls ≡ None → times r ls ≡ 0
not_listed r [] i h = refl
not_listed r (l ∷ ls) i h = elim (cases_Bool (is_in r l)) [
  | inl t ↦ let e = rw t at h in absurd (cc)
  | inr t ↦ let e = rw t at h in omega (arith, none_in r l t, not_listed r ls (i + 1) e)
]

pub views_same : (v : ListsView) (n : ℕ) (ls : List (List ℕ)) → v.nodes ≡ n → v.lists ≡ ls → v ≡ record { nodes = n; lists = ls }
views_same v n ls a b = rw (← a, ← b) refl
