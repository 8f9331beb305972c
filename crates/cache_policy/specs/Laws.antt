-- What a region that leaves changes, for callers who pass over regions one by one.
use Rattle.std.specs.Prelude.{◌≡◌, ℕ, [], ◌∷◌, ◌++◌, drop, slice_set, Some}
use Rattle.freq_lists.specs.Lists.{head, without}
use Rattle.cache_policy.specs.Policy.{PolicyView, leave}
use Rattle.cache_policy.specs.Ageing.{map_front, candidates}
use Rattle.cache_policy.specs.Kept.{IsGood}

-- the front free region, mapped and made leaving at once, is taken from the free list to the leaving list, with an access now
abbrev pub FreeRegionLeaves : Type 0
FreeRegionLeaves = (p : PolicyView) (r tag now : ℕ) → IsGood p → head p.free ≡ Some r
    → leave r (map_front r tag now p) ≡ record p { free = drop 1 p.free; last_accesses = slice_set p.last_accesses r now; leaving = p.leaving ++ r ∷ [] }

-- a region that leaves is no candidate, and the others keep their order
abbrev pub CandidatesLeft : Type 0
CandidatesLeft = (p : PolicyView) (r : ℕ) → candidates (leave r p) ≡ without r (candidates p)
