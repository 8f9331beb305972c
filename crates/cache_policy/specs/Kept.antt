-- What is true of every policy.
use Rattle.std.specs.Prelude.{◌≡◌, ◌<◌, ◌≤◌, ◌+◌, ℕ, length, Option, Some, None}
use Rattle.freq_lists.specs.Lists.{times, times_in}
use Rattle.cache_policy.specs.Policy.{PolicyView, tag_at}

abbrev pub one_if_some : Option ℕ → ℕ
one_if_some None = 0
one_if_some (Some t) = 1

-- how often a region stands in the free list, the leaving list and the frequency lists
abbrev pub places : PolicyView → ℕ → ℕ
places p r = times_in r p.free + times_in r p.leaving + times r p.lists

pub record IsGood (p : PolicyView) : Type 0 where
  -- each region is in exactly one list, once, and nothing else stands there
  pub once : (r : ℕ) → r < length p.tags → places p r ≡ 1
  pub none_else : (r : ℕ) → length p.tags ≤ r → places p r ≡ 0
  -- a region has a key exactly where it is in a frequency list, whose number is its frequency
  pub mapped : (r : ℕ) → times r p.lists ≡ one_if_some (tag_at p r)
  -- the keys of mapped regions differ
  pub keys : (r s tag : ℕ) → tag_at p r ≡ Some tag → tag_at p s ≡ Some tag → r ≡ s
  pub last_accesses : length p.last_accesses ≡ length p.tags
  pub some : (0 < length p.lists) × (0 < length p.tags)
  pub few : (length p.lists < 4294967296) × (length p.tags < 4294967296)
