-- The state of the policy, and the calls that ageing does not touch, each as an equation on lists.
use Rattle.std.specs.Prelude.{◌+◌, ◌-◌, ◌^◌, ◌==◌, ℕ, min, Bool, false, List, [], ◌∷◌, ◌++◌, length, filter, fold, replicate, slice_get, slice_set, Option, Some, None, is_some, option_and_then, if◌then◌else◌}
use Rattle.std.specs.List.{position_from, range_with_len}
use Rattle.region_ranges.specs.Keys.{manifest_of}
use Rattle.freq_lists.specs.Lists.{unlink, without}

-- `free` and `leaving` are lists of regions, `lists` has one list of regions for each frequency, so that the frequency of a
-- region is the number of its list. `tags` and `last_accesses` are by region: the packed key of a mapped region, and the time of its
-- last access in milliseconds.
pub record PolicyView : Type 0 where
  pub free : List ℕ
  pub lists : List (List ℕ)
  pub tags : List (Option ℕ)
  pub last_accesses : List ℕ
  pub leaving : List ℕ
  pub evictions : ℕ
  pub promotions : ℕ
  pub demotions : ℕ
  pub min_delta : ℕ

-- all regions are free, in rising order
abbrev pub new_policy : ℕ → ℕ → ℕ → PolicyView
new_policy regions max_freq min_delta = record {
  free = range_with_len 0 regions;
  lists = replicate max_freq [];
  tags = replicate regions None;
  last_accesses = replicate regions 0;
  leaving = [];
  evictions = 0;
  promotions = 0;
  demotions = 0;
  min_delta = min_delta;
}

-- a counter stops at the greatest u64
abbrev pub rise : ℕ → ℕ → ℕ
rise n k = min (n + k) (2 ^ 64 - 1)

-- the packed key of a mapped region
abbrev pub tag_at : PolicyView → ℕ → Option ℕ
tag_at p r = option_and_then (λ t. t) (slice_get p.tags r)

abbrev pub is_tag : ℕ → Option ℕ → Bool
is_tag tag None = false
is_tag tag (Some t) = t == tag

-- the region mapped to the key
abbrev pub find : ℕ → PolicyView → Option ℕ
find tag p = position_from (is_tag tag) 0 p.tags

-- how many regions are mapped
abbrev pub mapped_len : PolicyView → ℕ
mapped_len p = length (filter is_some p.tags)

abbrev pub unmap : ℕ → PolicyView → PolicyView
unmap r p = record p { lists = unlink r p.lists; tags = slice_set p.tags r None; free = p.free ++ r ∷ []; evictions = rise p.evictions 1 }

abbrev pub leave : ℕ → PolicyView → PolicyView
leave r p = record p { lists = unlink r p.lists; tags = slice_set p.tags r None; leaving = p.leaving ++ r ∷ [] }

abbrev pub settle : ℕ → PolicyView → PolicyView
settle r p = record p { leaving = without r p.leaving; free = p.free ++ r ∷ [] }

abbrev pub settle_all : List ℕ → PolicyView → PolicyView
settle_all rs p = fold (λ q r. settle r q) p rs

-- the key is of the manifest
abbrev pub is_of : ℕ → Option ℕ → Bool
is_of m None = false
is_of m (Some tag) = manifest_of tag == m

-- the regions, from number i on, whose entry passes the test, in rising order
abbrev pub regions_from : ℕ → (Option ℕ → Bool) → List (Option ℕ) → List ℕ
regions_from i test [] = []
regions_from i test (t ∷ ts) = if test t then i ∷ regions_from (i + 1) test ts else regions_from (i + 1) test ts

abbrev pub leave_all : List ℕ → PolicyView → PolicyView
leave_all [] p = p
leave_all (r ∷ rs) p = leave_all rs (leave r p)

-- each mapped region whose key has the manifest leaves, in rising order
abbrev pub clear : ℕ → PolicyView → PolicyView
clear m p = leave_all (regions_from 0 (is_of m) p.tags) p
