-- The table that finds the region of a key, beside the keys by region.
use Rattle.std.specs.Prelude.{◌≡◌, ℕ, List, length, filter, slice_get, Option, Some, is_some, option_and_then}
use Rattle.std.specs.List.{position_from}
use Rattle.key_table.specs.Slots.{TableView, region_of, keys_len}
use Rattle.cache_policy.specs.Policy.{is_tag}

abbrev pub tag_in : List (Option ℕ) → ℕ → Option ℕ
tag_in tags r = option_and_then (λ t. t) (slice_get tags r)

abbrev pub AreApart : List (Option ℕ) → Type 0
AreApart tags = (r s tag : ℕ) → tag_in tags r ≡ Some tag → tag_in tags s ≡ Some tag → r ≡ s

-- the table has the keys of the mapped regions, and room for a key of each region
pub record IsIndex (keys : TableView) (tags : List (Option ℕ)) : Type 0 where
  pub regions : (tag : ℕ) → region_of tag keys ≡ position_from (is_tag tag) 0 tags
  pub len : keys_len keys ≡ length (filter is_some tags)
  pub most : keys.most ≡ length tags
