-- Keys of regions, and their tags.
use Rattle.std.specs.Prelude.{◌≡◌, ◌<◌, ◌≤◌, ◌+◌, ◌*◌, ◌/◌, ◌%◌, ◌^◌, ◌&&◌, ℕ, nat_lt, Option, Some, None, if◌then◌else◌}
use Rattle.region_ranges.specs.declared.keys.RegionKey.{RegionKey}
use Rattle.region_ranges.specs.declared.keys.Config.{Config}

-- its numbers fit 16, 12 and 28 bits, and its tag is not the free one
abbrev pub IsKey : RegionKey → Type 0
IsKey k = (k.manifest < 65536) × (k.file < 4096) × (k.region < 268435455)

abbrev pub tag_of : RegionKey → ℕ
tag_of k = k.manifest * 2 ^ 40 + k.file * 2 ^ 28 + k.region

-- 2 ^ 56 - 1
abbrev pub free_tag : ℕ
free_tag = 72057594037927935

-- the manifest of the key with the tag
abbrev pub manifest_of : ℕ → ℕ
manifest_of tag = tag / 2 ^ 40

-- the key with the tag, where there is one
abbrev pub key_of : ℕ → Option RegionKey
key_of tag = if nat_lt (tag / 2 ^ 40) 65536 && nat_lt (tag % 2 ^ 28) 268435455 then Some (record { manifest = tag / 2 ^ 40; file = tag / 2 ^ 28 % 4096; region = tag % 2 ^ 28 }) else None

-- the limits of the words of `run`: regions and ranges are of whole pages of 4,096 bytes, and a range divides a region
pub record IsConfig (c : Config) : Type 0 where
  pub regions : (0 < c.regions) × (c.regions < 513)
  pub region : (0 < c.region) × (c.region < 16777217)
  pub range : (0 < c.range) × (c.range < 16777217)
  pub region_pages : c.region % 4096 ≡ 0
  pub range_pages : c.range % 4096 ≡ 0
  pub divides : c.region % c.range ≡ 0
  pub total : c.regions * c.region ≤ 1073741824
  pub max_freq : 0 < c.max_freq
