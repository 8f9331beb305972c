-- What stays the same while a reader lives.
use Rattle.std.specs.Prelude.{ℕ, Bool, List}
use Rattle.region_ranges.specs.declared.keys.Config.{Config}
use Rattle.cache_outside.specs.Listing.{Listing}
use Rattle.blob_parts.specs.Tables.{TableParts}
use Rattle.blob_parts.specs.Content.{content, content_places}
use Rattle.cache_reader.specs.declared.part.Setting.{Setting}

-- the archive, the table, the cache's settings, the mount, and the time
pub record ReadSetting : Type 0 where
  pub tells : Bool
  pub blobs : Listing
  pub table : TableParts
  pub config : Config
  pub mount : ℕ
  pub now : ℕ

abbrev pub read_setting : Bool → Listing → TableParts → Setting → ReadSetting
read_setting tells blobs table s = record { tells = tells; blobs = blobs; table = table; config = s.config; mount = s.mount; now = s.time }

abbrev pub bytes_of : ReadSetting → ℕ → List ℕ
bytes_of c file = content c.blobs c.table.number file

abbrev pub places_of : ReadSetting → ℕ → List (ℕ × ℕ)
places_of c file = content_places c.blobs c.table.number file
