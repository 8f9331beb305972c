-- No byte is taken twice, told of whole manifests that share no blob.
use Rattle.std.specs.Prelude.{◌≡◌, ◌<◌, ◌≤◌, ℕ, Bool, true, List, length, map, slice_get, Some, None, Ok}
use Rattle.std.specs.List.{range_with_len, flat_map}
use Rattle.region_ranges.specs.declared.keys.Config.{Config}
use Rattle.region_ranges.specs.Keys.{IsConfig}
use Rattle.cache_outside.specs.Listing.{Listing, manifests}
use Rattle.mount_manifest.specs.declared.record.FileRecord.{FileRecord}
use Rattle.mount_manifest.specs.Manifest.{Facts}
use Rattle.mount_manifest.specs.Parts.{parts_of}
use Rattle.mount_manifest.specs.Sound.{IsSound}
use Rattle.blob_parts.specs.Content.{files_at, manifest_at, part_blob, part_refusal}
use Rattle.blob_parts.specs.Tables.{lengths_of}
use Rattle.cache_door.specs.Machine.{State, new_state}
use Rattle.cache_door.specs.Good.{Good}
use Rattle.cache_door.specs.Takes.{Once}
use Rattle.cache_reader.specs.Parts.{ReadSetting}
use Rattle.cache_reader.specs.Once.{IsAmong, region_counts, ByActs, HasLengths}

-- a manifest of the archive, what it tells, and that each part of its files is there in its size
pub record IsWholeManifest (blobs : Listing) (number : ℕ) (facts : Facts) : Type 0 where
  pub told : manifest_at blobs number ≡ Ok facts
  pub sound : IsSound facts
  pub whole : part_refusal blobs facts.files ≡ None

-- manifest m is one of these
abbrev pub IsOneOf : List ℕ → ℕ → Type 0
IsOneOf numbers m = (i : ℕ) × (slice_get numbers i ≡ Some m)

abbrev pub AreWhole : Listing → List ℕ → Type 0
AreWhole blobs numbers = (m : ℕ) → IsOneOf numbers m → (facts : Facts) × IsWholeManifest blobs m facts

-- the files of a manifest, and of manifests
abbrev pub manifest_files : Listing → ℕ → List (ℕ × ℕ)
manifest_files blobs m = map (λ f. (m, f)) (range_with_len 0 (length (files_at blobs m)))

abbrev pub manifests_files : Listing → List ℕ → List (ℕ × ℕ)
manifests_files blobs numbers = flat_map (manifest_files blobs) numbers

-- no two of these manifests share a blob
abbrev pub ShareNoBlob : Listing → List ℕ → Type 0
ShareNoBlob blobs numbers = (m n f g k l : ℕ) (x y : FileRecord) → IsOneOf numbers m → IsOneOf numbers n → slice_get (files_at blobs m) f ≡ Some x
    → slice_get (files_at blobs n) g ≡ Some y
    → k < parts_of x → l < parts_of y → part_blob blobs x k ≡ part_blob blobs y l → m ≡ n

-- From the first state of a cache with one actor and a frame for each region, where the files of these manifests have no more regions than
-- the cache and no two of the manifests share a blob, entries for parts of their files and decays take no place of a blob twice.
abbrev pub MountsOnce : Type 0
MountsOnce = (settings : Config) (told : Bool) (frames : List (List ℕ)) (blobs : Listing) (numbers : List ℕ) (taken : List (ℕ × ℕ)) (t : State)
    → IsConfig settings → settings.max_freq < 4294967296 → length frames ≡ settings.regions
    → region_counts settings.region blobs (manifests_files blobs numbers) ≤ settings.regions
    → AreWhole blobs numbers → ShareNoBlob blobs numbers
    → ByActs blobs settings (manifests_files blobs numbers) taken (new_state settings told frames 1) t → Once (λ blob. true) taken

-- What these laws ask of a cache is true of a first state that is good. The table of a mount: where its files are as long as its manifest
-- says, and that is whole, they have their lengths; and they are among those of any manifests that its own is one of.
pub record MountsFit : Type 0 where
  pub first : (tells : Bool) (contents : ℕ → ℕ → List ℕ) (settings : Config) (told : Bool) (frames : List (List ℕ)) (actors : ℕ)
      → Good tells contents (new_state settings told frames actors)
      → IsConfig settings × (settings.max_freq < 4294967296) × (length frames ≡ settings.regions)
  pub lengths : (c : ReadSetting) (facts : Facts) → length (manifests c.blobs) ≤ 65536 → IsWholeManifest c.blobs c.table.number facts
      → lengths_of c.table.files ≡ map (λ (f : FileRecord). f.length) facts.files → HasLengths c
  pub among : (c : ReadSetting) (facts : Facts) (numbers : List ℕ) → IsOneOf numbers c.table.number → IsWholeManifest c.blobs c.table.number facts
      → lengths_of c.table.files ≡ map (λ (f : FileRecord). f.length) facts.files
      → (f : ℕ) → f < length c.table.files → IsAmong (manifests_files c.blobs numbers) c.table.number f
