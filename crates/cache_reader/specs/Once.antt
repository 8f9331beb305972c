-- No byte is taken twice: entries and decays of one actor over a new cache that has a region for each key.
use Rattle.std.specs.Prelude.{◌≡◌, ◌⊎◌, ◌<◌, ◌≤◌, ◌-◌, ◌/◌, ℕ, Bool, true, List, [], ◌∷◌, ◌++◌, length, map, sum_by, slice_get, Some}
use Rattle.std.specs.Int.{div_ceil}
use Rattle.std.specs.List.{range_with_len, flat_map}
use Rattle.region_ranges.specs.declared.keys.Config.{Config}
use Rattle.region_ranges.specs.declared.keys.RegionKey.{RegionKey}
use Rattle.region_ranges.specs.Keys.{IsConfig, IsKey, tag_of}
use Rattle.freq_lists.specs.Lists.{is_in}
use Rattle.cache_outside.specs.Listing.{Listing}
use Rattle.mount_manifest.specs.declared.record.FileRecord.{FileRecord}
use Rattle.blob_parts.specs.Content as content
use Rattle.blob_parts.specs.Content.{files_at, part_blob, where_at}
use Rattle.mount_manifest.specs.Parts.{parts_of}
use Rattle.blob_parts.specs.Tables.{file_length}
use Rattle.blob_parts.specs.Going.{AreInTable}
use Rattle.directory_input.specs.Reads.{Read}
use Rattle.cache_door.specs.Machine.{State, new_state, age}
use Rattle.cache_door.specs.Takes.{Once}
use Rattle.cache_reader.specs.declared.report.Report.{Report}
use Rattle.cache_reader.specs.Parts.{ReadSetting, bytes_of}
use Rattle.cache_reader.specs.Going.{Moment}
use Rattle.cache_reader.specs.Alone.{Outcome, FilePart, entry_for, unchanged, outcome_over, HasOutcome, HasEntries, reads_parts}

-- an entry for a part of a file of a mount, at the setting's time, or a decay at a time
pub data Act : Type 0 where
  entry : ReadSetting → FilePart → Act
  ageing : ℕ → Act

-- what it takes and counts, and the state behind it, where actor 0 does it
abbrev pub act_outcome : Act → State → Outcome
act_outcome (entry c q) s = entry_for c 0 q s
act_outcome (ageing now) s = unchanged (age now s)

-- the key of the region that holds the part, of regions of so many bytes
abbrev pub key_of_part : ℕ → ReadSetting → FilePart → RegionKey
key_of_part size c q = record { manifest = c.table.number; file = q.file; region = q.part.start / size }

-- An entry over these blobs for a part that is not empty, lies in its file and in one of the cache's ranges, and whose region's key is one of
-- `keys`.
pub record IsListed (blobs : Listing) (settings : Config) (keys : List ℕ) (c : ReadSetting) (q : FilePart) : Type 0 where
  pub same : c.blobs ≡ blobs
  pub some : q.part.start < q.part.end
  pub inside : q.part.end ≤ length (bytes_of c q.file)
  pub one : q.part.start / settings.range ≡ (q.part.end - 1) / settings.range
  pub key : IsKey (key_of_part settings.region c q)
  pub listed : is_in (tag_of (key_of_part settings.region c q)) keys ≡ true

-- each entry of the acts is such a one
abbrev pub AreListed : Listing → Config → List ℕ → List Act → Type 0
AreListed blobs settings keys [] = Unit {0}
AreListed blobs settings keys (entry c q ∷ acts) = IsListed blobs settings keys c q × AreListed blobs settings keys acts
AreListed blobs settings keys (ageing now ∷ acts) = AreListed blobs settings keys acts

-- an entry of the acts is for file f of manifest m
abbrev pub HasEntryFor : List Act → ℕ → ℕ → Type 0
HasEntryFor [] m f = ⊥
HasEntryFor (entry c q ∷ acts) m f = ((c.table.number ≡ m) × (q.file ≡ f)) ⊎ HasEntryFor acts m f
HasEntryFor (ageing now ∷ acts) m f = HasEntryFor acts m f

-- two bytes of such files at one place of one blob are one byte of one file
abbrev pub AreApart : Listing → (ℕ → ℕ → Type 0) → Type 0
AreApart blobs Files = (m n f g i j : ℕ) (place : ℕ × ℕ) → Files m f → Files n g → where_at blobs m f i ≡ Some place → where_at blobs n g j ≡ Some place
    → (m ≡ n) × (f ≡ g) × (i ≡ j)

-- From the first state of a cache with one actor and a frame for each region, where there are no more keys than regions, such acts take no
-- place of a blob twice. The numbers of a cache's settings are below 2 ^ 32.
abbrev pub TakesOnce : Type 0
TakesOnce = (settings : Config) (told : Bool) (frames : List (List ℕ)) (blobs : Listing) (keys : List ℕ) (acts : List Act)
    → IsConfig settings → settings.max_freq < 4294967296 → length frames ≡ settings.regions → length keys ≤ settings.regions
    → AreListed blobs settings keys acts → AreApart blobs (HasEntryFor acts)
    → Once (λ blob. true) (outcome_over act_outcome acts (new_state settings told frames 1)).places

-- ---- the same, told of files

-- file f of manifest m is one of these
abbrev pub IsAmong : List (ℕ × ℕ) → ℕ → ℕ → Type 0
IsAmong files m f = (i : ℕ) × (slice_get files i ≡ Some (m, f))

-- how many regions of so many bytes a file has
abbrev pub region_count : ℕ → Listing → ℕ × ℕ → ℕ
region_count size blobs file = div_ceil (length (content.content blobs file.0 file.1)) size

-- and these files together
abbrev pub region_counts : ℕ → Listing → List (ℕ × ℕ) → ℕ
region_counts size blobs files = sum_by (region_count size blobs) files

-- the tags of their keys
abbrev pub file_tags : ℕ → Listing → ℕ × ℕ → List ℕ
file_tags size blobs file = map (λ k. tag_of (record { manifest = file.0; file = file.1; region = k })) (range_with_len 0 (region_count size blobs file))

abbrev pub files_tags : ℕ → Listing → List (ℕ × ℕ) → List ℕ
files_tags size blobs files = flat_map (file_tags size blobs) files

-- An entry over these blobs for a part of one of these files that is not empty, lies in its file and in one of the cache's ranges, and whose
-- region has a key.
pub record IsPartOf (blobs : Listing) (settings : Config) (files : List (ℕ × ℕ)) (c : ReadSetting) (q : FilePart) : Type 0 where
  pub same : c.blobs ≡ blobs
  pub among : IsAmong files c.table.number q.file
  pub some : q.part.start < q.part.end
  pub inside : q.part.end ≤ length (bytes_of c q.file)
  pub one : q.part.start / settings.range ≡ (q.part.end - 1) / settings.range
  pub key : IsKey (key_of_part settings.region c q)

abbrev pub ArePartsOf : Listing → Config → List (ℕ × ℕ) → List Act → Type 0
ArePartsOf blobs settings files [] = Unit {0}
ArePartsOf blobs settings files (entry c q ∷ acts) = IsPartOf blobs settings files c q × ArePartsOf blobs settings files acts
ArePartsOf blobs settings files (ageing now ∷ acts) = ArePartsOf blobs settings files acts

-- no blob is two parts of these files
abbrev pub HaveOwnBlobs : Listing → List (ℕ × ℕ) → Type 0
HaveOwnBlobs blobs files = (m n f g k l : ℕ) (x y : FileRecord) → IsAmong files m f → IsAmong files n g → slice_get (files_at blobs m) f ≡ Some x
    → slice_get (files_at blobs n) g ≡ Some y
    → k < parts_of x → l < parts_of y → part_blob blobs x k ≡ part_blob blobs y l → (m ≡ n) × (f ≡ g) × (k ≡ l)

-- From state s to state t actor 0 took these places, by entries for parts of these files and by decays.
pub record ByActs (blobs : Listing) (settings : Config) (files : List (ℕ × ℕ)) (taken : List (ℕ × ℕ)) (s t : State) : Type 0 where
  pub acts : List Act
  pub are : ArePartsOf blobs settings files acts
  pub places : (outcome_over act_outcome acts s).places ≡ taken
  pub state : (outcome_over act_outcome acts s).state ≡ t

-- From the first state of a cache with one actor and a frame for each region, where these files have no more regions than the cache and no
-- blob is two parts of them, no place is so taken twice.
abbrev pub FilesOnce : Type 0
FilesOnce = (settings : Config) (told : Bool) (frames : List (List ℕ)) (blobs : Listing) (files taken : List (ℕ × ℕ)) (t : State)
    → IsConfig settings → settings.max_freq < 4294967296 → length frames ≡ settings.regions → region_counts settings.region blobs files ≤ settings.regions
    → HaveOwnBlobs blobs files → ByActs blobs settings files taken (new_state settings told frames 1) t → Once (λ blob. true) taken

-- ---- from act to act

-- a table's numbers are in their limits, and its files are as long as their contents
pub record HasLengths (c : ReadSetting) : Type 0 where
  pub number : c.table.number < 65536
  pub few : length c.table.files ≤ 4096
  pub lengths : (f : ℕ) → f < length c.table.files → (length (bytes_of c f) ≡ file_length c.table f) × (file_length c.table f ≤ 1099511623680)

-- what became of a state by reads, told by entries for parts of these files
pub record ReadByActs (c : ReadSetting) (files : List (ℕ × ℕ)) (report_before report_now : Report) (x y : Moment) (s : State) : Type 0 where
  pub outcome : Outcome
  pub by : ByActs c.blobs c.config files outcome.places s outcome.state
  pub has : HasOutcome outcome report_before report_now x y

-- Nothing, a decay, reads of a table whose files are among these, by those of their parts that were entered for, and one such thing after
-- another.
pub record ActsGoOn : Type 0 where
  pub none : (blobs : Listing) (settings : Config) (files : List (ℕ × ℕ)) (s : State) → ByActs blobs settings files [] s s
  pub decay : (blobs : Listing) (settings : Config) (files : List (ℕ × ℕ)) (now : ℕ) (s : State) → ByActs blobs settings files [] s (age now s)
  pub reads : (c : ReadSetting) (files : List (ℕ × ℕ)) (reads : List Read) (report_before report_now : Report) (x y : Moment) (s : State)
      → IsConfig c.config → HasLengths c → AreInTable c.table reads → ((f : ℕ) → f < length c.table.files → IsAmong files c.table.number f)
      → HasEntries c 0 (reads_parts c.config.range reads) report_before report_now x y s → ReadByActs c files report_before report_now x y s
  pub more : (blobs : Listing) (settings : Config) (files taken later : List (ℕ × ℕ)) (s t u : State)
      → ByActs blobs settings files taken s t → ByActs blobs settings files later t u → ByActs blobs settings files (taken ++ later) s u
