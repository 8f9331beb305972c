-- The dictionaries that a run keeps of its mounts.
use Rattle.std.specs.Prelude.{ℕ, ◌≡◌, ◌≢◌, ◌≤◌, ◌⊎◌, List, [], length, Bool, false, Option, Some, None, slice_index_or}
use Rattle.cache_outside.specs.Listing.{Listing}
use Rattle.directory_input.specs.Files.{FilesView}
use Rattle.blob_parts.specs.Content.{content}
use Rattle.blob_parts.specs.Tables.{file_length}
use Rattle.index_mounts.specs.Rosters.{MountView, RosterView, mounted}
use Rattle.simpletext_postings.specs.Terms.{TermTable}
use Rattle.shard_search.specs.Shelves.{ShelfFits}

-- the files of a mount
abbrev pub files_of : Bool → Listing → MountView → FilesView
files_of tells blobs m = record {
  count = length m.parts.files;
  lengths = file_length m.parts;
  tells = tells;
  bytes = content blobs m.parts.number;
  mount = m.mount;
  faults = 0;
  gone = false;
  out_of_memory = false;
}

-- a shelf belongs to a mount: each dictionary that it keeps is the one of the segment at its place
abbrev pub BelongsTo : Bool → Listing → List (Option TermTable) → MountView → Type 0
BelongsTo tells blobs shelf m = ShelfFits (files_of tells blobs m) m.facts.segments shelf

-- this is the number of a mount that is there
abbrev pub IsNumber : Option MountView → ℕ → Type 0
IsNumber None n = ⊥
IsNumber (Some m) n = m.mount ≡ n

-- the shelf of the mount with this number; an empty one behind the last
abbrev pub shelf_at : List (List (Option TermTable)) → ℕ → List (Option TermTable)
shelf_at shelves n = slice_index_or shelves n []

-- each shelf belongs to the mount with its number, and is empty for the mounts that come
pub record ShelvesFit (tells : Bool) (blobs : Listing) (r : RosterView) (shelves : List (List (Option TermTable))) : Type 0 where
  pub each : (name : List ℕ) (m : MountView) → mounted name r ≡ Some m → BelongsTo tells blobs (shelf_at shelves m.mount) m
  pub beyond : (n : ℕ) → r.made ≤ n → shelf_at shelves n ≡ []

-- one shelf was taken out; the others are as before
pub record OneTaken (n : ℕ) (before now : List (List (Option TermTable))) : Type 0 where
  pub here : shelf_at now n ≡ []
  pub others : (i : ℕ) → i ≢ n → shelf_at now i ≡ shelf_at before i

-- one shelf was put in, or there was no memory for its place; the others are as before
pub record MayPut (n : ℕ) (shelf : List (Option TermTable)) (before now : List (List (Option TermTable))) : Type 0 where
  pub here : (shelf_at now n ≡ shelf) ⊎ (shelf_at now n ≡ shelf_at before n)
  pub others : (i : ℕ) → i ≢ n → shelf_at now i ≡ shelf_at before i
