-- The dictionaries that are kept from search to search, one place a segment.
use Rattle.std.specs.Prelude.{ℕ, ◌≡◌, ◌≢◌, List, Option, Some, None, slice_get, slice_index_or}
use Rattle.std.specs.Option.{ForSome}
use Rattle.directory_input.specs.Files.{FilesView}
use Rattle.directory_input.specs.Windows.{Window}
use Rattle.mount_manifest.specs.declared.record.Segment.{Segment}
use Rattle.simpletext_postings.specs.Terms.{TermTable, FitsText}

-- the dictionary that is kept at a place; none behind the last place
abbrev pub kept_at : List (Option TermTable) → ℕ → Option TermTable
kept_at shelf i = slice_index_or shelf i None

-- a file from its first byte to its last
abbrev pub whole_file : FilesView → ℕ → Window
whole_file files file = record { file = file; start = 0; size = files.lengths file; position = 0 }

-- the table is that of a segment: of its number of documents and of the whole of its postings file
pub record IsKept (files : FilesView) (s : Segment) (t : TermTable) : Type 0 where
  pub docs : t.docs ≡ s.docs
  pub input : t.input ≡ whole_file files s.postings
  pub fits : FitsText files t

-- the same of the segment at a place, which is there
abbrev pub IsKeptBy : FilesView → Option Segment → TermTable → Type 0
IsKeptBy files None t = ⊥
IsKeptBy files (Some s) t = IsKept files s t

-- a shelf belongs to these files and segments: each dictionary that it keeps is the one of the segment at its place
pub record ShelfFits (files : FilesView) (segments : List Segment) (shelf : List (Option TermTable)) : Type 0 where
  pub each : (i : ℕ) (t : TermTable) → kept_at shelf i ≡ Some t → IsKeptBy files (slice_get segments i) t

-- what was kept at a place is kept there still
pub record StillKept (before now : List (Option TermTable)) : Type 0 where
  pub each : (i : ℕ) (t : TermTable) → kept_at before i ≡ Some t → kept_at now i ≡ Some t

-- of one segment the dictionary may be kept that was not before, at its own place; the other places are as before
pub record KeepsMore (files : FilesView) (n : ℕ) (s : Segment) (before now : List (Option TermTable)) : Type 0 where
  pub still : StillKept before now
  pub others : (i : ℕ) → i ≢ n → kept_at now i ≡ kept_at before i
  pub here : ForSome (kept_at now n) (IsKept files s)
