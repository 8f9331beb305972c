-- What one part of a file, read through a door, makes of the door and the source.
use Rattle.std.specs.Prelude.{◌≡◌, ◌≤◌, ◌+◌, ◌-◌, ℕ, Bool, true, false, IsTrue, List, length, Result, Ok, Err}
use Rattle.byte_text.specs.Counts.{Rose}
use Rattle.blob_parts.specs.declared.read.FetchError.{FetchError}
use Rattle.blob_parts.specs.declared.read.FetchError.TheVariants as fetch
use Rattle.blob_parts.specs.Content.{slice_of}
use Rattle.blob_parts.specs.Takes.{Took}
use Rattle.cache_door.specs.Doors.{HoldView}
use Rattle.cache_reader.specs.declared.report.Report.{Report}
use Rattle.cache_reader.specs.Reports.{Counted, fetched_bytes}
use Rattle.cache_reader.specs.Parts.{ReadSetting, places_of}
use Rattle.cache_reader.specs.Going.{Moment, Goes, Takes}

abbrev pub piece_count : {E : Type 0} → ℕ → Result Bool E → ℕ
piece_count n (Ok true) = n
piece_count n (Ok false) = 0
piece_count n (Err e) = 0

-- the hold behind a piece
abbrev pub piece_hold : {E : Type 0} → ℕ → Result Bool E → HoldView → HoldView
piece_hold n (Ok true) t = record t { upto = t.upto + n }
piece_hold n (Ok false) t = t
piece_hold n (Err e) t = t

-- the bytes `from` to `at` of a region were fetched and stored
pub record Filling (c : ReadSetting) (file base from at : ℕ) (report_before report_now : Report) (x y : Moment) : Type 0 where
  pub goes : Goes c (fetched_bytes (at - from)) x y
  pub report : Counted report_before report_now (fetched_bytes (at - from))
  pub took : IsTrue c.tells → Took x.source.reads y.source.reads (slice_of (places_of c file) (base + from) (at - from))

-- a fetch that was refused for want of memory
abbrev pub lacks_memory : {T : Type 0} → Result T FetchError → Bool
lacks_memory (Ok x) = false
lacks_memory (Err fetch.Fault) = false
lacks_memory (Err fetch.NoMemory) = true

-- Some bytes of a gap of so many were fetched and stored. They were taken, and where that was not all at most a piece more. That piece was
-- refused: where no memory was wanted the source's count rose, or a frame's.
pub record Partly (c : ReadSetting) (gap : ℕ) (out_of_memory : Bool) (report_before report_now : Report) (x y : Moment) : Type 0 where
  pub count : ℕ
  pub most : count ≤ gap
  pub goes : Goes c (fetched_bytes count) x y
  pub report : Counted report_before report_now (fetched_bytes count)
  pub took : IsTrue c.tells → (places : List (ℕ × ℕ)) × Took x.source.reads y.source.reads places × (count ≤ length places) × (length places ≤ gap)
      × (out_of_memory ≡ false → (Rose x.source.faults y.source.faults → ⊥) → (Rose x.door.frame_faults y.door.frame_faults → ⊥) → length places ≡ count)

-- a gap of so many bytes was fetched and stored
pub record Whole (c : ReadSetting) (size : ℕ) (report_before report_now : Report) (x y : Moment) : Type 0 where
  pub goes : Goes c (fetched_bytes size) x y
  pub report : Counted report_before report_now (fetched_bytes size)
  pub took : IsTrue c.tells → (places : List (ℕ × ℕ)) × Took x.source.reads y.source.reads places × (length places ≡ size)

-- the hold stays, but for its gap
pub record SameHold (a b : HoldView) : Type 0 where
  pub held : b.held ≡ a.held
  pub region : b.region ≡ a.region
  pub tag : b.tag ≡ a.tag
  pub sub : b.sub ≡ a.sub

-- What a read did that gave so many bytes of its answer, copied or read directly. `out_of_memory` says that the answer was want of memory.
pub record PartGoes (c : ReadSetting) (size : ℕ) (out_of_memory : Bool) (report_before report_now : Report) (x y : Moment) : Type 0 where
  pub counts : Report
  pub report : Counted report_before report_now counts
  pub all : counts.hit + counts.direct ≡ size
  pub goes : Goes c counts x y
  pub takes : IsTrue c.tells → Takes c counts out_of_memory x y

-- how many bytes a part gives: all of them, or none where it is refused
abbrev pub given : Bool → ℕ → ℕ
given true size = size
given false size = 0

abbrev pub is_answered : {T E : Type 0} → Result T E → Bool
is_answered (Ok x) = true
is_answered (Err e) = false
