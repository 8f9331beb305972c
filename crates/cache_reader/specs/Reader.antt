-- What reads make of a reader.
use Rattle.std.specs.Prelude.{◌≡◌, ◌≤◌, ◌+◌, ◌&&◌, ℕ, sum_by, Bool, false, IsTrue, IfOk, List, length, take, drop, Option, Result}
use Rattle.directory_input.specs.Reads.{Read}
use Rattle.directory_input.specs.Causes.{IsCaused}
use Rattle.directory_input.specs.Files.{FilesView}
use Rattle.directory_input.specs.declared.files.BytesError.{BytesError}
use Rattle.blob_parts.specs.Content.{content, slice_of}
use Rattle.blob_parts.specs.Tables.{file_length}
use Rattle.blob_parts.specs.Going.{AreInTable}
use Rattle.cache_reader.specs.declared.report.Report.{Report}
use Rattle.cache_reader.specs.Reports.{Counted, no_bytes}
use Rattle.cache_reader.specs.Bounds.{Worked}
use Rattle.cache_reader.specs.Parts.{ReadSetting, bytes_of}
use Rattle.cache_reader.specs.Going.{Moment, Goes, Takes}
use Rattle.cache_reader.specs.Alone.{Exactly, ByEntries, read_outcome, reads_outcome, reads_parts}

-- what clauses see of a reader: what stays the same while it lives, its source and door, the sums of its reads, and its mark on memory
pub record ReaderView : Type 0 where
  pub setting : ReadSetting
  pub moment : Moment
  pub total : Report
  pub out_of_memory : Bool

-- what clauses see of a reader's files, of a source and a door at one moment, with the reader's mark on memory
abbrev pub files_seen : ReadSetting → Moment → Bool → FilesView
files_seen c x out_of_memory = record {
  count = length c.table.files;
  lengths = file_length c.table;
  tells = c.tells && x.door.frames_tell;
  bytes = content c.blobs c.table.number;
  mount = c.mount;
  faults = x.source.faults;
  gone = x.door.seen_gone c.mount;
  out_of_memory = out_of_memory;
}

-- what a refusal of a read (or none) says of a source and a door before and now
abbrev pub IsCausedAt : ReadSetting → Moment → Moment → Option BytesError → Type 0
IsCausedAt c x y refusal = IsCaused (files_seen c x false) (files_seen c y false) refusal

-- What a list of reads by actor `a` makes of a reader. `total` is the sum of its counts, and `out_of_memory` its mark.
pub record ReadsThrough (c : ReadSetting) (a : ℕ) (reads : List Read) (total_before total_now : Report) (out_of_memory_before out_of_memory_now : Bool) (x y : Moment) : Type 0 where
  pub allowed : AreInTable c.table reads
  pub marked : IsTrue out_of_memory_before → IsTrue out_of_memory_now
  pub counts : Report
  pub total : Counted total_before total_now counts
  pub most : counts.hit + counts.direct ≤ sum_by (λ r. r.size) reads
  pub goes : Goes c counts x y
  pub takes : IsTrue c.tells → Takes c counts out_of_memory_now x y
  pub exact : Exactly c (reads_outcome c a reads) out_of_memory_now total_before total_now x y
  pub entries : ByEntries c a (reads_parts c.config.range reads) out_of_memory_now total_before total_now x y

-- the same over views, by the door's actor
abbrev pub ReadsOn : List Read → ReaderView → ReaderView → Type 0
ReadsOn reads v w = ReadsThrough v.setting v.moment.door.actor reads v.total w.total v.out_of_memory w.out_of_memory v.moment w.moment

-- What a read makes of a reader and of `out`, whatever the answer. `counts` is what it copied, fetched and read directly, which the sums
-- of the reader rose by: all of the range where it is answered, and then these are the report. The first bytes of `out`, as many as
-- were copied and read directly, are the file's where they are told. Behind the part that comes next, which is no longer than one of
-- the cache's ranges, `out` is as before.
pub record Reported (r : Read) (result : Result Report BytesError) (out_before out_now : List ℕ) (v w : ReaderView) : Type 0 where
  pub counts : Report
  pub total : Counted v.total w.total counts
  pub work : Worked counts v.moment.door.work w.moment.door.work
  pub reached : counts.hit + counts.direct ≤ r.size
  pub filled : IsTrue v.setting.tells → IsTrue v.moment.door.frames_tell
      → take (counts.hit + counts.direct) out_now ≡ slice_of (bytes_of v.setting r.file) r.at (counts.hit + counts.direct)
  pub untouched : drop (counts.hit + counts.direct + v.setting.config.range) out_now ≡ drop (counts.hit + counts.direct + v.setting.config.range) out_before
  pub answer : IfOk result (λ n. Counted no_bytes n counts × (n.hit + n.direct ≡ r.size)
      × Exactly v.setting (read_outcome v.setting v.moment.door.actor r) false no_bytes n v.moment w.moment)
