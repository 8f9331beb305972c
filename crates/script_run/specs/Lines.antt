-- What a line that is neither `mount` nor `stats` answers, and what it makes of the door and the source.
use Rattle.std.specs.Prelude.{ℕ, ◌≡◌, ◌⊎◌, List, Bool, true, false, IsTrue, Option, Some, None, Result, Ok, Err, codes}
use Rattle.region_ranges.specs.declared.keys.Config.{Config}
use Rattle.byte_text.specs.Counts.{Rose}
use Rattle.cache_outside.specs.Listing.{Listing}
use Rattle.directory_input.specs.Causes.{HasBytesCause}
use Rattle.directory_input.specs.Reads as directory
use Rattle.directory_input.specs.declared.files.BytesError.{BytesError}
use Rattle.directory_input.specs.declared.files.BytesError.TheVariants as bytes
use Rattle.index_mounts.specs.Rosters.{MountView}
use Rattle.cache_door.specs.declared.work.Work.{Work}
use Rattle.cache_door.specs.Machine.{State, age, clear, unmount}
use Rattle.cache_door.specs.Doors.{Works, no_work, with_mount, Becomes}
use Rattle.cache_reader.specs.declared.report.Report.{Report}
use Rattle.cache_reader.specs.Reports.{no_bytes, Grew}
use Rattle.cache_reader.specs.Parts.{ReadSetting}
use Rattle.cache_reader.specs.Going.{Moment}
use Rattle.cache_reader.specs.Reader.{ReadsThrough, files_seen}
use Rattle.mount_manifest.specs.Manifest.{Facts}
use Rattle.blob_parts.specs.Tables.{file_length}
use Rattle.mount_script.specs.declared.command.Command.{Command}
use Rattle.mount_script.specs.declared.command.Command.TheVariants.{Mount, Unmount, Clear, Decay, Stats, Search, Fetch, Read}
use Rattle.mount_script.specs.declared.reply.Reply.{Reply}
use Rattle.mount_script.specs.declared.reply.Reply.TheVariants as reply
use Rattle.shard_replies.specs.ExpectedReplies.{refused, read_steps}
use Rattle.shard_replies.specs.Answers.{HasHits, HasFields, HasBytes, AreAsked}
use Rattle.script_run.specs.Allowed.{reads_files, is_memory}
use Rattle.script_run.specs.declared.sums.Sums.{Sums}

-- a line that every worker can run
abbrev pub is_shared : Command → Bool
is_shared (Mount name manifest) = false
is_shared Stats = false
is_shared _ = true

abbrev pub is_mount : Command → Bool
is_mount (Mount name manifest) = true
is_mount _ = false

-- a line that names a mount which is to be there, and the mount's name
abbrev pub named : Command → Option (List ℕ)
named (Unmount name) = Some name
named (Clear name) = Some name
named (Search name size text) = Some name
named (Fetch name segment doc) = Some name
named (Read name file at len) = Some name
named _ = None

-- what the reply of a line that reads files may be, besides a mark
abbrev pub HasForm : Command → Reply → Type 0
HasForm (Search name size text) given = HasHits given
HasForm (Fetch name segment doc) given = HasFields given
HasForm (Read name file at len) given = HasBytes given
HasForm _ given = Unit {0}

-- the reply of a line whose reads gave it, or were refused
abbrev pub marked : Result Reply BytesError → Reply
marked (Ok given) = given
marked (Err bytes.Fault) = reply.Fault
marked (Err (bytes.Gone m)) = reply.Gone
marked (Err bytes.NoMemory) = reply.NoMemory

-- a reply that is made, or want of memory
abbrev pub IsOrNoMemory : Reply → Reply → Type 0
IsOrNoMemory wanted given = (given ≡ wanted) ⊎ (given ≡ reply.NoMemory)

-- a reply that is no mark is the wanted one, where that is told
abbrev pub IsAnswer : Bool → Reply → Reply → Type 0
IsAnswer tells wanted reply.Fault = Unit {0}
IsAnswer tells wanted reply.Gone = Unit {0}
IsAnswer tells wanted reply.NoMemory = Unit {0}
IsAnswer tells wanted given = IsTrue tells → given ≡ wanted

-- `gone` comes only on a line that reads files of a mount which the door has seen gone
pub record IsGone (c : Command) (m : Option MountView) (y : Moment) : Type 0 where
  pub reads : IsTrue (reads_files c)
  pub mount : MountView
  pub is : m ≡ Some mount
  pub seen : y.door.seen_gone mount.mount ≡ true

-- a mark has its cause: `fault` only on a line that reads files, where the source's count rose
abbrev pub IsMarked : Command → Option MountView → Moment → Moment → Reply → Type 0
IsMarked c m x y reply.Fault = IsTrue (reads_files c) × Rose x.source.faults y.source.faults
IsMarked c m x y reply.Gone = IsGone c m y
IsMarked c m x y _ = Unit {0}

-- what is known of the reply of a line that reads files of a mount, whatever the files are
abbrev pub FilesKind : Command → Reply → Type 0
FilesKind c reply.Fault = Unit {0}
FilesKind c reply.Gone = Unit {0}
FilesKind c reply.NoMemory = Unit {0}
FilesKind c given = HasForm c given

-- what is known of a line's reply by the mount that it names, or without one, whatever the archive tells
abbrev pub HasKind : Command → Option MountView → Reply → Type 0
HasKind Decay m given = given ≡ reply.Decayed
HasKind c None given = IsOrNoMemory (refused (codes "not mounted")) given
HasKind (Unmount name) (Some m) given = given ≡ reply.Unmounted
HasKind (Clear name) (Some m) given = given ≡ reply.Cleared
HasKind c (Some m) given = FilesKind c given

-- ---- what it does

-- what the lines of a run have in common: whether the archive tells, its blobs, and the cache's settings
pub record Cached : Type 0 where
  pub tells : Bool
  pub blobs : Listing
  pub config : Config

abbrev pub cached : Bool → Listing → Config → Cached
cached tells blobs config = record { tells = tells; blobs = blobs; config = config }

-- a mount's files are read at a time
abbrev pub reading : Cached → MountView → ℕ → ReadSetting
reading e m now = record { tells = e.tells; blobs = e.blobs; table = m.parts; config = e.config; mount = m.mount; now = now }

-- nothing: neither the door nor the source is asked
abbrev pub Rests : Report → Moment → Moment → Type 0
Rests report x y = (report ≡ no_bytes) × (y ≡ x)

-- one call of the door that reads nothing: its work, the mounts that it unmounted, and the step of the state
pub record DoorDoes (work : Work) (unmounted : ℕ → Bool) (step : ℕ → State → State) (report : Report) (x y : Moment) : Type 0 where
  pub report_is : report ≡ no_bytes
  pub source : y.source ≡ x.source
  pub works : Works x.door.work y.door.work work
  pub mounts : (m : ℕ) → y.door.unmounted m ≡ unmounted m
  pub state : Becomes x.door y.door step

-- the reads that a line asks for, where the line says which: those of a `read` line
abbrev pub asked_reads : (ℕ → ℕ) → Facts → Command → Option (List directory.Read)
asked_reads lengths f (Read name file at len) = Some (read_steps lengths f file at len)
asked_reads lengths f _ = None

-- the reads are those that a line asks for, where it says which; or none, where there was no memory for the reply
abbrev pub AreAskedBy : Option (List directory.Read) → Type 0 → List directory.Read → Type 0
AreAskedBy None no_memory reads = Unit {0}
AreAskedBy (Some asked) no_memory reads = AreAsked asked no_memory reads

-- Reads of a mount's files: some list of reads, those that were asked for where that is said, and no want of memory among them but where
-- the line says so.
pub record FilesRead (c : ReadSetting) (asked_for : Option (List directory.Read)) (given : Reply) (report : Report) (x y : Moment) : Type 0 where
  pub reads : List directory.Read
  pub asked : AreAskedBy asked_for (given ≡ reply.NoMemory) reads
  pub out_of_memory : Bool
  pub enough : is_memory given ≡ false → out_of_memory ≡ false
  pub through : ReadsThrough c x.door.actor reads no_bytes report false out_of_memory x y

-- the same, with what the refusal of the reads (or none) says of the door and the source
pub record LineReads (c : ReadSetting) (asked_for : Option (List directory.Read)) (refusal : Option BytesError) (report : Report) (x y : Moment) : Type 0 where
  pub reads : List directory.Read
  pub asked : AreAskedBy asked_for (refusal ≡ Some bytes.NoMemory) reads
  pub out_of_memory : Bool
  pub cause : HasBytesCause (files_seen c x false) (files_seen c y out_of_memory) refusal
  pub through : ReadsThrough c x.door.actor reads no_bytes report false out_of_memory x y

-- what a line does on the mount that it names, or without one
abbrev pub LineDoes : Cached → ℕ → Command → Option MountView → Reply → Report → Moment → Moment → Type 0
LineDoes e now Decay m given report x y = DoorDoes (record no_work { decays = 1 }) x.door.unmounted (λ a. age now) report x y
LineDoes e now c None given report x y = Rests report x y
LineDoes e now (Clear name) (Some m) given report x y = DoorDoes (record no_work { clears = 1 }) x.door.unmounted (λ a. clear m.number) report x y
LineDoes e now (Unmount name) (Some m) given report x y = DoorDoes no_work (with_mount m.mount x.door.unmounted) (λ a. unmount m.mount m.number) report x y
LineDoes e now c (Some m) given report x y = FilesRead (reading e m now) (asked_reads (file_length m.parts) m.facts c) given report x y

-- ---- the sums of a run

abbrev pub no_sums : Sums
no_sums = record { fetched = 0; direct = 0 }

-- each sum rose by what the reads of a line counted, and stops at its last value
pub record Summed (before now : Sums) (report : Report) : Type 0 where
  pub fetched : Grew before.fetched now.fetched report.fetched
  pub direct : Grew before.direct now.direct report.direct
