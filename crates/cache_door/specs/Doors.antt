-- What every door tells: its view, the counts of its work, and when it may be asked.
use Rattle.std.specs.Prelude.{◌≡◌, ◌≢◌, ◌<◌, ◌≤◌, ◌+◌, ◌-◌, ◌*◌, ◌/◌, ◌==◌, ◌^◌, ℕ, min, Bool, true, false, Option, Some, None, IfSome, IsTrue, option_map, Result, Ok, Err, List, length, if◌then◌else◌}
use Rattle.region_ranges.specs.declared.ranges.ByteRange.{ByteRange}
use Rattle.region_ranges.specs.declared.keys.Config.{Config}
use Rattle.region_ranges.specs.Keys.{IsKey, tag_of, manifest_of}
use Rattle.byte_text.specs.Counts.{Rose}
use Rattle.blob_parts.specs.Content.{slice_of}
use Rattle.region_cell.specs.Cells.{region_bytes, file_of, part_of}
use Rattle.region_cell.specs.declared.taken.Taken.{Taken}
use Rattle.region_cell.specs.declared.taken.Taken.TheVariants as taken
use Rattle.blob_parts.specs.Pieces.{PieceView}
use Rattle.cache_door.specs.declared.answers.Want.{Want}
use Rattle.cache_door.specs.declared.answers.Entered.{Entered}
use Rattle.cache_door.specs.declared.answers.Entered.TheVariants.{Held, NoRoom, Gone}
use Rattle.cache_door.specs.declared.answers.Glance.{Glance}
use Rattle.cache_door.specs.declared.answers.Glance.TheVariants as glance
use Rattle.cache_door.specs.declared.hold.Hold.{Hold}
use Rattle.cache_door.specs.declared.work.Work.{Work}
use Rattle.cache_door.specs.Machine.{State, SamePresent, hold_at, is_gone, enter, take_bytes, look, store, fail, leave, bytes_in, wanted}
use Rattle.cache_door.specs.Claims.{IsGap}
use Rattle.cache_door.specs.Good.{Good}
use Rattle.cache_door.specs.Counters.{CountersRisen}

-- ---- the counts of a door's work

-- a count rose by k, or stands at its last value
pub record Rises (old new k : ℕ) : Type 0 where
  pub value : new ≡ min (old + k) (2 ^ 64 - 1)
  pub later : old ≤ new

-- each count rose by its part of `by`, so one whose part is 0 stayed
pub record Works (old new by : Work) : Type 0 where
  pub turned_away : Rises old.turned_away new.turned_away by.turned_away
  pub stored : Rises old.stored new.stored by.stored
  pub decays : Rises old.decays new.decays by.decays
  pub clears : Rises old.clears new.clears by.clears

abbrev pub no_work : Work
no_work = record { turned_away = 0; stored = 0; decays = 0; clears = 0 }

abbrev pub turned_away_once : Work
turned_away_once = record no_work { turned_away = 1 }

abbrev pub entered_work : Entered → Work
entered_work NoRoom = turned_away_once
entered_work Gone = no_work
entered_work (Held r gap) = no_work

abbrev pub entry_work : {E : Type 0} → Result Entered E → Work
entry_work (Ok e) = entered_work e
entry_work (Err e) = no_work

abbrev pub take_work : Taken → Work
take_work taken.Copied = no_work
take_work taken.Waiting = turned_away_once
take_work taken.Failed = turned_away_once
take_work taken.FrameFault = turned_away_once

abbrev pub glance_work : Glance → Work
glance_work glance.FrameFault = turned_away_once
glance_work glance.Copied = no_work
glance_work glance.Absent = no_work
glance_work (glance.Busy word) = no_work
glance_work (glance.Moved word) = no_work

-- after a piece of n bytes
abbrev pub store_work : {E : Type 0} → ℕ → Result (Unit {0}) E → Work
store_work n (Ok u) = record no_work { stored = n }
store_work n (Err e) = turned_away_once

-- ---- the hold

-- Where nothing is held, all else is 0. The gap is open where `upto` is below `gap_end`: `upto` is its present end.
pub record HoldView : Type 0 where
  pub held : Bool
  pub region : ℕ
  pub tag : ℕ
  pub sub : ByteRange
  pub upto : ℕ
  pub gap_end : ℕ

abbrev pub nothing : HoldView
nothing = record { held = false; region = 0; tag = 0; sub = record { start = 0; end = 0 }; upto = 0; gap_end = 0 }

abbrev pub hold_view : Option Hold → HoldView
hold_view None = nothing
hold_view (Some h) = record { held = true; region = h.region; tag = h.tag; sub = h.sub; upto = h.gap.upto; gap_end = h.gap.end }

abbrev pub range_start : Option ByteRange → ℕ
range_start None = 0
range_start (Some g) = g.start

abbrev pub range_end : Option ByteRange → ℕ
range_end None = 0
range_end (Some g) = g.end

-- after an entry by a door that held nothing
abbrev pub entry_hold : {E : Type 0} → Want → Result Entered E → HoldView
entry_hold want (Ok (Held r gap)) = record { held = true; region = r; tag = tag_of want.key; sub = want.sub; upto = range_start gap; gap_end = range_end gap }
entry_hold want (Ok NoRoom) = nothing
entry_hold want (Ok Gone) = nothing
entry_hold want (Err e) = nothing

abbrev pub stored_hold : {E : Type 0} → ℕ → Result (Unit {0}) E → HoldView → HoldView
stored_hold n (Ok u) t = record t { upto = t.upto + n }
stored_hold n (Err e) t = t

abbrev pub failed_hold : HoldView → HoldView
failed_hold t = record t { upto = 0; gap_end = 0 }

-- the piece is of the key's file, begins at the gap's present end, and stays in the gap
pub record FitsGap (size : ℕ) (t : HoldView) (piece : PieceView) : Type 0 where
  pub manifest : piece.manifest ≡ manifest_of t.tag
  pub file : piece.file ≡ file_of t.tag
  pub at : piece.at ≡ part_of t.tag * size + t.upto
  pub some : 0 < length piece.bytes
  pub inside : t.upto + length piece.bytes ≤ t.gap_end

-- ---- what may be wanted

pub record IsWant (config : Config) (want : Want) : Type 0 where
  pub key : IsKey want.key
  pub len : (0 < want.len) × (want.len ≤ config.region)
  pub sub : (want.sub.start < want.sub.end) × (want.sub.end ≤ want.len) × (want.sub.start / config.range ≡ (want.sub.end - 1) / config.range)

-- the length is that of the region's part of the file
abbrev pub HasLength : (ℕ → ℕ → List ℕ) → Config → Want → Type 0
HasLength files config want = want.len ≡ length (region_bytes files config.region (tag_of want.key))

-- the region is one of the cache's, and the gap is not empty and lies in the aligned range of what is wanted
abbrev pub IsEntry : Config → Want → Entered → Type 0
IsEntry config want Gone = Unit {0}
IsEntry config want NoRoom = Unit {0}
IsEntry config want (Held r gap) = (r < config.regions) × IfSome gap (IsGap config.range want.sub want.len)

-- ---- a door

-- no mount was taken away
abbrev pub Grown : (ℕ → Bool) → (ℕ → Bool) → Type 0
Grown old new = (m : ℕ) → old m ≡ true → new m ≡ true

-- the mounts with one more
abbrev pub with_mount : ℕ → (ℕ → Bool) → ℕ → Bool
with_mount mount old m = if m == mount then true else old m

-- What clauses see of a door: what its cache was made with, whether all frames of the cache tell their bytes, whether all of them
-- are steady, so that none ever fails, what is held, the counts of its work, how often frames have failed, the mounts that it has
-- seen gone, those that were unmounted through it, the state of the whole cache, where it is told, and the number of its actor there.
pub record DoorView : Type 0 where
  pub config : Config
  pub frames_tell : Bool
  pub frames_steady : Bool
  pub hold : HoldView
  pub work : Work
  pub frame_faults : ℕ
  pub seen_gone : ℕ → Bool
  pub unmounted : ℕ → Bool
  pub state : Option State
  pub actor : ℕ

-- what every call of a door keeps: nothing changes of the cache, no mount that was seen gone is taken away, and no count falls
pub record DoorLater (before now : DoorView) : Type 0 where
  pub config : now.config ≡ before.config
  pub frames_tell : now.frames_tell ≡ before.frames_tell
  pub frames_steady : now.frames_steady ≡ before.frames_steady
  pub actor : now.actor ≡ before.actor
  pub seen : Grown before.seen_gone now.seen_gone
  pub faults : before.frame_faults ≤ now.frame_faults
  pub steady : IsTrue before.frames_steady → now.frame_faults ≡ before.frame_faults
  pub counters : (s t : State) → before.state ≡ Some s → now.state ≡ Some t → CountersRisen s.policy t.policy

-- what is told of the state is that of the same cache: it is good, and its settings, hold and mounts are those that the door tells
pub record Agrees (tells : Bool) (files : ℕ → ℕ → List ℕ) (d : DoorView) (s : State) : Type 0 where
  pub good : Good tells files s
  pub config : s.config ≡ d.config
  pub told : s.told ≡ d.frames_tell
  pub actor : d.actor < length s.holds
  pub hold : d.hold ≡ hold_view (hold_at s d.actor)
  pub gone : (m : ℕ) → (d.seen_gone m ≡ is_gone s m) × (d.unmounted m ≡ is_gone s m)

-- ---- what a call of a door does, where the state is told

-- the state went on by this step of the door's actor
abbrev pub Becomes : DoorView → DoorView → (ℕ → State → State) → Type 0
Becomes before now step = now.state ≡ option_map (step before.actor) before.state

-- the answer is the machine's to the door's actor
abbrev pub Answers : {T : Type 0} → DoorView → (ℕ → State → T) → T → Type 0
Answers before machine answer = IfSome before.state (λ s. answer ≡ machine before.actor s)

-- the machine's answer, or a frame's fault in place of a copy
pub record CopyOrFault {T : Type 0} (copied fault machine answer : T) : Type 0 where
  pub same : answer ≢ fault → answer ≡ machine
  pub present : answer ≡ fault → machine ≡ copied

abbrev pub AnswersCopy : {T : Type 0} → DoorView → T → T → (ℕ → State → T) → T → Type 0
AnswersCopy before copied fault machine answer = IfSome before.state (λ s. CopyOrFault copied fault (machine before.actor s) answer)

-- the machine's steps and answers, by its actor
abbrev pub entry : ℕ → Want → ℕ → ℕ → State → State
entry mount want now a s = (enter a mount want now s).1

abbrev pub entry_answer : ℕ → Want → ℕ → ℕ → State → Entered
entry_answer mount want now a s = (enter a mount want now s).0

abbrev pub taking : ℕ → State → Taken
taking a s = take_bytes (hold_at s a) s

abbrev pub looking : ℕ → Want → ℕ → State → Glance
looking r want a s = look r want s

abbrev pub storing : List ℕ → ℕ → State → State
storing piece a s = store a (hold_at s a) piece s

abbrev pub failing : ℕ → State → State
failing a s = fail a (hold_at s a) s

abbrev pub leaving : ℕ → State → State
leaving a s = leave a (hold_at s a) s

-- ---- bytes, faults and refusals

-- where archive and frames tell, the bytes are the content's of the tag's key at this range of its region
abbrev pub AreContent : Bool → (ℕ → ℕ → List ℕ) → DoorView → ℕ → ByteRange → List ℕ → Type 0
AreContent tells files d tag sub bytes = IsTrue tells → IsTrue d.frames_tell → bytes ≡ slice_of (region_bytes files d.config.region tag) sub.start (sub.end - sub.start)

-- where archive and frames tell, the bytes are the content's that are held, and that are wanted
abbrev pub AsHeld : Bool → (ℕ → ℕ → List ℕ) → DoorView → List ℕ → Type 0
AsHeld tells files d bytes = AreContent tells files d d.hold.tag d.hold.sub bytes

abbrev pub AsWanted : Bool → (ℕ → ℕ → List ℕ) → DoorView → Want → List ℕ → Type 0
AsWanted tells files d want bytes = AreContent tells files d (tag_of want.key) want.sub bytes

-- where state and frames tell, the bytes are those that the actor's hold wants in its cell
abbrev pub AreHeld : DoorView → List ℕ → Type 0
AreHeld d bytes = IfSome d.state (λ s. IsTrue s.told → bytes ≡ wanted (hold_at s d.actor) s)

-- where state and frames tell, the bytes are the cell's of the region at this range
abbrev pub AreStored : DoorView → ℕ → ByteRange → List ℕ → Type 0
AreStored d r sub bytes = IfSome d.state (λ s. IsTrue s.told → bytes ≡ bytes_in r sub s)

-- a frame failed: the count rose, and not all frames are steady
pub record FrameFails (before now : DoorView) : Type 0 where
  pub rose : Rose before.frame_faults now.frame_faults
  pub unsteady : IsTrue before.frames_steady → ⊥

abbrev pub IsHeld : Entered → Type 0
IsHeld (Held r gap) = Unit {0}
IsHeld NoRoom = ⊥
IsHeld Gone = ⊥

-- an entry for which memory was wanted left all as before, and with memory it would have been answered by a hold
pub record LacksMemory (before now : DoorView) (machine : ℕ → State → Entered) : Type 0 where
  pub state : now.state ≡ before.state
  pub seen : now.seen_gone ≡ before.seen_gone
  pub held : IfSome before.state (λ s. IsHeld (machine before.actor s))

-- where the state is told, it is the one before but for bytes that are not present
abbrev pub SameState : Option State → Option State → Type 0
SameState None None = Unit {0}
SameState (Some s) (Some t) = SamePresent s t
SameState None (Some t) = ⊥
SameState (Some s) None = ⊥
