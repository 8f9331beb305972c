-- What reads take, count and leave, where the state of the cache is told and one actor works alone.
use Rattle.std.specs.Prelude.{◌≡◌, ◌⊎◌, ◌<◌, ◌+◌, ◌-◌, ◌++◌, ℕ, Bool, true, false, IsTrue, List, [], ◌∷◌, length, map, Option, Some, None}
use Rattle.std.specs.List.{flat_map}
use Rattle.region_ranges.specs.declared.ranges.ByteRange.{ByteRange}
use Rattle.region_ranges.specs.Keys.{tag_of}
use Rattle.cache_policy.specs.Policy.{find}
use Rattle.cache_policy.specs.Ageing.{touch}
use Rattle.byte_text.specs.Counts.{Rose}
use Rattle.directory_input.specs.Reads.{Read}
use Rattle.blob_parts.specs.Takes.{Took}
use Rattle.cache_door.specs.declared.answers.Entered.{Entered}
use Rattle.cache_door.specs.declared.answers.Entered.TheVariants.{Held, NoRoom, Gone}
use Rattle.region_cell.specs.declared.taken.Taken.TheVariants as taken
use Rattle.cache_door.specs.declared.answers.Want.{Want}
use Rattle.cache_door.specs.declared.answers.Glance.TheVariants as glance
use Rattle.cache_door.specs.Machine.{State, enter, is_gone, hold_at, leave, look, take_bytes}
use Rattle.cache_door.specs.Doors.{range_start, range_end}
use Rattle.blob_parts.specs.Content.{slice_of}
use Rattle.cache_reader.specs.Stored.{gap_stored}
use Rattle.cache_reader.specs.Holds.{Unfailed}
use Rattle.std.proofs.Props.{props}
use Rattle.cache_door.specs.Takes.{parts, want_of, visit, takes, spread_over}
use Rattle.cache_reader.specs.declared.part.Last.{Last}
use Rattle.cache_reader.specs.declared.report.Report.{Report}
use Rattle.cache_reader.specs.Reports.{Grew}
use Rattle.cache_reader.specs.Parts.{ReadSetting, bytes_of, places_of}
use Rattle.cache_reader.specs.Going.{Moment}

-- blob and place of the bytes that were taken, in order, how many were stored and how many read directly, and the state behind it
pub record Outcome : Type 0 where
  pub places : List (ℕ × ℕ)
  pub fetched : ℕ
  pub direct : ℕ
  pub state : State

-- what an entry for a part fetches: its gap
abbrev pub fetched_by : Entered → ℕ
fetched_by Gone = 0
fetched_by NoRoom = 0
fetched_by (Held r None) = 0
fetched_by (Held r (Some g)) = g.end - g.start

-- what it reads directly: the part, where there is no room
abbrev pub direct_by : Entered → ByteRange → ℕ
direct_by Gone p = 0
direct_by NoRoom p = p.end - p.start
direct_by (Held r gap) p = 0

-- the entry for a part of a file
abbrev pub entry_of : ReadSetting → ℕ → ℕ → ByteRange → State → Entered
entry_of c a file p s = (enter a c.mount (want_of s.config.region c.table.number file (length (bytes_of c file)) p) c.now s).0

-- one part of a file
abbrev pub part_outcome : ReadSetting → ℕ → ℕ → ByteRange → State → Outcome
part_outcome c a file p s =
    let x = visit a c.mount c.table.number file (bytes_of c file) c.now p s in
    record { places = spread_over (places_of c file) x.0; fetched = fetched_by (entry_of c a file p s); direct = direct_by (entry_of c a file p s) p; state = x.1 }

abbrev pub unchanged : State → Outcome
unchanged s = record { places = []; fetched = 0; direct = 0; state = s }

abbrev pub then_outcome : Outcome → Outcome → Outcome
then_outcome a b = record { places = a.places ++ b.places; fetched = a.fetched + b.fetched; direct = a.direct + b.direct; state = b.state }

-- one after another
abbrev pub outcome_over : {X : Type 0} → (X → State → Outcome) → List X → State → Outcome
outcome_over go [] s = unchanged s
outcome_over go (x ∷ xs) s = let a = go x s in then_outcome a (outcome_over go xs a.state)

abbrev pub whole_of : Read → ByteRange
whole_of r = record { start = r.at; end = r.at + r.size }

-- A read. What it takes and the state behind it are those of `takes`; it counts over its parts.
abbrev pub read_outcome : ReadSetting → ℕ → Read → State → Outcome
read_outcome c a r s =
    let x = takes a c.mount c.table.number r.file (bytes_of c r.file) (whole_of r) c.now s in
    let n = outcome_over (part_outcome c a r.file) (parts s.config.range (whole_of r)) s in
    record { places = spread_over (places_of c r.file) x.0; fetched = n.fetched; direct = n.direct; state = x.1 }

abbrev pub reads_outcome : ReadSetting → ℕ → List Read → State → Outcome
reads_outcome c a reads s = outcome_over (read_outcome c a) reads s

-- what was taken, counted and left is just what `w` says
pub record HasOutcome (w : Outcome) (report_before report_now : Report) (x y : Moment) : Type 0 where
  pub places : Took x.source.reads y.source.reads w.places
  pub fetched : Grew report_before.fetched report_now.fetched w.fetched
  pub direct : Grew report_before.direct report_now.direct w.direct
  pub state : y.door.state ≡ Some w.state

-- Where the archive tells, no memory was wanted, no count of the source or of a frame rose, and the state is told and has one actor, this holds
-- of that state.
abbrev pub InCalm : ReadSetting → Bool → Moment → Moment → (State → Type 0) → Type 0
InCalm c out_of_memory x y P =
    IsTrue c.tells → out_of_memory ≡ false → (Rose x.source.faults y.source.faults → ⊥) → (Rose x.door.frame_faults y.door.frame_faults → ⊥)
    → (s : State) → x.door.state ≡ Some s → length s.holds ≡ 1 → P s

-- then `w` tells what became of it
abbrev pub Calmly : ReadSetting → (State → Outcome) → Bool → Report → Report → Moment → Moment → Type 0
Calmly c w out_of_memory before now x y = InCalm c out_of_memory x y (λ s. HasOutcome (w s) before now x y)

-- the same where the least interval is at least 1
abbrev pub Exactly : ReadSetting → (State → Outcome) → Bool → Report → Report → Moment → Moment → Type 0
Exactly c w out_of_memory before now x y = 0 < c.config.min_delta → Calmly c w out_of_memory before now x y

-- ---- the parts that were entered for, whatever the least interval is

-- a part of a file
pub record FilePart : Type 0 where
  pub file : ℕ
  pub part : ByteRange

abbrev pub in_file : ℕ → ByteRange → FilePart
in_file file p = record { file = file; part = p }

-- the parts of a read, and of reads one after another
abbrev pub parts_of : ℕ → Read → List FilePart
parts_of range r = map (in_file r.file) (parts range (whole_of r))

abbrev pub reads_parts : ℕ → List Read → List FilePart
reads_parts range reads = flat_map (parts_of range) reads

-- an entry for a part of a file
abbrev pub entry_for : ReadSetting → ℕ → FilePart → State → Outcome
entry_for c a q s = part_outcome c a q.file q.part s

-- A part was copied at a glance: a look at some region finds all of it. Where the least interval is at least 1, an entry for it would have
-- taken nothing and changed nothing.
pub record IsGlanced (c : ReadSetting) (a : ℕ) (q : FilePart) (s : State) : Type 0 where
  pub region : ℕ
  pub found : look region (want_of s.config.region c.table.number q.file (length (bytes_of c q.file)) q.part) s ≡ glance.Copied
  pub idle : 0 < s.config.min_delta → entry_for c a q s ≡ unchanged s

-- from state s on, `entered` are those of these parts, in order, that were entered for; each other one was copied at a glance
abbrev pub AreEntered : ReadSetting → ℕ → List FilePart → List FilePart → State → Type 0
AreEntered c a entered [] s = entered ≡ []
AreEntered c a entered (q ∷ qs) s =
    (IsGlanced c a q s × AreEntered c a entered qs s)
    ⊎ ((rest : List FilePart) × (entered ≡ q ∷ rest) × AreEntered c a rest qs (entry_for c a q s).state)

-- those of the parts that were entered for, one after another, tell what became of a state
pub record HasEntries (c : ReadSetting) (a : ℕ) (ps : List FilePart) (report_before report_now : Report) (x y : Moment) (s : State) : Type 0 where
  pub entered : List FilePart
  pub are : AreEntered c a entered ps s
  pub outcome : HasOutcome (outcome_over (entry_for c a) entered s) report_before report_now x y

abbrev pub ByEntries : ReadSetting → ℕ → List FilePart → Bool → Report → Report → Moment → Moment → Type 0
ByEntries c a ps out_of_memory before now x y = InCalm c out_of_memory x y (HasEntries c a ps before now x y)

-- ---- what a reader keeps of the part that was copied last

-- The part that was copied last, in a state that is told: its mount is not gone, its region is still mapped to its key, and an access
-- at the same time changes nothing, where the least interval is at least 1.
pub record Fits (mount now : ℕ) (l : Last) (s : State) : Type 0 where
  pub there : is_gone s mount ≡ false
  pub mapped : find (tag_of l.key) s.policy ≡ Some l.region
  pub touched : 0 < s.config.min_delta → touch l.region now s.policy ≡ s.policy

abbrev pub LastFits : ℕ → ℕ → Option Last → Option State → Type 0
LastFits mount now None s = Unit {0}
LastFits mount now (Some l) None = Unit {0}
LastFits mount now (Some l) (Some s) = Fits mount now l s

-- settings, policy and mounts are as before, where the state is told
abbrev pub SamePolicy : Option State → Option State → Type 0
SamePolicy (Some s) (Some t) = (t.config ≡ s.config) × (t.policy ≡ s.policy) × (t.gone ≡ s.gone)
SamePolicy None t = t ≡ None
SamePolicy (Some s) None = ⊥

-- What a hold, whose region's first byte is byte `base` of the file and whose gap is this, makes of a state: the gap was taken, counted and
-- stored, and the hold given back.
pub record HasHeldOutcome (c : ReadSetting) (a file base : ℕ) (gap : Option ByteRange) (s : State) (report_before report_now : Report) (x y : Moment) : Type 0 where
  pub places : Took x.source.reads y.source.reads (slice_of (places_of c file) (base + range_start gap) (range_end gap - range_start gap))
  pub fetched : Grew report_before.fetched report_now.fetched (range_end gap - range_start gap)
  pub direct : Grew report_before.direct report_now.direct 0
  pub state : let t = gap_stored c a file base gap s in y.door.state ≡ Some (leave a (hold_at t a) t)

-- this in calm, where the hold did not fail
abbrev pub HeldExactly : ReadSetting → ℕ → ℕ → ℕ → Option ByteRange → Bool → Report → Report → Moment → Moment → Type 0
HeldExactly c a file base gap out_of_memory before now x y = InCalm c out_of_memory x y (λ s. Unfailed a s → HasHeldOutcome c a file base gap s before now x y)

-- the part that was copied last had this key, and a look at its region finds what is wanted
abbrev pub Looked : Option Last → Want → State → Type 0
Looked last want s = (l : Last) × (last ≡ Some l) × (l.key ≡ want.key) × (look l.region want s ≡ glance.Copied)

-- a take of all that is wanted was answered so, where no count of a frame rose
abbrev pub Copies : ℕ → ℕ → ℕ → Bool → State → Type 0
Copies a before now copied s = take_bytes (hold_at s a) s ≡ taken.Copied → (Rose before now → ⊥) → copied ≡ true

pub last_fits_prop : (mount now : ℕ) (l : Option Last) (o : Option State) → IsProp (LastFits mount now l o)
last_fits_prop mount now None o = hlevel props
last_fits_prop mount now (Some l) None = hlevel props
last_fits_prop mount now (Some l) (Some s) = hlevel props
