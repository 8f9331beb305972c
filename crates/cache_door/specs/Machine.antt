-- The event machine of a cache: its state, and what each call of an actor makes of it.
use Rattle.std.specs.Prelude.{◌≡◌, ◌⊎◌, ◌+◌, ◌-◌, ◌==◌, ◌&&◌, nat_le, ℕ, Bool, true, false, not, List, [], length, map, filter, slice_get, slice_set, slice_index_or, replicate, Option, Some, None, if◌then◌else◌}
use Rattle.std.specs.List.{list_any, list_all}
use Rattle.region_ranges.specs.declared.ranges.ByteRange.{ByteRange}
use Rattle.region_ranges.specs.declared.keys.Config.{Config}
use Rattle.region_ranges.specs.Keys.{free_tag, tag_of}
use Rattle.sparse_tracker.specs.declared.gaps.OpenGap.{OpenGap}
use Rattle.sparse_tracker.specs.ByteStates.{ByteState, new_tracker, least_unused, numbers, ids, byte_states_in, is_absent, is_present, present}
use Rattle.freq_lists.specs.Lists.{head}
use Rattle.cache_policy.specs.Policy as policy
use Rattle.cache_policy.specs.Policy.{PolicyView, new_policy}
use Rattle.cache_policy.specs.Ageing.{map_front, touch, decay, candidates}
use Rattle.region_cell.specs.Cells as cells
use Rattle.region_cell.specs.Cells.{Region, len_of, are_present, claim_run}
use Rattle.cache_outside.specs.Frames.{put_at}
use Rattle.region_cell.specs.declared.taken.Taken.{Taken}
use Rattle.region_cell.specs.declared.taken.Taken.TheVariants as taken
use Rattle.blob_parts.specs.Content.{slice_of}
use Rattle.cache_door.specs.declared.answers.Want.{Want}
use Rattle.cache_door.specs.declared.answers.Entered.{Entered}
use Rattle.cache_door.specs.declared.answers.Entered.TheVariants.{Held, NoRoom, Gone}
use Rattle.cache_door.specs.declared.answers.Glance.{Glance}
use Rattle.cache_door.specs.declared.answers.Glance.TheVariants as glance
use Rattle.cache_door.specs.declared.hold.Hold.{Hold}

-- a region's key and states, and the bytes of its frame
pub record Cell : Type 0 where
  pub region : Region
  pub bytes : List ℕ

-- Cells are by region, holds by actor, and `gone` says of each mount number whether it was unmounted. `told` says whether the
-- frames tell their bytes: where they don't, cells have none here.
pub record State : Type 0 where
  pub config : Config
  pub told : Bool
  pub policy : PolicyView
  pub cells : List Cell
  pub holds : List (Option Hold)
  pub gone : List Bool

abbrev pub no_cell : Cell
no_cell = record { region = record { tag = free_tag; tracker = new_tracker 0 }; bytes = [] }

abbrev pub cell_at : State → ℕ → Cell
cell_at s r = slice_index_or s.cells r no_cell

abbrev pub hold_at : State → ℕ → Option Hold
hold_at s a = slice_index_or s.holds a None

abbrev pub is_gone : State → ℕ → Bool
is_gone s mount = slice_index_or s.gone mount false

-- whether an actor holds the region
abbrev pub is_on : ℕ → Option Hold → Bool
is_on r None = false
is_on r (Some h) = h.region == r

abbrev pub is_held_by : List (Option Hold) → ℕ → Bool
is_held_by holds r = list_any (is_on r) holds

abbrev pub is_held : State → ℕ → Bool
is_held s r = is_held_by s.holds r

-- the regions that nobody holds
abbrev pub unheld_by : List (Option Hold) → List ℕ → List ℕ
unheld_by holds rs = filter (λ r. not (is_held_by holds r)) rs

abbrev pub unheld : State → List ℕ → List ℕ
unheld s rs = unheld_by s.holds rs

abbrev pub with_cell : ℕ → Cell → State → State
with_cell r c s = record s { cells = slice_set s.cells r c }

-- the bytes stay
abbrev pub with_region : ℕ → Region → State → State
with_region r c s = with_cell r (record { region = c; bytes = (cell_at s r).bytes }) s

abbrev pub with_hold : ℕ → Option Hold → State → State
with_hold a h s = record s { holds = slice_set s.holds a h }

-- ---- an entry

-- a closed gap
abbrev pub no_gap : OpenGap
no_gap = record { id = 0; upto = 0; end = 0 }

abbrev pub gap_on : ℕ → Option ByteRange → OpenGap
gap_on g None = no_gap
gap_on g (Some run) = record { id = g; upto = run.start; end = run.end }

abbrev pub hold_on : ℕ → ℕ → Want → Region → Hold
hold_on range r want c = record { region = r; tag = tag_of want.key; ticket = least_unused (numbers c.tracker.tickets); sub = want.sub; gap = gap_on (least_unused (ids c.tracker.gaps)) (claim_run range want.sub c) }

-- the actor holds the region, and claims by the tracker's rule over the aligned range of what is wanted
abbrev pub hold : ℕ → ℕ → Want → State → Entered × State
hold a r want s =
    let c = (cell_at s r).region in
    (Held r (claim_run s.config.range want.sub c), with_hold a (Some (hold_on s.config.range r want c)) (with_region r (cells.claim s.config.range want.sub c) s))

-- each leaving region that nobody holds is settled, in the order of the list
abbrev pub settled_by : List (Option Hold) → PolicyView → PolicyView
settled_by holds p = policy.settle_all (unheld_by holds p.leaving) p

abbrev pub settled : State → PolicyView
settled s = settled_by s.holds s.policy

abbrev pub evicted : Option ℕ → PolicyView → PolicyView
evicted None p = p
evicted (Some r) p = policy.unmap r p

-- besides, where no region is free then, the first candidate that nobody holds is unmapped
abbrev pub evicted_by : List (Option Hold) → PolicyView → PolicyView
evicted_by holds p = if 0 == length p.free then evicted (head (unheld_by holds (candidates p))) p else p

abbrev pub room_by : List (Option Hold) → PolicyView → PolicyView
room_by holds p = evicted_by holds (settled_by holds p)

abbrev pub make_room : State → PolicyView
make_room s = room_by s.holds s.policy

-- the region, where there is one, is mapped and assigned, all its bytes absent, and held
abbrev pub place : ℕ → Option ℕ → PolicyView → Want → ℕ → State → Entered × State
place a None p want now s = (NoRoom, s)
place a (Some r) p want now s =
    hold a r want (record (with_region r (cells.assign (tag_of want.key) want.len (cell_at s r).region) s) { policy = map_front r (tag_of want.key) now p })

-- a mapped key is touched and held, where its cell has the wanted length; for another key the front free region is taken, after
-- room was made
abbrev pub enter_at : Option ℕ → ℕ → Want → ℕ → State → Entered × State
enter_at None a want now s = place a (head (make_room s).free) (make_room s) want now s
enter_at (Some r) a want now s =
    if len_of (cell_at s r).region == want.len
    then hold a r want (record s { policy = touch r now s.policy })
    else (NoRoom, s)

abbrev pub entered : Option ℕ → ℕ → Want → ℕ → State → State
entered o a want now s = (enter_at o a want now s).1

-- the entry of actor a for a mount at the time `now`: its answer, and the state behind it
abbrev pub enter : ℕ → ℕ → Want → ℕ → State → Entered × State
enter a mount want now s = if is_gone s mount then (Gone, s) else enter_at (policy.find (tag_of want.key) s.policy) a want now s

-- ---- the other calls of the actor with the hold

-- all states present, else one absent, else one that somebody fetches
abbrev pub taken_of : List ByteState → Taken
taken_of ls = if list_all is_present ls then taken.Copied else if list_any is_absent ls then taken.Failed else taken.Waiting

abbrev pub take_bytes : Option Hold → State → Taken
take_bytes None s = taken.Failed
take_bytes (Some h) s = taken_of (byte_states_in h.sub.start h.sub.end (cell_at s h.region).region.tracker.byte_states)

-- the bytes of a cell at a range
abbrev pub bytes_in : ℕ → ByteRange → State → List ℕ
bytes_in r sub s = slice_of (cell_at s r).bytes sub.start (sub.end - sub.start)

-- the bytes that a hold wants
abbrev pub wanted : Option Hold → State → List ℕ
wanted None s = []
wanted (Some h) s = bytes_in h.region h.sub s

-- the piece is put into the cell at the gap's present end, which moves by it
abbrev pub store_into : ℕ → Hold → List ℕ → State → State
store_into a h piece s =
    let to = h.gap.upto + length piece in
    let c = cell_at s h.region in
    with_hold a (Some (record h { gap = record h.gap { upto = to } }))
    (with_cell h.region (record { region = cells.progress h.gap.id to c.region; bytes = if s.told then put_at h.gap.upto piece c.bytes else c.bytes }) s)

abbrev pub store : ℕ → Option Hold → List ℕ → State → State
store a None piece s = s
store a (Some h) piece s = store_into a h piece s

-- the rest of the gap is absent again
abbrev pub fail : ℕ → Option Hold → State → State
fail a None s = s
fail a (Some h) s = with_hold a (Some (record h { gap = no_gap })) (with_region h.region (cells.fail h.gap.id (cell_at s h.region).region) s)

abbrev pub leave : ℕ → Option Hold → State → State
leave a None s = s
leave a (Some h) s = with_hold a None (with_region h.region (cells.leave h.ticket (cell_at s h.region).region) s)

-- ---- calls without a hold

-- a look at a cell for a key: one of the key that has fewer states than are wanted lacks a wanted byte too
abbrev pub look_at : Want → Region → Glance
look_at want c =
    if c.tag == tag_of want.key
    then (if nat_le want.sub.end (len_of c) && are_present want.sub c then glance.Copied else glance.Absent)
    else glance.Moved c.tag

abbrev pub look : ℕ → Want → State → Glance
look r want s = look_at want (cell_at s r).region

abbrev pub age : ℕ → State → State
age now s = record s { policy = decay now s.policy }

-- each region that is mapped to a key of the manifest leaves, and each leaving one that nobody holds is settled
abbrev pub clear : ℕ → State → State
clear manifest s = let t = record s { policy = policy.clear manifest s.policy } in record t { policy = settled t }

-- the mount is marked, and its manifest cleared
abbrev pub unmount : ℕ → ℕ → State → State
unmount mount manifest s = clear manifest (record s { gone = slice_set s.gone mount true })

-- ---- the first state, over frames with these bytes

abbrev pub new_cell : ℕ → List ℕ → Cell
new_cell size bytes = record { region = record { tag = free_tag; tracker = new_tracker size }; bytes = bytes }

abbrev pub new_state : Config → Bool → List (List ℕ) → ℕ → State
new_state c told frames actors = record {
  config = c;
  told = told;
  policy = new_policy c.regions c.max_freq c.min_delta;
  cells = map (new_cell c.region) frames;
  holds = replicate actors None;
  gone = replicate 4096 false;
}

-- ---- steps

-- a call of one actor
pub data Event : Type 0 where
  Enter : ℕ → Want → ℕ → Event
  TakeBytes : Event
  Store : List ℕ → Event
  Fail : Event
  Leave : Event
  Look : ℕ → Want → Event
  Decay : ℕ → Event
  Clear : ℕ → Event
  Live : ℕ → Event
  Unmount : ℕ → ℕ → Event

pub data Answer : Type 0 where
  Entry : Entered → Answer
  NoMemory : Answer
  Took : Taken → Answer
  Fault : Answer
  Looked : Glance → Answer
  Done : Answer

-- the machine's own answer, and the state behind it
abbrev pub outcome : State → ℕ → Event → Answer × State
outcome s a (Enter mount want now) = let e = enter a mount want now s in (Entry e.0, e.1)
outcome s a TakeBytes = (Took (take_bytes (hold_at s a) s), s)
outcome s a (Store piece) = (Done, store a (hold_at s a) piece s)
outcome s a Fail = (Done, fail a (hold_at s a) s)
outcome s a Leave = (Done, leave a (hold_at s a) s)
outcome s a (Look r want) = (Looked (look r want s), s)
outcome s a (Decay now) = (Done, age now s)
outcome s a (Clear m) = (Done, clear m s)
outcome s a (Live m) = (Done, s)
outcome s a (Unmount mount m) = (Done, unmount mount m s)

-- what an event may be refused by: an entry by memory, and what reaches a frame by its fault
abbrev pub may_refuse : Event → Answer → Bool
may_refuse (Enter mount want now) NoMemory = true
may_refuse TakeBytes Fault = true
may_refuse (Store piece) Fault = true
may_refuse (Look r want) Fault = true
may_refuse e r = false

-- all is the same, but for bytes of cells that are not present
pub record SamePresent (s t : State) : Type 0 where
  pub config : t.config ≡ s.config
  pub told : t.told ≡ s.told
  pub policy : t.policy ≡ s.policy
  pub holds : t.holds ≡ s.holds
  pub gone : t.gone ≡ s.gone
  pub count : length t.cells ≡ length s.cells
  pub regions : (r : ℕ) → (cell_at t r).region ≡ (cell_at s r).region
  pub bytes : (r i : ℕ) → slice_get (cell_at s r).region.tracker.byte_states i ≡ Some present → slice_get (cell_at t r).bytes i ≡ slice_get (cell_at s r).bytes i

-- the machine's answer and state, or a refusal that leaves what is present
abbrev pub Step : State → ℕ → Event → Answer → State → Type 0
Step s a e answer t = (outcome s a e ≡ (answer, t)) ⊎ ((may_refuse e answer ≡ true) × SamePresent s t)
