-- What clauses see of a core, and the state that it tells.
use Rattle.std.specs.Prelude.{◌≡◌, ◌<◌, ◌≤◌, ℕ, Bool, false, List, [], length, map, slice_index_or, slice_set, max, Option, Some, IsTrue, if◌then◌else◌}
use Rattle.std.specs.List.{list_all}
use Rattle.region_ranges.specs.declared.keys.Config.{Config}
use Rattle.sparse_tracker.specs.Weights.{total}
use Rattle.region_ranges.specs.Keys.{tag_of}
use Rattle.cache_policy.specs.Policy.{PolicyView, mapped_len}
use Rattle.cache_policy.specs.Ageing.{map_front}
use Rattle.cache_policy.specs.declared.tally.Tally4.{Tally4}
use Rattle.cache_outside.specs.Frames.{FrameView}
use Rattle.region_cell.specs.Cells.{CellView, new_cell, with_region, assign}
use Rattle.cache_door.specs.declared.answers.Want.{Want}
use Rattle.cache_door.specs.declared.answers.Entered.{Entered}
use Rattle.cache_door.specs.declared.hold.Hold.{Hold}
use Rattle.cache_door.specs.declared.work.Work.{Work}
use Rattle.cache_door.specs.Machine.{State, Cell, hold_at, is_gone, new_state}
use Rattle.cache_door.specs.Good.{Good}
use Rattle.cache_door.specs.Counters.{CountersRisen}
use Rattle.cache_door.specs.Doors.{DoorView, HoldView, hold_view, IsHeld, AsWanted}

pub record CoreView : Type 0 where
  pub config : Config
  pub policy : PolicyView
  pub cells : List CellView
  pub holds : List (Option Hold)
  pub gone : List Bool
  pub work : Work

abbrev pub core_view : Config → PolicyView → List CellView → List (Option Hold) → List Bool → Work → CoreView
core_view config policy cells holds gone work = record { config = config; policy = policy; cells = cells; holds = holds; gone = gone; work = work }

abbrev pub no_frame : FrameView
no_frame = record { faults = 0; size = 0; tells = false; steady = false; bytes = [] }

-- the cell of region r, or one of no bytes
abbrev pub view_at : List CellView → ℕ → CellView
view_at cells r = slice_index_or cells r (new_cell no_frame 0)

-- ---- the frames, all together

abbrev pub all_tell : List CellView → Bool
all_tell cells = list_all (λ (c : CellView). c.metadata.frame.tells) cells

abbrev pub all_steady : List CellView → Bool
all_steady cells = list_all (λ (c : CellView). c.metadata.frame.steady) cells

abbrev pub all_faults : List CellView → ℕ
all_faults cells = total (λ (c : CellView). c.metadata.frame.faults) cells

-- ---- the state

abbrev pub cell_of : Bool → CellView → Cell
cell_of told c = record { region = c.metadata.region; bytes = if told then c.bytes else [] }

abbrev pub state_of : CoreView → State
state_of v = record {
  config = v.config;
  told = all_tell v.cells;
  policy = v.policy;
  cells = map (cell_of (all_tell v.cells)) v.cells;
  holds = v.holds;
  gone = v.gone;
}

-- what actor a holds
abbrev pub held_by : CoreView → ℕ → HoldView
held_by v a = hold_view (hold_at (state_of v) a)

-- what clauses see of the door of actor a
abbrev pub door_of : CoreView → ℕ → DoorView
door_of v a = record {
  config = v.config;
  frames_tell = all_tell v.cells;
  frames_steady = all_steady v.cells;
  hold = held_by v a;
  work = v.work;
  frame_faults = all_faults v.cells;
  seen_gone = is_gone (state_of v);
  unmounted = is_gone (state_of v);
  state = Some (state_of v);
  actor = a;
}

-- the bytes are the content's that are wanted, as every door of the core says it
abbrev pub CopiesWant : Bool → (ℕ → ℕ → List ℕ) → CoreView → Want → List ℕ → Type 0
CopiesWant tells files v want bytes = AsWanted tells files (door_of v 0) want bytes

-- the state of a new core over these frames
abbrev pub first_state : {F : Type 0} → Config → (F → FrameView) → List F → ℕ → State
first_state config view frames actors =
    let told = list_all (λ f. (view f).tells) frames in
    new_state config told (map (λ f. if told then (view f).bytes else []) frames) actors

abbrev pub tally_of : PolicyView → Tally4
tally_of p = record { evictions = p.evictions; promotions = p.promotions; demotions = p.demotions; listed = mapped_len p }

-- ---- the steps of an entry

-- there is room for a claim in the region's cell
abbrev pub with_spare : ℕ → CoreView → CoreView
with_spare r v = record v { cells = slice_set v.cells r (record (view_at v.cells r) { spare = max (view_at v.cells r).spare 1 }) }

-- the region is mapped to the wanted key and its cell assigned
abbrev pub assigned : ℕ → Want → ℕ → CoreView → CoreView
assigned r want now v = record v {
  policy = map_front r (tag_of want.key) now v.policy;
  cells = slice_set v.cells r (with_region (assign (tag_of want.key) want.len (view_at v.cells r).metadata.region) (view_at v.cells r));
}

-- memory was wanted for what the machine answers by a hold, and all is as before
abbrev pub Unentered : CoreView → CoreView → (State → Entered × State) → Type 0
Unentered old new machine = (state_of new ≡ state_of old) × IsHeld (machine (state_of old)).0

-- a core keeps a good state, and its cells are made for its settings
pub record IsKept (tells : Bool) (files : ℕ → ℕ → List ℕ) (v : CoreView) : Type 0 where
  pub good : Good tells files (state_of v)
  pub sized : (r : ℕ) → r < length v.cells → ((view_at v.cells r).metadata.range ≡ v.config.range) × ((view_at v.cells r).metadata.frame.size ≡ v.config.region)

-- what no call changes, and that no count of faults fell
pub record Later (old new : CoreView) : Type 0 where
  pub config : new.config ≡ old.config
  pub actors : length new.holds ≡ length old.holds
  pub tell : all_tell new.cells ≡ all_tell old.cells
  pub steady : all_steady new.cells ≡ all_steady old.cells
  pub faults : all_faults old.cells ≤ all_faults new.cells
  pub stands : IsTrue (all_steady old.cells) → all_faults new.cells ≡ all_faults old.cells
  pub counters : CountersRisen old.policy new.policy
