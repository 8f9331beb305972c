-- The calls of an actor that holds a region, on a core: what each leaves is kept, and is the machine's.
use Rattle.std.proofs.Common.{arith, ◌≡◌, ◌<◌, ◌≤◌, ℕ, Bool, List, sym, subst, ◌∙◌, ap, refl, length, set, get_or, Option, Some, None}
use Rattle.std.specs.Prelude.{IsSome}
use Rattle.std.proofs.lemmas.List.{length-set, get_or_default, length-map}
use Rattle.sparse_tracker.specs.ByteStates.{gap_of, ticket_of}
use Rattle.sparse_tracker.specs.Weights.{TicketWeights, GapWeights}
use Rattle.region_cell.specs.Cells as cells
use Rattle.region_cell.specs.Cells.{CellView, FrameMetadata, FrameStays, Region, with_region, new_cell}
use Rattle.cache_door.specs.declared.hold.Hold.{Hold}
use Rattle.cache_door.specs.declared.work.Work.{Work}
use Rattle.sparse_tracker.specs.declared.gaps.OpenGap.{OpenGap}
use Rattle.cache_door.specs.Machine as machine
use Rattle.cache_door.specs.Machine.{State, Cell, cell_at, hold_at, with_hold, with_cell, no_gap}
use Rattle.cache_door.specs.Good.{GoodCell, HoldFits}
use Rattle.cache_door.specs.Doors.{HoldView, hold_view}
use Rattle.cache_door.specs.Counters.{counters_same}
use Rattle.cache_door.specs.Cores.{CoreView, view_at, all_tell, cell_of, state_of, no_frame, IsKept, Later}
use Rattle.cache_door.proofs.Keeps.{Changes}
use Rattle.cache_door.proofs.Calls.{fail_changes, leave_changes}
use Rattle.cache_door.proofs.Found.{found_gap, found_ticket}
use Rattle.cache_door.proofs.Frames.{cell_is, state_set, tell_same, steady_same, faults_later, faults_stand}
use Rattle.cache_door.proofs.Kept.{cell_kept, new_good}

pub frame_same : (old new : FrameMetadata) → new ≡ old → FrameStays old new
frame_same old new e = record {
  size = ap (λ (f : FrameMetadata). f.size) e;
  tells = ap (λ (f : FrameMetadata). f.tells) e;
  steady = ap (λ (f : FrameMetadata). f.steady) e;
  later = let h = ap (λ (f : FrameMetadata). f.faults) e in omega (arith, h);
  stands = λ t. ap (λ (f : FrameMetadata). f.faults) e;
}

-- what is read from a list is its entry, at any default
pub read_is : {X : Type 0} (xs : List X) (i : ℕ) (x d : X) → x ≡ get_or xs i x → i < length xs → get_or xs i d ≡ x
read_is xs i x d e h = get_or_default xs i d x h ∙ sym e

module _ {tells : Bool} {files : ℕ → ℕ → List ℕ} (v : CoreView) (kept : IsKept tells files v) (a r : ℕ) (y : CellView) (inside : r < length v.cells)
    (frame : FrameStays (view_at v.cells r).metadata.frame y.metadata.frame) (o : Option Hold) (w : Work) where
  abbrev pub left : CoreView
  left = record v { cells = set v.cells r y; holds = set v.holds a o; work = w }

  pub left_later : Later v left
  left_later = record {
    config = refl;
    actors = length-set v.holds a o;
    tell = tell_same v r y inside frame;
    steady = steady_same v r y inside frame;
    faults = faults_later v r y inside frame;
    stands = faults_stand v r y inside frame;
    counters = counters_same v.policy;
  }

  pub left_state : state_of left ≡ with_hold a o (with_cell r (cell_of (all_tell v.cells) y) (state_of v))
  left_state = ap (λ (s : State). with_hold a o s) (state_set v r y inside frame)

-- the core v, which contracts see as u, and the hold h of actor a in it
module _ {tells : Bool} {files : ℕ → ℕ → List ℕ} (v u : CoreView) (is : v ≡ u) (kept : IsKept tells files v) (a : ℕ) (o : Option Hold) (h : Hold)
    (read : o ≡ get_or v.holds a o) (some : o ≡ Some h) (actor_u : a < length u.holds) where
  abbrev s : State
  s = state_of v

  pub actor : a < length v.holds
  actor = let P : CoreView → Type 0 = λ x. a < length x.holds in subst P (sym is) actor_u

  pub held : hold_at s a ≡ Some h
  held = read_is v.holds a o None read actor ∙ some

  pub fits : HoldFits s h
  fits = kept.good.holds a h held

  pub inside : h.region < length v.cells
  inside = let l = length-map v.cells (cell_of (all_tell v.cells)) in omega (arith, l, fits.region)

  -- what is told of the hold, as contracts see it
  pub told_is : hold_view (hold_at (state_of u) a) ≡ hold_view (Some h)
  told_is = let P : CoreView → Type 0 = λ x. hold_view (hold_at (state_of x) a) ≡ hold_view (Some h) in subst P is (ap hold_view held)

  module _ (x : CellView) (at : x ≡ get_or v.cells h.region x) where
    pub view_is : view_at v.cells h.region ≡ x
    view_is = read_is v.cells h.region x (new_cell no_frame 0) at inside

    pub cell_here : cell_at s h.region ≡ cell_of (all_tell v.cells) x
    cell_here = cell_is v h.region inside ∙ ap (λ (c : CellView). cell_of (all_tell v.cells) c) view_is

    pub tracker_here : (cell_at s h.region).region ≡ x.metadata.region
    tracker_here = ap (λ (c : Cell). c.region) cell_here

    pub gap_here : h.gap.upto < h.gap.end → gap_of h.gap.id x.metadata.region.tracker ≡ Some h.gap
    gap_here opened = let P : Region → Type 0 = λ c. gap_of h.gap.id c.tracker ≡ Some h.gap in subst P tracker_here (found_gap s a h kept.good held opened)

    -- a call that changes the cell's region alone
    module _ (y : CellView) (new : Region) (called : y ≡ with_region new x) where
      abbrev frame : FrameStays (view_at v.cells h.region).metadata.frame y.metadata.frame
      frame = frame_same (view_at v.cells h.region).metadata.frame y.metadata.frame (ap (λ (c : CellView). c.metadata.frame) called ∙ sym (ap (λ (c : CellView). c.metadata.frame) view_is))

      range_same : y.metadata.range ≡ (view_at v.cells h.region).metadata.range
      range_same = ap (λ (c : CellView). c.metadata.range) called ∙ sym (ap (λ (c : CellView). c.metadata.range) view_is)

      pub new_region : (cell_of (all_tell v.cells) y).region ≡ new
      new_region = ap (λ (c : CellView). c.metadata.region) called

      pub call_good : cells.IsGood tells files y → GoodCell tells (all_tell v.cells) files v.config (cell_of (all_tell v.cells) y)
      call_good good = new_good v h.region y kept inside frame range_same good

      pub call_kept : (k : Option Hold) (w : Work) → Changes tells files s a h.region (cell_of (all_tell v.cells) y) k → IsKept tells files (record v { cells = set v.cells h.region y; holds = set v.holds a k; work = w })
      call_kept k w now = cell_kept v h.region y kept inside frame range_same a k w now

      pub call_later : (k : Option Hold) (w : Work) → Later u (record v { cells = set v.cells h.region y; holds = set v.holds a k; work = w })
      call_later k w = let P : CoreView → Type 0 = λ c. Later c (record v { cells = set v.cells h.region y; holds = set v.holds a k; work = w }) in subst P is (left_later v kept a h.region y inside frame k w)

      cells_is : cell_of (all_tell v.cells) y ≡ record { region = new; bytes = (cell_at s h.region).bytes }
      cells_is =
          ap (λ (c : CellView). cell_of (all_tell v.cells) c) called
          ∙ ap (λ (l : List ℕ). let c : Cell = record { region = new; bytes = l } in c) (sym (ap (λ (c : Cell). c.bytes) cell_here))

      pub call_state : (k : Option Hold) (w : Work) → state_of (record v { cells = set v.cells h.region y; holds = set v.holds a k; work = w }) ≡ with_hold a k (machine.with_region h.region new s)
      call_state k w = left_state v kept a h.region y inside frame k w ∙ ap (λ (c : Cell). with_hold a k (with_cell h.region c s)) cells_is

    -- ---- a gap that failed
    pub fail_all : (y : CellView) → y ≡ with_region (cells.fail h.gap.id x.metadata.region) x → cells.IsGood tells files y → TicketWeights → GapWeights
        → (hold_view (hold_at (state_of u) a)).upto < (hold_view (hold_at (state_of u) a)).gap_end → (w : Work) (g : OpenGap) → g ≡ no_gap
        → let k : Option Hold = Some (record h { gap = g }) in
        let new : CoreView = record v { cells = set v.cells h.region y; holds = set v.holds a k; work = w } in
        IsKept tells files new × (state_of new ≡ machine.fail a (hold_at (state_of u) a) (state_of u)) × Later u new
    fail_all y called good tickets gaps opened w g closed =
        let n = cells.fail h.gap.id x.metadata.region in
        let T : HoldView → Type 0 = λ t. t.upto < t.gap_end in
        let o = subst T told_is opened in
        let k : Option Hold = Some (record h { gap = no_gap }) in
        let e : n ≡ cells.fail h.gap.id (cell_at s h.region).region = sym (ap (λ (c : Region). cells.fail h.gap.id c) tracker_here) in
        let change = fail_changes tickets gaps s a h kept.good held actor (cell_of (all_tell v.cells) y) o (new_region y n called ∙ e) (call_good y n called good) in
        let P : OpenGap → Type 0 = λ q. let j : Option Hold = Some (record h { gap = q }) in let new : CoreView = record v { cells = set v.cells h.region y; holds = set v.holds a j; work = w } in
        IsKept tells files new × (state_of new ≡ machine.fail a (hold_at (state_of u) a) (state_of u)) × Later u new in
        let Q : CoreView → Type 0 = λ c. machine.fail a (Some h) s ≡ machine.fail a (hold_at (state_of c) a) (state_of c) in
        subst P (sym closed) (
          call_kept y n called k w change,
          call_state y n called k w ∙ ap (λ (c : Region). with_hold a k (machine.with_region h.region c s)) e ∙ subst Q is (ap (λ (j : Option Hold). machine.fail a j s) (sym held)),
          call_later y n called k w,
        )

    -- ---- a hold that is given back
    pub leave_all : (y : CellView) → y ≡ with_region (cells.leave h.ticket x.metadata.region) x → cells.IsGood tells files y → TicketWeights → GapWeights
        → (hold_view (hold_at (state_of u) a)).gap_end ≤ (hold_view (hold_at (state_of u) a)).upto → (w : Work)
        → let new : CoreView = record v { cells = set v.cells h.region y; holds = set v.holds a None; work = w } in
        IsKept tells files new × (state_of new ≡ machine.leave a (hold_at (state_of u) a) (state_of u)) × Later u new
    leave_all y called good tickets gaps closed w =
        let n = cells.leave h.ticket x.metadata.region in
        let T : HoldView → Type 0 = λ t. t.gap_end ≤ t.upto in
        let o = subst T told_is closed in
        let e : n ≡ cells.leave h.ticket (cell_at s h.region).region = sym (ap (λ (c : Region). cells.leave h.ticket c) tracker_here) in
        let change = leave_changes tickets gaps s a h kept.good held actor (cell_of (all_tell v.cells) y) o (new_region y n called ∙ e) (call_good y n called good) in
        let Q : CoreView → Type 0 = λ c. machine.leave a (Some h) s ≡ machine.leave a (hold_at (state_of c) a) (state_of c) in (
          call_kept y n called None w change,
          call_state y n called None w ∙ ap (λ (c : Region). with_hold a None (machine.with_region h.region c s)) e ∙ subst Q is (ap (λ (j : Option Hold). machine.leave a j s) (sym held)),
          call_later y n called None w,
        )

    pub ticket_here : IsSome (ticket_of h.ticket x.metadata.region.tracker)
    ticket_here = let P : Region → Type 0 = λ c. IsSome (ticket_of h.ticket c.tracker) in subst P tracker_here (rw (found_ticket s a h kept.good held).1.1 refl)

    pub gap_some : (hold_view (hold_at (state_of u) a)).upto < (hold_view (hold_at (state_of u) a)).gap_end → IsSome (gap_of h.gap.id x.metadata.region.tracker)
    gap_some opened = let T : HoldView → Type 0 = λ t. t.upto < t.gap_end in rw (gap_here (subst T told_is opened)) refl
