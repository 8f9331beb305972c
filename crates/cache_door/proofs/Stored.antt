-- A store on a core: the machine's where it is taken, and where a frame faults all that is present stays.
use Rattle.std.proofs.Common.{arith, ◌≡◌, ◌<◌, ◌≤◌, ◌+◌, ◌-◌, min, ℕ, zero, suc, Bool, true, false, List, [], ◌∷◌, sym, subst, ◌∙◌, ap, inl, inr, refl, length, take, drop, set, get_or, Option, Some, None}
use Rattle.std.specs.List.{position_or_len}
use Rattle.std.proofs.lemmas.List.Folds.{find_at}
use Rattle.std.specs.Prelude.{◌==◌, ◌⊎◌, IsTrue, IsSome, IfSome, slice_get, if◌then◌else◌}
use Rattle.std.proofs.lemmas.Bool.{cases_eq, cases_lt}
use Rattle.std.proofs.lemmas.List.{get_or-set_same, get_or-set_other, length-set}
use Rattle.sparse_tracker.specs.declared.gaps.OpenGap.{OpenGap}
use Rattle.sparse_tracker.specs.ByteStates.{pending, present, gap_of}
use Rattle.sparse_tracker.specs.Weights.{TicketWeights, GapWeights}
use Rattle.sparse_tracker.specs.Weights.{total}
use Rattle.byte_text.specs.Counts.{Rose}
use Rattle.cache_outside.specs.Frames.{put_at, SameOutside}
use Rattle.cache_door.proofs.Weighs.{total-set, total-at}
use Rattle.blob_parts.specs.Pieces.{PieceView}
use Rattle.region_cell.specs.Cells as cells
use Rattle.region_cell.specs.Cells.{CellView, FrameStays, Region, with_region, with_frame, new_cell}
use Rattle.cache_door.specs.declared.hold.Hold.{Hold}
use Rattle.cache_door.specs.declared.work.Work.{Work}
use Rattle.cache_door.specs.Machine as machine
use Rattle.cache_door.specs.Machine.{State, Cell, cell_at, hold_at, with_hold, with_cell, no_cell, SamePresent}
use Rattle.cache_door.specs.Good.{HoldFits}
use Rattle.cache_door.specs.Doors.{HoldView, hold_view, FitsGap}
use Rattle.cache_door.specs.Cores.{CoreView, view_at, all_tell, all_steady, all_faults, cell_of, state_of, no_frame, IsKept, Later}
use Rattle.cache_door.proofs.Keeps.{Changes}
use Rattle.cache_door.proofs.Calls.{store_changes}
use Rattle.cache_door.proofs.Found.{found_gap}
use Rattle.cache_door.proofs.Frames.{state_set, set_same, one_steady}
use Rattle.cache_door.proofs.Kept.{cell_kept, new_good, one_tells}
use Rattle.cache_door.proofs.Held.{read_is, held, inside, told_is, cell_here, fits, actor, gap_here, tracker_here, left_later, left_state}

get_take : (k i : ℕ) (xs : List ℕ) → i < k → slice_get (take k xs) i ≡ slice_get xs i
get_take zero i xs h = absurd (omega (arith, h))
get_take (suc k) i [] h = refl
get_take (suc k) zero (x ∷ xs) h = refl
get_take (suc k) (suc i) (x ∷ xs) h = get_take k i xs (omega (arith, h))

get_drop : (k i j : ℕ) (xs : List ℕ) → j ≡ k + i → slice_get (drop k xs) i ≡ slice_get xs j
get_drop zero i j xs e = let f : i ≡ j = omega (arith, e) in ap (λ n. slice_get xs n) f
get_drop (suc k) i j [] e = refl
get_drop (suc k) i zero (x ∷ xs) e = absurd (omega (arith, e))
get_drop (suc k) i (suc j) (x ∷ xs) e = get_drop k i j xs (omega (arith, e))

put_or_none : (b : Bool) (x p q : List ℕ) → (b ≡ true → x ≡ p) → (b ≡ false → q ≡ []) → (if b then x else []) ≡ (if b then p else q)
put_or_none true x p q f g = f refl
put_or_none false x p q f g = sym (g refl)

stand_or_none : (b : Bool) (i : ℕ) (x q : List ℕ) → (b ≡ true → slice_get x i ≡ slice_get q i) → (b ≡ false → q ≡ []) → slice_get (if b then x else []) i ≡ slice_get q i
stand_or_none true i x q f g = f refl
stand_or_none false i x q f g = ap (λ (l : List ℕ). slice_get l i) (sym (g refl))

outside_get : (start n i : ℕ) (b c : List ℕ) → SameOutside start n b c → (i < start) ⊎ (start + n ≤ i) → slice_get c i ≡ slice_get b i
outside_get start n i b c same (inl l) = sym (get_take start i c l) ∙ ap (λ (q : List ℕ). slice_get q i) same.front ∙ get_take start i b l
outside_get start n i b c same (inr g) =
    sym (get_drop (start + n) (i - (start + n)) i c (omega (arith, g))) ∙ ap (λ (q : List ℕ). slice_get q (i - (start + n))) same.rest ∙ get_drop (start + n) (i - (start + n)) i b (omega (arith, g))

module _ {tells : Bool} {files : ℕ → ℕ → List ℕ} (v u : CoreView) (is : v ≡ u) (kept : IsKept tells files v) (a : ℕ) (o : Option Hold) (h : Hold)
    (read : o ≡ get_or v.holds a o) (some : o ≡ Some h) (actor_u : a < length u.holds) (x : CellView) (at : x ≡ get_or v.cells h.region x)
    (piece : PieceView) (asked : FitsGap u.config.region (hold_view (hold_at (state_of u) a)) piece) where
  abbrev s : State
  s = state_of v

  within : h.region < length v.cells
  within = inside v u is kept a o h read some actor_u

  x_is : view_at v.cells h.region ≡ x
  x_is = read_is v.cells h.region x (new_cell no_frame 0) at within

  fit : FitsGap v.config.region (hold_view (Some h)) piece
  fit =
      let P : CoreView → Type 0 = λ q. FitsGap q.config.region (hold_view (hold_at (state_of u) a)) piece in
      let T : HoldView → Type 0 = λ t. FitsGap v.config.region t piece in
      subst T (told_is v u is kept a o h read some actor_u) (subst P (sym is) asked)

  pub opened : h.gap.upto < h.gap.end
  opened = omega (arith, fit.some, fit.inside)

  pub ends : h.gap.upto + length piece.bytes ≤ h.gap.end
  ends = fit.inside

  gap_is : gap_of h.gap.id x.metadata.region.tracker ≡ Some h.gap
  gap_is = gap_here v u is kept a o h read some actor_u x at opened

  pub store_gap : IsSome (gap_of h.gap.id x.metadata.region.tracker)
  store_gap = rw gap_is refl

  size_is : x.metadata.frame.size ≡ v.config.region
  size_is = let P : CellView → Type 0 = λ q. q.metadata.frame.size ≡ v.config.region in subst P x_is (kept.sized h.region within).1

  tag_is : x.metadata.region.tag ≡ h.tag
  tag_is = sym (ap (λ (q : Region). q.tag) (tracker_here v u is kept a o h read some actor_u x at)) ∙ (fits v u is kept a o h read some actor_u).tag

  pub store_piece : IfSome (gap_of h.gap.id x.metadata.region.tracker) (λ g. cells.FitsGap x.metadata.frame.size x.metadata.region.tag g piece)
  store_piece = rw (gap_is, size_is, tag_is) (record { manifest = fit.manifest; file = fit.file; at = fit.at; inside = fit.inside })

  -- ---- where the store was taken
  module _ (y : CellView) (rest : y ≡ record (with_frame y.metadata.frame (with_region y.metadata.region x)) { bytes = y.bytes }) (stays : FrameStays x.metadata.frame y.metadata.frame) where
    abbrev frame : FrameStays (view_at v.cells h.region).metadata.frame y.metadata.frame
    frame = let P : CellView → Type 0 = λ q. FrameStays q.metadata.frame y.metadata.frame in subst P (sym x_is) stays

    range_same : y.metadata.range ≡ (view_at v.cells h.region).metadata.range
    range_same = ap (λ (c : CellView). c.metadata.range) rest ∙ sym (ap (λ (c : CellView). c.metadata.range) x_is)

    told_x : IsTrue (all_tell v.cells) → IsTrue x.metadata.frame.tells
    told_x all = sym stays.tells ∙ one_tells v h.region y kept within frame range_same all

    region_s : (cell_at s h.region).region ≡ x.metadata.region
    region_s = tracker_here v u is kept a o h read some actor_u x at

    bytes_s : IsTrue (all_tell v.cells) → (cell_at s h.region).bytes ≡ x.bytes
    bytes_s all = ap (λ (c : Cell). c.bytes) (cell_here v u is kept a o h read some actor_u x at) ∙ rw all refl

    no_bytes : all_tell v.cells ≡ false → (cell_at s h.region).bytes ≡ []
    no_bytes n = ap (λ (c : Cell). c.bytes) (cell_here v u is kept a o h read some actor_u x at) ∙ rw n refl

    -- a fault of the one frame is one of all
    pub store_fault : Rose x.metadata.frame.faults y.metadata.frame.faults → Rose (all_faults u.cells) (all_faults (set v.cells h.region y))
    store_fault rose =
        let F : CellView → ℕ = λ c. c.metadata.frame.faults in
        let P : CoreView → Type 0 = λ c. Rose (all_faults c.cells) (all_faults (set v.cells h.region y)) in
        let t = total-set F v.cells h.region y (new_cell no_frame 0) within in
        let b = total-at F v.cells h.region (new_cell no_frame 0) within in
        let e = ap F x_is in
        let r : min (x.metadata.frame.faults + 1) 18446744073709551615 ≤ y.metadata.frame.faults = rose in
        let later = stays.later in
        let k : min (total F v.cells + 1) 18446744073709551615 ≤ total F (set v.cells h.region y) = omega (arith, t, b, e, r, later) in
        subst P is k

    pub store_steady : IsTrue (all_steady u.cells) → IsTrue x.metadata.frame.steady
    store_steady all =
        let P : CoreView → Type 0 = λ c. IsTrue (all_steady c.cells) in
        let Q : CellView → Type 0 = λ c. IsTrue c.metadata.frame.steady in
        subst Q x_is (one_steady v h.region y within frame (subst P (sym is) all))

    abbrev to : ℕ
    to = h.gap.upto + length piece.bytes

    abbrev moved : Hold
    moved = record h { gap = record h.gap { upto = to } }

    module _ (ok : IfSome (gap_of h.gap.id x.metadata.region.tracker) (cells.Stored h.gap.id piece.bytes x y)) where
      put : cells.Stored h.gap.id piece.bytes x y h.gap
      put = rw gap_is at ok

      progressed : y.metadata.region ≡ cells.progress h.gap.id to (cell_at s h.region).region
      progressed = put.region ∙ ap (λ (q : Region). cells.progress h.gap.id to q) (sym region_s)

      put_is : IsTrue (all_tell v.cells) → y.bytes ≡ put_at h.gap.upto piece.bytes (cell_at s h.region).bytes
      put_is all = put.bytes (told_x all) ∙ ap (λ (l : List ℕ). put_at h.gap.upto piece.bytes l) (sym (bytes_s all))

      cell_y : cell_of (all_tell v.cells) y ≡ record { region = cells.progress h.gap.id to (cell_at s h.region).region; bytes = if s.told then put_at h.gap.upto piece.bytes (cell_at s h.region).bytes else (cell_at s h.region).bytes }
      cell_y =
          ap (λ (q : Region). let c : Cell = record { region = q; bytes = if all_tell v.cells then y.bytes else [] } in c) progressed
          ∙ ap (λ (l : List ℕ). let c : Cell = record { region = cells.progress h.gap.id to (cell_at s h.region).region; bytes = l } in c)
          (put_or_none (all_tell v.cells) y.bytes (put_at h.gap.upto piece.bytes (cell_at s h.region).bytes) (cell_at s h.region).bytes put_is no_bytes)

      pub stored_all : cells.IsGood tells files y → TicketWeights → GapWeights → (k : Hold) → k ≡ moved → (w : Work)
          → let new : CoreView = record v { cells = set v.cells h.region y; holds = set v.holds a (Some k); work = w } in
          IsKept tells files new × (state_of new ≡ machine.store a (hold_at (state_of u) a) piece.bytes (state_of u)) × Later u new
      stored_all good tickets gaps k is_moved w =
          let change = store_changes tickets gaps s a h kept.good (held v u is kept a o h read some actor_u) (actor v u is kept a o h read some actor_u) to (cell_of (all_tell v.cells) y) opened ends progressed (new_good v h.region y kept within frame range_same good) in
          let P : Hold → Type 0 = λ j. let new : CoreView = record v { cells = set v.cells h.region y; holds = set v.holds a (Some j); work = w } in
          IsKept tells files new × (state_of new ≡ machine.store a (hold_at (state_of u) a) piece.bytes (state_of u)) × Later u new in
          let Q : CoreView → Type 0 = λ q. machine.store_into a h piece.bytes s ≡ machine.store a (hold_at (state_of q) a) piece.bytes (state_of q) in
          let L : CoreView → Type 0 = λ q. Later q (record v { cells = set v.cells h.region y; holds = set v.holds a (Some moved); work = w }) in
          subst P (sym is_moved) (
            cell_kept v h.region y kept within frame range_same a (Some moved) w change,
            left_state v kept a h.region y within frame (Some moved) w
                ∙ ap (λ (c : Cell). with_hold a (Some moved) (with_cell h.region c s)) cell_y
                ∙ subst Q is (ap (λ (j : Option Hold). machine.store a j piece.bytes s) (sym (held v u is kept a o h read some actor_u))),
            subst L is (left_later v kept a h.region y within frame (Some moved) w),
          )

    -- ---- where the frame faulted
    module _ (stood : y.metadata.region ≡ x.metadata.region) (outside : IfSome (gap_of h.gap.id x.metadata.region.tracker) (cells.Unstored piece.bytes x y)) where
      region_y : (cell_of (all_tell v.cells) y).region ≡ (cell_at s h.region).region
      region_y = stood ∙ sym region_s

      unchanged : cells.IsGood tells files y → Changes tells files s a h.region (cell_of (all_tell v.cells) y) (Some h)
      unchanged good =
          let held_h = held v u is kept a o h read some actor_u in
          let f = fits v u is kept a o h read some actor_u in
          record {
            actor = actor v u is kept a o h read some actor_u;
            region = f.region;
            tag = ap (λ (q : Region). q.tag) region_y;
            cell = new_good v h.region y kept within frame range_same good;
            old = rw held_h refl;
            new = refl;
            fits = λ k e. let P : Hold → Type 0 = λ j. HoldFits s j in subst P (some_same e) f;
            tickets = λ g. rw (held_h, region_y) refl;
            gaps = λ g. rw (held_h, region_y) refl;
          }
        where
          some_same : {j k : Hold} → Some j ≡ Some k → j ≡ k
          some_same e = cc

      holds_same : set v.holds a (Some h) ≡ v.holds
      holds_same =
          ap (λ (j : Option Hold). set v.holds a j) (sym (held v u is kept a o h read some actor_u))
          ∙ set_same v.holds a None (actor v u is kept a o h read some actor_u)

      pub faulted_kept : cells.IsGood tells files y → (w : Work) → IsKept tells files (record v { cells = set v.cells h.region y; work = w })
      faulted_kept good w =
          let P : List (Option Hold) → Type 0 = λ l. IsKept tells files (record v { cells = set v.cells h.region y; holds = l; work = w }) in
          subst P holds_same (cell_kept v h.region y kept within frame range_same a (Some h) w (unchanged good))

      -- a present byte is not among those that were to be put
      apart : (i : ℕ) → slice_get (cell_at s h.region).region.tracker.byte_states i ≡ Some present → (i < h.gap.upto) ⊎ (h.gap.upto + length piece.bytes ≤ i)
      apart i e = elim (cases_lt i h.gap.upto) [
        | inl l ↦ inl l
        | inr g ↦ elim (cases_lt i h.gap.end) [
          | inr m ↦ inr (omega (arith, m, ends))
          | inl l ↦
              let c = kept.good.cells h.region (fits v u is kept a o h read some actor_u).region in
              let d = found_gap s a h kept.good (held v u is kept a o h read some actor_u) opened in
              let p : OpenGap → Bool = λ q. q.id == h.gap.id in
              let j = find_at p (cell_at s h.region).region.tracker.gaps in
              let k = c.tracker.gaps.byte_states (position_or_len p (cell_at s h.region).region.tracker.gaps) h.gap i (sym j ∙ d) g l in
              absurd (two_byte_states (sym e ∙ k))
        ]
      ]
        where
          two_byte_states : Some present ≡ Some (pending h.gap.id) → ⊥
          two_byte_states e = cc

      bytes_stand : (i : ℕ) → slice_get (cell_at s h.region).region.tracker.byte_states i ≡ Some present → slice_get (cell_of (all_tell v.cells) y).bytes i ≡ slice_get (cell_at s h.region).bytes i
      bytes_stand i e = stand_or_none (all_tell v.cells) i y.bytes (cell_at s h.region).bytes
          (λ t. outside_get h.gap.upto (length piece.bytes) i x.bytes y.bytes ((rw gap_is at outside) (told_x t)) (apart i e) ∙ ap (λ (l : List ℕ). slice_get l i) (sym (bytes_s t)))
          no_bytes

      here : cell_at (with_cell h.region (cell_of (all_tell v.cells) y) s) h.region ≡ cell_of (all_tell v.cells) y
      here = get_or-set_same s.cells h.region (cell_of (all_tell v.cells) y) no_cell (fits v u is kept a o h read some actor_u).region

      there : (k : ℕ) → ¬ (h.region ≡ k) → cell_at (with_cell h.region (cell_of (all_tell v.cells) y) s) k ≡ cell_at s k
      there k n = get_or-set_other s.cells h.region k (cell_of (all_tell v.cells) y) no_cell (λ e. n (sym e))

      same_cells : SamePresent s (with_cell h.region (cell_of (all_tell v.cells) y) s)
      same_cells = record {
        config = refl;
        told = refl;
        policy = refl;
        holds = refl;
        gone = refl;
        count = length-set s.cells h.region (cell_of (all_tell v.cells) y);
        regions = λ k. elim (cases_eq h.region k) [
          | inl e ↦ let P : ℕ → Type 0 = λ j. (cell_at (with_cell h.region (cell_of (all_tell v.cells) y) s) j).region ≡ (cell_at s j).region in subst P e (ap (λ (c : Cell). c.region) here ∙ region_y)
          | inr n ↦ ap (λ (c : Cell). c.region) (there k n)
        ];
        bytes = λ k i l. elim (cases_eq h.region k) [
          | inl e ↦
              let P : ℕ → Type 0 = λ j. slice_get (cell_at s j).region.tracker.byte_states i ≡ Some present → slice_get (cell_at (with_cell h.region (cell_of (all_tell v.cells) y) s) j).bytes i ≡ slice_get (cell_at s j).bytes i in
              subst P e (λ m. ap (λ (c : Cell). slice_get c.bytes i) here ∙ bytes_stand i m) l
          | inr n ↦ ap (λ (c : Cell). slice_get c.bytes i) (there k n)
        ];
      }

      pub faulted_same : (w : Work) → SamePresent (state_of u) (state_of (record v { cells = set v.cells h.region y; work = w }))
      faulted_same w =
          let P : State → Type 0 = λ q. SamePresent s q in
          let Q : CoreView → Type 0 = λ q. SamePresent (state_of q) (state_of (record v { cells = set v.cells h.region y; work = w })) in
          subst Q is (subst P (sym (state_set v h.region y within frame)) same_cells)

      pub faulted_later : (w : Work) → Later u (record v { cells = set v.cells h.region y; work = w })
      faulted_later w =
          let P : List (Option Hold) → Type 0 = λ l. Later v (record v { cells = set v.cells h.region y; holds = l; work = w }) in
          let Q : CoreView → Type 0 = λ q. Later q (record v { cells = set v.cells h.region y; work = w }) in
          subst Q is (subst P holds_same (left_later v kept a h.region y within frame (Some h) w))
