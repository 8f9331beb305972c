-- The steps of an entry, one after the other, are the machine's entry.
use Rattle.std.proofs.Common.{arith, ◌≡◌, ◌<◌, ◌+◌, ℕ, zero, suc, true, List, [], ◌∷◌, sym, subst, ◌∙◌, ap, inl, inr, refl, length, set, Option, Some, None}
use Rattle.std.specs.Prelude.{◌==◌}
use Rattle.std.specs.List.{position_from}
use Rattle.std.proofs.lemmas.Bool.{cases_Bool, eq-eqb}
use Rattle.std.proofs.lemmas.List.{get_or-set_same, length-set, length-map}
use Rattle.region_ranges.specs.Keys.{tag_of}
use Rattle.freq_lists.specs.Lists.{head}
use Rattle.cache_policy.specs.Policy.{PolicyView, find, is_tag}
use Rattle.cache_policy.specs.Ageing.{touch, map_front, candidates}
use Rattle.region_cell.specs.Cells as cells
use Rattle.region_cell.specs.Cells.{CellView, FrameStays, Region, with_region, new_cell, len_of}
use Rattle.cache_door.specs.declared.answers.Want.{Want}
use Rattle.cache_door.specs.declared.hold.Hold.{Hold}
use Rattle.cache_door.specs.Machine as machine
use Rattle.cache_door.specs.Machine.{State, Cell, cell_at, with_cell, settled_by, evicted, room_by, unheld_by, make_room, no_cell}
use Rattle.cache_door.specs.Doors.{IsHeld}
use Rattle.cache_door.specs.Counters.{CountersRisen, counters_same}
use Rattle.cache_door.specs.Cores.{CoreView, view_at, all_tell, cell_of, state_of, no_frame, Later}
use Rattle.cache_door.proofs.Policies.{settled_all}
use Rattle.cache_door.proofs.Frames.{cell_is, state_set, set_same, tell_same, steady_same, faults_later, faults_stand}
use Rattle.cache_door.proofs.Held.{frame_same}

-- a cell with another number of claims for which there is room
module _ (v : CoreView) (r : ℕ) (y : CellView) (within : r < length v.cells) (frame_is : y.metadata.frame ≡ (view_at v.cells r).metadata.frame) where
  abbrev pub changed : CoreView
  changed = record v { cells = set v.cells r y }

  abbrev frame : FrameStays (view_at v.cells r).metadata.frame y.metadata.frame
  frame = frame_same (view_at v.cells r).metadata.frame y.metadata.frame frame_is

  pub changed_later : Later v changed
  changed_later = record {
    config = refl;
    actors = refl;
    tell = tell_same v r y within frame;
    steady = steady_same v r y within frame;
    faults = faults_later v r y within frame;
    stands = faults_stand v r y within frame;
    counters = counters_same v.policy;
  }

  pub changed_view : view_at changed.cells r ≡ y
  changed_view = get_or-set_same v.cells r y (new_cell no_frame 0) within

  pub changed_state : state_of changed ≡ with_cell r (cell_of (all_tell v.cells) y) (state_of v)
  changed_state = state_set v r y within frame

pub spare_state : (v : CoreView) (r n : ℕ) → r < length v.cells → state_of (record v { cells = set v.cells r (record (view_at v.cells r) { spare = n }) }) ≡ state_of v
spare_state v r n within =
    let y : CellView = record (view_at v.cells r) { spare = n } in
    changed_state v r y within refl
    ∙ ap (λ (c : Cell). with_cell r c (state_of v)) (sym (cell_is v r within))
    ∙ ap (λ (l : List Cell). let s : State = record (state_of v) { cells = l } in s) (set_same (state_of v).cells r no_cell (let l = length-map v.cells (cell_of (all_tell v.cells)) in omega (arith, l, within)))

-- a cell that is assigned
pub assigned_state : (v : CoreView) (r tag len : ℕ) (p : PolicyView) → r < length v.cells
    → state_of (record v { policy = p; cells = set v.cells r (with_region (cells.assign tag len (view_at v.cells r).metadata.region) (view_at v.cells r)) }) ≡ record (machine.with_region r (cells.assign tag len (cell_at (state_of v) r).region) (state_of v)) { policy = p }
assigned_state v r tag len p within =
    let y = with_region (cells.assign tag len (view_at v.cells r).metadata.region) (view_at v.cells r) in
    let e = cell_is v r within in
    let c : cell_of (all_tell v.cells) y ≡ record { region = cells.assign tag len (cell_at (state_of v) r).region; bytes = (cell_at (state_of v) r).bytes } =
    ap (λ (q : Cell). let d : Cell = record { region = cells.assign tag len q.region; bytes = q.bytes } in d) (sym e) in
    ap (λ (s : State). let t : State = record s { policy = p } in t) (changed_state v r y within refl ∙ ap (λ (q : Cell). with_cell r q (state_of v)) c)

-- a key that is not mapped is not after room was made
pub find_unmapped : (tag i r : ℕ) (ts : List (Option ℕ)) → position_from (is_tag tag) i ts ≡ None → position_from (is_tag tag) i (set ts r None) ≡ None
find_unmapped tag i r [] e = refl
find_unmapped tag i zero (t ∷ ts) e = elim (cases_Bool (is_tag tag t)) [
  | inl y ↦ absurd (some_none (rw y at e))
  | inr n ↦ rw n at e
]
  where
    some_none : {n : ℕ} → Some n ≡ None → ⊥
    some_none e = cc
find_unmapped tag i (suc r) (t ∷ ts) e = elim (cases_Bool (is_tag tag t)) [
  | inl y ↦ absurd (some_none (rw y at e))
  | inr n ↦ rw n (find_unmapped tag (i + 1) r ts (rw n at e))
]
  where
    some_none : {n : ℕ} → Some n ≡ None → ⊥
    some_none e = cc

pub evicted_find : (tag : ℕ) (o : Option ℕ) (p : PolicyView) → find tag p ≡ None → find tag (evicted o p) ≡ None
evicted_find tag None p e = e
evicted_find tag (Some r) p e = find_unmapped tag 0 r p.tags e

pub room_find : (tag : ℕ) (holds : List (Option Hold)) (p : PolicyView) → find tag p ≡ None → find tag (room_by holds p) ≡ None
room_find tag holds p e =
    let s = settled_by holds p in
    let f : find tag s ≡ None = ap (λ (l : List (Option ℕ)). position_from (is_tag tag) 0 l) (settled_all (unheld_by holds p.leaving) p).tags ∙ e in
    elim (cases_Bool (0 == length s.free)) [
      | inl t ↦ rw t (evicted_find tag (head (unheld_by holds (candidates s))) s f)
      | inr n ↦ rw n f
    ]

-- the policy alone changes
pub policy_later : (v u : CoreView) (p : PolicyView) → CountersRisen v.policy p → u ≡ record v { policy = p } → Later v u
policy_later v u p h e = let P : CoreView → Type 0 = λ q. Later v q in subst P (sym e) (record { config = refl; actors = refl; tell = refl; steady = refl; faults = omega arith; stands = λ t. refl; counters = h })

-- and a cell is assigned
pub assigned_later : (v u : CoreView) (r : ℕ) (c : Region) (p : PolicyView) → CountersRisen v.policy p → r < length v.cells → u ≡ record v { policy = p; cells = set v.cells r (with_region c (view_at v.cells r)) } → Later v u
assigned_later v u r c p h within e =
    let P : CoreView → Type 0 = λ q. Later v q in
    let l = changed_later v r (with_region c (view_at v.cells r)) within refl in
    subst P (sym e) (record { config = refl; actors = refl; tell = l.tell; steady = l.steady; faults = l.faults; stands = l.stands; counters = h })

-- ---- what the machine answers where memory is asked

pub mapped_held : (v : CoreView) (r a now : ℕ) (want : Want) → r < length v.cells → len_of (view_at v.cells r).metadata.region ≡ want.len → IsHeld (machine.enter_at (Some r) a want now (state_of v)).0
mapped_held v r a now want within l =
    let c : len_of (cell_at (state_of v) r).region ≡ want.len = ap (λ (q : Cell). len_of q.region) (cell_is v r within) ∙ l in
    rw (eq-eqb (len_of (cell_at (state_of v) r).region) want.len c) tt

pub other_held : (v : CoreView) (r a now : ℕ) (want : Want) → head (room_by v.holds v.policy).free ≡ Some r → IsHeld (machine.enter_at None a want now (state_of v)).0
other_held v r a now want front =
    let s = state_of v in
    let P : Option ℕ → Type 0 = λ o. IsHeld (machine.place a o (make_room s) want now s).0 in
    subst P (sym front) tt

-- ---- the entry of a mapped key

module _ (u0 u1 : CoreView) (r n : ℕ) (within : r < length u0.cells) (reserved : u1 ≡ record u0 { cells = set u0.cells r (record (view_at u0.cells r) { spare = n }) }) where
  abbrev explicit : CoreView
  explicit = record u0 { cells = set u0.cells r (record (view_at u0.cells r) { spare = n }) }

  pub reserved_state : state_of u1 ≡ state_of u0
  reserved_state = ap state_of reserved ∙ spare_state u0 r n within

  pub reserved_later : Later u0 u1
  reserved_later = let P : CoreView → Type 0 = λ q. Later u0 q in subst P (sym reserved) (changed_later u0 r (record (view_at u0.cells r) { spare = n }) within refl)

  pub reserved_view : view_at u1.cells r ≡ record (view_at u0.cells r) { spare = n }
  reserved_view = ap (λ (q : CoreView). view_at q.cells r) reserved ∙ changed_view u0 r (record (view_at u0.cells r) { spare = n }) within refl

  pub reserved_len : len_of (view_at u1.cells r).metadata.region ≡ len_of (view_at u0.cells r).metadata.region
  reserved_len = ap (λ (c : CellView). len_of c.metadata.region) reserved_view

  pub reserved_room : 0 < n → 0 < (view_at u1.cells r).spare
  reserved_room h = let P : CellView → Type 0 = λ c. 0 < c.spare in subst P (sym reserved_view) h

  pub reserved_policy : u1.policy ≡ u0.policy
  reserved_policy = ap (λ (q : CoreView). q.policy) reserved

  pub reserved_holds : u1.holds ≡ u0.holds
  reserved_holds = ap (λ (q : CoreView). q.holds) reserved

  pub reserved_config : u1.config ≡ u0.config
  reserved_config = ap (λ (q : CoreView). q.config) reserved

  pub reserved_work : u1.work ≡ u0.work
  reserved_work = ap (λ (q : CoreView). q.work) reserved

  pub roomed_inside : (u2 : CoreView) (p : PolicyView) → u2 ≡ record u1 { policy = p } → r < length u2.cells
  roomed_inside u2 p e =
      let P : CoreView → Type 0 = λ q. r < length q.cells in
      let l = length-set u0.cells r (record (view_at u0.cells r) { spare = n }) in
      subst P (sym e) (let f = ap (λ (q : CoreView). length q.cells) reserved in omega (arith, f, l, within))

  pub roomed_find : (u2 : CoreView) (tag : ℕ) → u2 ≡ record u1 { policy = room_by u1.holds u1.policy } → find tag u0.policy ≡ None → find tag u2.policy ≡ None
  roomed_find u2 tag e f =
      ap (λ (q : CoreView). find tag q.policy) e
      ∙ ap (λ (l : List (Option Hold)). find tag (room_by l u1.policy)) reserved_holds
      ∙ ap (λ (p : PolicyView). find tag (room_by u0.holds p)) reserved_policy
      ∙ room_find tag u0.holds u0.policy f

  module _ (u2 : CoreView) (a now : ℕ) (want : Want) where
    pub touched_state : u2 ≡ record u1 { policy = touch r now u1.policy } → state_of u2 ≡ record (state_of u0) { policy = touch r now u0.policy }
    touched_state e =
        ap state_of e
        ∙ ap (λ (p : PolicyView). let s : State = record (state_of u1) { policy = touch r now p } in s) reserved_policy
        ∙ ap (λ (q : State). let s : State = record q { policy = touch r now u0.policy } in s) reserved_state

    pub mapped_entry : u2 ≡ record u1 { policy = touch r now u1.policy } → len_of (view_at u0.cells r).metadata.region ≡ want.len
        → machine.hold a r want (state_of u2) ≡ machine.enter_at (Some r) a want now (state_of u0)
    mapped_entry e l =
        let c : len_of (cell_at (state_of u0) r).region ≡ want.len = ap (λ (q : Cell). len_of q.region) (cell_is u0 r within) ∙ l in
        let t : (len_of (cell_at (state_of u0) r).region == want.len) ≡ true = eq-eqb (len_of (cell_at (state_of u0) r).region) want.len c in
        ap (λ (s : State). machine.hold a r want s) (touched_state e) ∙ sym (rw t refl)

    pub roomed_state : u2 ≡ record u1 { policy = room_by u1.holds u1.policy } → state_of u2 ≡ record (state_of u0) { policy = make_room (state_of u0) }
    roomed_state e =
        ap state_of e
        ∙ ap (λ (p : PolicyView). let s : State = record (state_of u1) { policy = p } in s) (ap (λ (l : List (Option Hold)). room_by l u1.policy) reserved_holds ∙ ap (λ (p : PolicyView). room_by u0.holds p) reserved_policy)
        ∙ ap (λ (q : State). let s : State = record q { policy = room_by u0.holds u0.policy } in s) reserved_state

    pub other_entry : (u3 : CoreView) → u2 ≡ record u1 { policy = room_by u1.holds u1.policy } → r < length u2.cells
        → u3 ≡ record u2 { policy = map_front r (tag_of want.key) now u2.policy; cells = set u2.cells r (with_region (cells.assign (tag_of want.key) want.len (view_at u2.cells r).metadata.region) (view_at u2.cells r)) }
        → head (room_by u0.holds u0.policy).free ≡ Some r
        → machine.hold a r want (state_of u3) ≡ machine.enter_at None a want now (state_of u0)
    other_entry u3 e inside f front =
        let s = state_of u0 in
        let p = make_room s in
        let g = roomed_state e in
        let h : state_of u3 ≡ record (machine.with_region r (cells.assign (tag_of want.key) want.len (cell_at s r).region) s) { policy = map_front r (tag_of want.key) now p } =
        ap state_of f
        ∙ assigned_state u2 r (tag_of want.key) want.len (map_front r (tag_of want.key) now u2.policy) inside
        ∙ ap (λ (q : State). let t : State = record (machine.with_region r (cells.assign (tag_of want.key) want.len (cell_at q r).region) q) { policy = map_front r (tag_of want.key) now q.policy } in t) g in
        ap (λ (q : State). machine.hold a r want q) h ∙ sym (ap (λ (o : Option ℕ). machine.place a o p want now s) front)
