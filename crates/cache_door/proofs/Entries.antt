-- The steps of an entry on a core: an access, room, an assignment, and the hold.
use Rattle.std.proofs.Common.{arith, ◌≡◌, ◌≢◌, ◌<◌, ◌≤◌, ◌+◌, ◌-◌, ◌*◌, ◌/◌, ℕ, zero, suc, Bool, false, List, [], ◌∷◌, sym, subst, ◌∙◌, ap, inl, inr, refl, length, set, get_or, Option, Some, None}
use Rattle.std.specs.Prelude.{Result, Ok, Err, OnOk, OnErr, ◌==◌, IfSome, slice_get, option_and_then, if◌then◌else◌}
use Rattle.std.proofs.lemmas.Bool.{cases_eq, cases_Bool, false≢true, eq-eqb, ne_eqb}
use Rattle.std.proofs.lemmas.List.{length-map}
use Rattle.region_ranges.specs.Keys.{free_tag, tag_of}
use Rattle.sparse_tracker.specs.Weights.{TicketWeights, GapWeights}
use Rattle.freq_lists.specs.Lists.{head}
use Rattle.cache_policy.specs.Policy.{PolicyView, tag_at, unmap}
use Rattle.cache_policy.specs.Ageing.{touch, map_front, candidates}
use Rattle.cache_policy.specs.Kept as policy
use Rattle.region_cell.specs.Cells as cells
use Rattle.region_cell.specs.Cells.{CellView, FrameStays, Region, with_region, new_cell, claim_run, len_of}
use Rattle.region_ranges.specs.declared.ranges.ByteRange.{ByteRange}
use Rattle.cache_door.specs.declared.answers.Want.{Want}
use Rattle.cache_door.specs.declared.answers.Entered.TheVariants.{Held}
use Rattle.cache_door.specs.declared.hold.Hold.{Hold}
use Rattle.cache_door.specs.declared.work.Work.{Work}
use Rattle.cache_door.specs.Machine as machine
use Rattle.cache_door.specs.Machine.{State, Cell, cell_at, hold_at, with_hold, with_cell, settled_by, evicted, evicted_by, room_by, is_held, is_held_by, unheld_by, hold_on}
use Rattle.cache_door.specs.Good.{Good, GoodCell}
use Rattle.cache_door.specs.Doors.{HoldView, hold_view, nothing, IsEntry, IsWant}
use Rattle.cache_door.specs.Cores.{CoreView, view_at, all_tell, cell_of, state_of, no_frame, IsKept, Later}
use Rattle.cache_door.proofs.Policies.{touch_changes, settled_changes, unmap_changes}
use Rattle.cache_door.proofs.Mapping.{Maps, maps_keeps, free_unheld, no_tickets, no_gaps, head_in}
use Rattle.cache_door.proofs.Fronts.{unheld_first, mapped_there, free_there, front_there}
use Rattle.cache_door.proofs.Calls.{hold_changes, mapped_busy}
use Rattle.cache_door.proofs.Frames.{cell_is, state_set, set_same}
use Rattle.cache_door.proofs.Kept.{policy_kept, cell_kept, new_good, set_sized}
use Rattle.cache_door.proofs.Held.{frame_same, read_is, left_later, left_state}

pub work_kept : {tells : Bool} {files : ℕ → ℕ → List ℕ} (v : CoreView) (w : Work) → IsKept tells files v → IsKept tells files (record v { work = w })
work_kept v w kept = record { good = kept.good; sized = kept.sized }

pub none_held : (o : Option Hold) → hold_view o ≡ nothing → o ≡ None
none_held None e = refl
none_held (Some h) e = absurd (false≢true (sym (ap (λ (t : HoldView). t.held) e)))

-- ---- an access

pub touch_kept : {tells : Bool} {files : ℕ → ℕ → List ℕ} (v : CoreView) (r now : ℕ) (p : PolicyView) (w : Work) → p ≡ touch r now v.policy → policy.IsGood p → IsKept tells files v → IsKept tells files (record v { policy = p; work = w })
touch_kept {tells} {files} v r now p w e good kept =
    let P : PolicyView → Type 0 = λ q. IsKept tells files (record v { policy = q; work = w }) in
    let Q : PolicyView → Type 0 = λ q. policy.IsGood q in
    subst P (sym e) (policy_kept v (touch r now v.policy) w kept (touch_changes (state_of v) r now kept.good (subst Q e good)))

-- ---- room

at : List (Option ℕ) → ℕ → Option ℕ
at ts j = option_and_then (λ (t : Option ℕ). t) (slice_get ts j)

suc_is : (j r : ℕ) → (suc j == suc r) ≡ (j == r)
suc_is j r = elim (cases_eq j r) [
  | inl e ↦ eq-eqb (suc j) (suc r) (ap (λ n. suc n) e) ∙ sym (eq-eqb j r e)
  | inr n ↦ ne_eqb (suc j) (suc r) (λ e. n (omega (arith, e))) ∙ sym (ne_eqb j r n)
]

gone_at : (ts : List (Option ℕ)) (r j : ℕ) → at (set ts r None) j ≡ (if j == r then None else at ts j)
unfolding at
gone_at [] r j = elim (cases_Bool (j == r)) [ inl t ↦ rw t refl | inr f ↦ rw f refl ]
gone_at (t ∷ ts) zero zero = refl
gone_at (t ∷ ts) zero (suc j) = rw (ne_eqb (suc j) zero (λ e. omega (arith, e))) refl
gone_at (t ∷ ts) (suc r) zero = rw (ne_eqb zero (suc r) (λ e. omega (arith, e))) refl
gone_at (t ∷ ts) (suc r) (suc j) = rw (suc_is j r) (gone_at ts r j)

unmap_tags : (p : PolicyView) (r j : ℕ) → tag_at (unmap r p) j ≡ (if j == r then None else tag_at p j)
unfolding at
unmap_tags p r j = gone_at p.tags r j

evicted_kept : {tells : Bool} {files : ℕ → ℕ → List ℕ} (v : CoreView) (o : Option ℕ) → ((r : ℕ) → o ≡ Some r → is_held_by v.holds r ≡ false) → policy.IsGood (evicted o v.policy) → IsKept tells files v
    → IsKept tells files (record v { policy = evicted o v.policy })
evicted_kept v None off good kept = kept
evicted_kept v (Some r) off good kept = policy_kept v (unmap r v.policy) v.work kept (unmap_changes (state_of v) r kept.good (off r refl) good (unmap_tags v.policy r))

evicts_kept : {tells : Bool} {files : ℕ → ℕ → List ℕ} (v : CoreView) → policy.IsGood (evicted_by v.holds v.policy) → IsKept tells files v → IsKept tells files (record v { policy = evicted_by v.holds v.policy })
evicts_kept {tells} {files} v good kept = elim (cases_Bool (0 == length v.policy.free)) [
  | inl t ↦ rw t (evicted_kept v (head (unheld_by v.holds (candidates v.policy))) (unheld_first v.holds (candidates v.policy)) (rw t at good) kept)
  | inr f ↦ rw f kept
]

pub room_kept : {tells : Bool} {files : ℕ → ℕ → List ℕ} (v : CoreView) (p : PolicyView) → p ≡ room_by v.holds v.policy → policy.IsGood (settled_by v.holds v.policy) → policy.IsGood p → IsKept tells files v → IsKept tells files (record v { policy = p })
room_kept {tells} {files} v p e settled_good good kept =
    let u : CoreView = record v { policy = settled_by v.holds v.policy } in
    let P : PolicyView → Type 0 = λ q. IsKept tells files (record v { policy = q }) in
    let Q : PolicyView → Type 0 = λ q. policy.IsGood q in
    subst P (sym e) (evicts_kept u (subst Q e good) (policy_kept v (settled_by v.holds v.policy) v.work kept (settled_changes (state_of v) kept.good settled_good)))

-- ---- room for a claim in a cell

module _ {tells : Bool} {files : ℕ → ℕ → List ℕ} (v : CoreView) (r : ℕ) (x y : CellView) (kept : IsKept tells files v) (within : r < length v.cells) (read : x ≡ get_or v.cells r x) where
  pub x_at : view_at v.cells r ≡ x
  x_at = read_is v.cells r x (new_cell no_frame 0) read within

  pub cell_x : cell_at (state_of v) r ≡ cell_of (all_tell v.cells) x
  cell_x = cell_is v r within ∙ ap (λ (c : CellView). cell_of (all_tell v.cells) c) x_at

  -- a call that changes the cell's region alone
  module _ (new : Region) (called : y ≡ record (with_region new x) { spare = y.spare }) where
    abbrev pub x_frame : FrameStays (view_at v.cells r).metadata.frame y.metadata.frame
    x_frame = frame_same (view_at v.cells r).metadata.frame y.metadata.frame (ap (λ (c : CellView). c.metadata.frame) called ∙ sym (ap (λ (c : CellView). c.metadata.frame) x_at))

    pub x_range : y.metadata.range ≡ (view_at v.cells r).metadata.range
    x_range = ap (λ (c : CellView). c.metadata.range) called ∙ sym (ap (λ (c : CellView). c.metadata.range) x_at)

    pub x_good : cells.IsGood tells files y → GoodCell tells (all_tell v.cells) files v.config (cell_of (all_tell v.cells) y)
    x_good good = new_good v r y kept within x_frame x_range good

    pub x_cell : cell_of (all_tell v.cells) y ≡ record { region = new; bytes = (cell_at (state_of v) r).bytes }
    x_cell =
        ap (λ (c : CellView). cell_of (all_tell v.cells) c) called
        ∙ ap (λ (l : List ℕ). let c : Cell = record { region = new; bytes = l } in c) (sym (ap (λ (c : Cell). c.bytes) cell_x))

    pub x_state : state_of (record v { cells = set v.cells r y }) ≡ machine.with_region r new (state_of v)
    x_state = state_set v r y within x_frame ∙ ap (λ (c : Cell). with_cell r c (state_of v)) x_cell

-- ---- room for a claim

-- after a reserve only the room differs
pub spare_only : {E : Type 0} (q : Result (Unit {0}) E) (x y : CellView) (n : ℕ) → OnOk q (y ≡ record x { spare = n }) → OnErr q (y ≡ x) → y ≡ record x { spare = y.spare }
spare_only (Ok u) x y n ok err = let a = ok in a ∙ ap (λ (m : ℕ). let c : CellView = record x { spare = m } in c) (sym (ap (λ (c : CellView). c.spare) a))
spare_only (Err e) x y n ok err = let b = err in b ∙ ap (λ (m : ℕ). let c : CellView = record x { spare = m } in c) (sym (ap (λ (c : CellView). c.spare) b))

pub spare_kept : {tells : Bool} {files : ℕ → ℕ → List ℕ} (v : CoreView) (r : ℕ) (x y : CellView) → IsKept tells files v → r < length v.cells → x ≡ get_or v.cells r x → y ≡ record x { spare = y.spare } → IsKept tells files (record v { cells = set v.cells r y })
spare_kept {tells} {files} v r x y kept within read e =
    let new = x.metadata.region in
    let frame = x_frame v r x y kept within read new e in
    let c : machine.with_region r new (state_of v) ≡ state_of v =
    ap (λ (q : Region). machine.with_region r q (state_of v)) (sym (ap (λ (q : Cell). q.region) (cell_x v r x y kept within read)))
    ∙ ap (λ (l : List Cell). let s : State = record (state_of v) { cells = l } in s) (set_same (state_of v).cells r machine.no_cell (let l = length-map v.cells (cell_of (all_tell v.cells)) in omega (arith, l, within))) in
    record {
      good = let P : State → Type 0 = λ s. Good tells files s in subst P (sym (x_state v r x y kept within read new e ∙ c)) kept.good;
      sized = set_sized v r y kept within frame (x_range v r x y kept within read new e);
    }

-- ---- the front free region is assigned

module _ {tells : Bool} {files : ℕ → ℕ → List ℕ} (v : CoreView) (r : ℕ) (x : CellView) (kept : IsKept tells files v) (within : r < length v.cells) (read : x ≡ get_or v.cells r x)
    (front : head v.policy.free ≡ Some r) where
  abbrev s : State
  s = state_of v

  within_s : r < length s.cells
  within_s = let l = length-map v.cells (cell_of (all_tell v.cells)) in omega (arith, l, within)

  off : is_held s r ≡ false
  off = free_unheld s r kept.good (head_in r v.policy.free front)

  region_x : (cell_at s r).region ≡ x.metadata.region
  region_x = ap (λ (q : Cell). q.region) (cell_x v r x x kept within read)

  pub assign_gaps : x.metadata.region.tracker.gaps ≡ []
  assign_gaps = sym (ap (λ (q : Region). q.tracker.gaps) region_x) ∙ no_gaps s r kept.good within_s off

  pub assign_tickets : x.metadata.region.tracker.tickets ≡ []
  assign_tickets = sym (ap (λ (q : Region). q.tracker.tickets) region_x) ∙ no_tickets s r kept.good within_s off

  pub assign_size : x.metadata.frame.size ≡ v.config.region
  assign_size = let P : CellView → Type 0 = λ q. q.metadata.frame.size ≡ v.config.region in subst P (read_is v.cells r x (new_cell no_frame 0) read within) (kept.sized r within).1

  pub assign_kept : (y : CellView) (p : PolicyView) (tag now len : ℕ) → tag ≢ free_tag → p ≡ map_front r tag now v.policy → policy.IsGood p → ((j : ℕ) → tag_at p j ≡ (if j == r then Some tag else tag_at v.policy j))
      → y ≡ with_region (cells.assign tag len x.metadata.region) x → cells.IsGood tells files y → IsKept tells files (record v { policy = p; cells = set v.cells r y })
  assign_kept y p tag now len key e good tags assigned cell =
      let new = cells.assign tag len x.metadata.region in
      let called : y ≡ record (with_region new x) { spare = y.spare } = assigned ∙ ap (λ (m : ℕ). let c : CellView = record (with_region new x) { spare = m } in c) (sym (ap (λ (c : CellView). c.spare) assigned)) in
      let frame = x_frame v r x y kept within read new called in
      let P : PolicyView → Type 0 = λ q. policy.IsGood q × ((j : ℕ) → tag_at q j ≡ (if j == r then Some tag else tag_at v.policy j)) in
      let g = subst P e (good, tags) in
      let m : Maps tells files s r tag now len (cell_of (all_tell v.cells) y) = record {
        region = within_s;
        front = front;
        key = key;
        policy = g.0;
        tags = g.1;
        assigned = ap (λ (c : CellView). c.metadata.region) assigned ∙ sym (ap (λ (q : Region). cells.assign tag len q) region_x);
        cell = x_good v r x y kept within read new called cell;
      } in
      let Q : PolicyView → Type 0 = λ q. IsKept tells files (record v { policy = q; cells = set v.cells r y }) in
      let R : State → Type 0 = λ t. Good tells files (record t { policy = map_front r tag now v.policy }) in
      subst Q (sym e) (record {
        good = subst R (sym (state_set v r y within frame)) (maps_keeps s r tag now len (cell_of (all_tell v.cells) y) kept.good m);
        sized = set_sized v r y kept within frame (x_range v r x y kept within read new called);
      })

-- ---- the hold

module _ {tells : Bool} {files : ℕ → ℕ → List ℕ} (v u : CoreView) (is : v ≡ u) (kept : IsKept tells files v) (a r : ℕ) (want : Want) (x : CellView) (within : r < length v.cells) (read : x ≡ get_or v.cells r x)
    (actor_u : a < length u.holds) (none_u : hold_at (state_of u) a ≡ None) (mapped_u : tag_at u.policy r ≡ Some (tag_of want.key)) where
  abbrev t : State
  t = state_of v

  actor : a < length v.holds
  actor = let P : CoreView → Type 0 = λ q. a < length q.holds in subst P (sym is) actor_u

  none : hold_at t a ≡ None
  none = let P : CoreView → Type 0 = λ q. hold_at (state_of q) a ≡ None in subst P (sym is) none_u

  mapped : tag_at v.policy r ≡ Some (tag_of want.key)
  mapped = let P : CoreView → Type 0 = λ q. tag_at q.policy r ≡ Some (tag_of want.key) in subst P (sym is) mapped_u

  region_t : x.metadata.region ≡ (cell_at t r).region
  region_t = sym (ap (λ (q : Cell). q.region) (cell_x v r x x kept within read))

  pub range_t : x.metadata.range ≡ v.config.range
  range_t = let P : CellView → Type 0 = λ q. q.metadata.range ≡ v.config.range in subst P (read_is v.cells r x (new_cell no_frame 0) read within) (kept.sized r within).0

  record Facts (y : CellView) (h : Hold) (g : Option ByteRange) (n : ℕ) (R : Region) : Type 0 where
    cell : y.metadata.region ≡ cells.claim n want.sub R
    hold : h ≡ hold_on n r want R
    gap : g ≡ claim_run n want.sub R

  facts : (y : CellView) (h : Hold) (g : Option ByteRange) → Facts y h g x.metadata.range x.metadata.region → Facts y h g t.config.range (cell_at t r).region
  facts y h g f =
      let P : ℕ → Type 0 = λ n. Facts y h g n x.metadata.region in
      let Q : Region → Type 0 = λ q. Facts y h g v.config.range q in
      subst Q region_t (subst P range_t f)

  some_run : (g o : Option ByteRange) → g ≡ o → IfSome g (λ q. q.start < q.end) → IfSome o (λ q. q.start < q.end)
  some_run g o e h = let P : Option ByteRange → Type 0 = λ q. IfSome q (λ z. z.start < z.end) in subst P e h

  pub hold_all : (y : CellView) (h : Hold) (g : Option ByteRange) → y ≡ record (with_region (cells.claim x.metadata.range want.sub x.metadata.region) x) { spare = x.spare - 1 } → cells.IsGood tells files y
      → h ≡ hold_on x.metadata.range r want x.metadata.region → g ≡ claim_run x.metadata.range want.sub x.metadata.region → IfSome g (λ q. q.start < q.end) → TicketWeights → GapWeights
      → let new : CoreView = record v { cells = set v.cells r y; holds = set v.holds a (Some h) } in
      IsKept tells files new × (state_of new ≡ (machine.hold a r want (state_of u)).1) × Later u new × (Held r g ≡ (machine.hold a r want (state_of u)).0)
  hold_all y h g called good hold gap some tickets gaps =
      let n = cells.claim x.metadata.range want.sub x.metadata.region in
      let called2 : y ≡ record (with_region n x) { spare = y.spare } = called ∙ ap (λ (m : ℕ). let c : CellView = record (with_region n x) { spare = m } in c) (sym (ap (λ (c : CellView). c.spare) called)) in
      let frame = x_frame v r x y kept within read n called2 in
      let range = x_range v r x y kept within read n called2 in
      let f = facts y h g (record { cell = ap (λ (c : CellView). c.metadata.region) called; hold = hold; gap = gap }) in
      let m = kept.good.mapped r (tag_of want.key) mapped in
      let l = length-map v.cells (cell_of (all_tell v.cells)) in
      let change = hold_changes tickets gaps t a r want (cell_of (all_tell v.cells) y) actor (omega (arith, l, within)) none m.0 m.1 (mapped_busy v.policy r (tag_of want.key) kept.good.policy mapped)
      (some_run g (claim_run t.config.range want.sub (cell_at t r).region) f.gap some) f.cell (x_good v r x y kept within read n called2 good) in
      let k = hold_on t.config.range r want (cell_at t r).region in
      let P : Hold → Type 0 = λ j. let new : CoreView = record v { cells = set v.cells r y; holds = set v.holds a (Some j) } in
      IsKept tells files new × (state_of new ≡ (machine.hold a r want (state_of u)).1) × Later u new × (Held r g ≡ (machine.hold a r want (state_of u)).0) in
      let A : CoreView → Type 0 = λ q. with_hold a (Some k) (machine.with_region r (cells.claim t.config.range want.sub (cell_at t r).region) t) ≡ (machine.hold a r want (state_of q)).1 in
      let B : CoreView → Type 0 = λ q. Held r g ≡ (machine.hold a r want (state_of q)).0 in
      let L : CoreView → Type 0 = λ q. Later q (record v { cells = set v.cells r y; holds = set v.holds a (Some k) }) in
      subst P (sym f.hold) (
        cell_kept v r y kept within frame range a (Some k) v.work change,
        left_state v kept a r y within frame (Some k) v.work
            ∙ ap (λ (c : Cell). with_hold a (Some k) (with_cell r c t)) (x_cell v r x y kept within read n called2)
            ∙ ap (λ (q : Region). with_hold a (Some k) (machine.with_region r q t)) (sym (ap (λ (c : CellView). c.metadata.region) called) ∙ f.cell)
            ∙ subst A is refl,
        subst L is (left_later v kept a r y within frame (Some k) v.work),
        subst B is (ap (λ (o : Option ByteRange). Held r o) f.gap),
      )

  pub hold_lies : IsWant u.config want → len_of (view_at u.cells r).metadata.region ≡ want.len → cells.LiesInRange want.sub x.metadata
  hold_lies w l =
      let Q : CoreView → Type 0 = λ q. len_of (view_at q.cells r).metadata.region ≡ want.len in
      let n : len_of x.metadata.region ≡ want.len = sym (ap (λ (c : CellView). len_of c.metadata.region) (read_is v.cells r x (new_cell no_frame 0) read within)) ∙ subst Q (sym is) l in
      let P : CoreView → Type 0 = λ q. IsWant q.config want in
      let k = subst P (sym is) w in
      (k.sub.0, omega (arith, n, k.sub.1), rw range_t k.sub.2)

  pub hold_entry : len_of (view_at u.cells r).metadata.region ≡ want.len → (g : Option ByteRange)
      → IfSome g (λ q. (q.start < q.end) × (want.sub.start / x.metadata.range * x.metadata.range ≤ q.start) × (q.end ≤ want.sub.start / x.metadata.range * x.metadata.range + x.metadata.range) × (q.end ≤ len_of x.metadata.region))
      → IsEntry u.config want (Held r g)
  hold_entry l g f =
      let Q : CoreView → Type 0 = λ q. len_of (view_at q.cells r).metadata.region ≡ want.len in
      let n : len_of x.metadata.region ≡ want.len = sym (ap (λ (c : CellView). len_of c.metadata.region) (read_is v.cells r x (new_cell no_frame 0) read within)) ∙ subst Q (sym is) l in
      let P : CoreView → Type 0 = λ q. IsEntry q.config want (Held r g) in
      let m = length-map v.cells (cell_of (all_tell v.cells)) in
      let R : ℕ → Type 0 = λ k. IfSome g (λ q. (q.start < q.end) × (want.sub.start / k * k ≤ q.start) × (q.end ≤ want.sub.start / k * k + k) × (q.end ≤ want.len)) in
      let S : ℕ → Type 0 = λ k. IfSome g (λ q. (q.start < q.end) × (want.sub.start / x.metadata.range * x.metadata.range ≤ q.start) × (q.end ≤ want.sub.start / x.metadata.range * x.metadata.range + x.metadata.range) × (q.end ≤ k)) in
      subst P is (omega (arith, m, within, kept.good.counts.cells), subst R range_t (subst S n f))

pub first_fact : (g : Option ByteRange) (m n k : ℕ) → IfSome g (λ q. (q.start < q.end) × (m ≤ q.start) × (q.end ≤ n) × (q.end ≤ k)) → IfSome g (λ q. q.start < q.end)
first_fact None m n k h = tt
first_fact (Some q) m n k h = h.0

-- ---- where the regions lie

pub mapped_cells : {tells : Bool} {files : ℕ → ℕ → List ℕ} (v : CoreView) → IsKept tells files v → (r tag : ℕ) → tag_at v.policy r ≡ Some tag → r < length v.cells
mapped_cells v kept r tag e = let l = length-map v.cells (cell_of (all_tell v.cells)) in omega (arith, l, mapped_there (state_of v) kept.good r tag e)

pub front_inside : {tells : Bool} {files : ℕ → ℕ → List ℕ} (v : CoreView) → IsKept tells files v → (r : ℕ) → head v.policy.free ≡ Some r → r < length v.cells
front_inside v kept r e = let l = length-map v.cells (cell_of (all_tell v.cells)) in omega (arith, l, (free_there (state_of v) kept.good r e).0)

pub choose_inside : {tells : Bool} {files : ℕ → ℕ → List ℕ} (v : CoreView) → IsKept tells files v → (o : Option ℕ) → o ≡ head (room_by v.holds v.policy).free → IfSome o (λ r. r < length v.cells)
choose_inside v kept None e = tt
choose_inside v kept (Some r) e = let l = length-map v.cells (cell_of (all_tell v.cells)) in omega (arith, l, (front_there (state_of v) kept.good r (sym e)).0)
