-- Calls that read a cell's frame: the state stays, and the frame's answer is the cell's.
use Rattle.std.proofs.Common.{arith, ◌≡◌, ◌<◌, ◌≤◌, ◌+◌, ◌-◌, ◌/◌, min, ℕ, Bool, true, List, sym, subst, ◌∙◌, ap, inl, inr, refl, length, set, get_or, Option, Some}
use Rattle.std.specs.Prelude.{◌==◌, ◌↔◌, IsTrue, IfSome}
use Rattle.std.specs.List.{list_all, list_any}
use Rattle.std.proofs.lemmas.Bool.{cases_Bool, false≢true, eqb-true}
use Rattle.std.proofs.lemmas.List.Folds.{list_all_at}
use Rattle.std.proofs.lemmas.List.{length-map}
use Rattle.sparse_tracker.specs.declared.status.Status.TheVariants as status_of
use Rattle.sparse_tracker.specs.declared.tickets.Ticket.{Ticket}
use Rattle.sparse_tracker.specs.ByteStates.{Tracker, ticket_of, byte_states_in, is_absent, is_present, status}
use Rattle.sparse_tracker.specs.Weights.{total}
use Rattle.byte_text.specs.Counts.{Rose}
use Rattle.blob_parts.specs.Content.{slice_of}
use Rattle.region_cell.specs.Cells.{CellView, FrameStays, Region, with_frame, new_cell, region_bytes, CopyAnswer, TicketBytes, TicketContent, NeverOpen}
use Rattle.region_cell.proofs.Statuses.{ready_is}
use Rattle.region_cell.specs.declared.taken.Taken.{Taken}
use Rattle.region_cell.specs.declared.taken.Taken.TheVariants as taken
use Rattle.cache_door.specs.declared.hold.Hold.{Hold}
use Rattle.cache_door.specs.declared.work.Work.{Work}
use Rattle.cache_door.specs.Machine as machine
use Rattle.region_ranges.specs.Keys.{tag_of}
use Rattle.cache_door.specs.declared.answers.Want.{Want}
use Rattle.cache_door.specs.declared.answers.Glance.{Glance}
use Rattle.cache_door.specs.declared.answers.Glance.TheVariants as glance
use Rattle.cache_door.specs.Machine.{State, Cell, cell_at, hold_at, with_cell, taken_of, look_at}
use Rattle.cache_door.specs.Good.{Good}
use Rattle.cache_door.specs.Doors.{HoldView, hold_view, IsWant, CopyOrFault}
use Rattle.cache_door.specs.Counters.{counters_same}
use Rattle.cache_door.specs.Cores.{CoreView, view_at, all_tell, all_steady, all_faults, cell_of, state_of, no_frame, IsKept, Later}
use Rattle.cache_door.proofs.Weighs.{total-set, total-at}
use Rattle.cache_door.proofs.Found.{found_ticket}
use Rattle.cache_door.proofs.Frames.{cell_is, state_set, set_same, tell_same, steady_same, faults_later, faults_stand, one_steady}
use Rattle.cache_door.proofs.Kept.{set_sized}
use Rattle.cache_door.proofs.Held.{read_is, held, inside, told_is, cell_here, fits}

-- ---- the state

module _ {tells : Bool} {files : ℕ → ℕ → List ℕ} (v u : CoreView) (is : v ≡ u) (kept : IsKept tells files v) (r : ℕ) (within : r < length v.cells)
    (x y : CellView) (at : x ≡ get_or v.cells r x) (same : y ≡ with_frame y.metadata.frame x) (stays : FrameStays x.metadata.frame y.metadata.frame) where
  x_is : view_at v.cells r ≡ x
  x_is = read_is v.cells r x (new_cell no_frame 0) at within

  abbrev frame : FrameStays (view_at v.cells r).metadata.frame y.metadata.frame
  frame = let P : CellView → Type 0 = λ c. FrameStays c.metadata.frame y.metadata.frame in subst P (sym x_is) stays

  cell_same : cell_of (all_tell v.cells) y ≡ cell_at (state_of v) r
  cell_same = ap (λ (c : CellView). cell_of (all_tell v.cells) c) same ∙ sym (cell_is v r within ∙ ap (λ (c : CellView). cell_of (all_tell v.cells) c) x_is)

  with_same : with_cell r (cell_of (all_tell v.cells) y) (state_of v) ≡ state_of v
  with_same =
      ap (λ (c : Cell). with_cell r c (state_of v)) cell_same
      ∙ ap (λ (l : List Cell). let s : State = record (state_of v) { cells = l } in s) (set_same (state_of v).cells r machine.no_cell (let l = length-map v.cells (cell_of (all_tell v.cells)) in omega (arith, l, within)))

  pub seen_state : (w : Work) → state_of (record v { cells = set v.cells r y; work = w }) ≡ state_of u
  seen_state w = state_set v r y within frame ∙ with_same ∙ ap state_of is

  pub seen_kept : (w : Work) → IsKept tells files (record v { cells = set v.cells r y; work = w })
  seen_kept w = record {
    good = let P : State → Type 0 = λ s. Good tells files s in subst P (sym (state_set v r y within frame ∙ with_same)) kept.good;
    sized = set_sized v r y kept within frame (ap (λ (c : CellView). c.metadata.range) same ∙ sym (ap (λ (c : CellView). c.metadata.range) x_is));
  }

  pub seen_later : (w : Work) → Later u (record v { cells = set v.cells r y; work = w })
  seen_later w = let P : CoreView → Type 0 = λ c. Later c (record v { cells = set v.cells r y; work = w }) in subst P is (record {
    config = refl;
    actors = refl;
    tell = tell_same v r y within frame;
    steady = steady_same v r y within frame;
    faults = faults_later v r y within frame;
    stands = faults_stand v r y within frame;
    counters = counters_same v.policy;
  })

  -- a fault of the one frame is one of all
  pub seen_fault : Rose x.metadata.frame.faults y.metadata.frame.faults → Rose (all_faults u.cells) (all_faults (set v.cells r y))
  seen_fault rose =
      let F : CellView → ℕ = λ c. c.metadata.frame.faults in
      let P : CoreView → Type 0 = λ c. Rose (all_faults c.cells) (all_faults (set v.cells r y)) in
      let t = total-set F v.cells r y (new_cell no_frame 0) within in
      let a = total-at F v.cells r (new_cell no_frame 0) within in
      let e = ap F x_is in
      let h : min (x.metadata.frame.faults + 1) 18446744073709551615 ≤ y.metadata.frame.faults = rose in
      let later = stays.later in
      let k : min (total F v.cells + 1) 18446744073709551615 ≤ total F (set v.cells r y) = omega (arith, t, a, e, h, later) in
      subst P is k

  pub seen_steady : IsTrue (all_steady u.cells) → IsTrue x.metadata.frame.steady
  seen_steady h =
      let P : CoreView → Type 0 = λ c. IsTrue (all_steady c.cells) in
      let Q : CellView → Type 0 = λ c. IsTrue c.metadata.frame.steady in
      subst Q x_is (one_steady v r y within frame (subst P (sym is) h))

-- where all frames tell, this one does
x_tells : (v : CoreView) (x : CellView) (r : ℕ) → r < length v.cells → x ≡ get_or v.cells r x → IsTrue (all_tell v.cells) → IsTrue x.metadata.frame.tells
x_tells v x r within at all = elim (cases_Bool (view_at v.cells r).metadata.frame.tells) [
  | inl t ↦ (let Q : CellView → Type 0 = λ c. IsTrue c.metadata.frame.tells in subst Q (read_is v.cells r x (new_cell no_frame 0) at within) t)
  | inr f ↦ absurd (false≢true (sym (list_all_at (λ (c : CellView). c.metadata.frame.tells) v.cells r (new_cell no_frame 0) within f) ∙ all))
]

-- ---- what a copy answers

ready_only : (result : Taken) → ¬ (result ≡ taken.Waiting) → ¬ (result ≡ taken.Failed) → ¬ (result ≡ taken.FrameFault) → result ≡ taken.Copied
ready_only taken.Copied w f n = refl
ready_only taken.Waiting w f n = absurd (w refl)
ready_only taken.Failed w f n = absurd (f refl)
ready_only taken.FrameFault w f n = absurd (n refl)

taken_is : (t : Tracker) (k : Ticket) (result : Taken) → ((result ≡ taken.Waiting) ↔ (status k t ≡ status_of.Waiting)) → ((result ≡ taken.Failed) ↔ (status k t ≡ status_of.Failed))
    → ¬ (status k t ≡ status_of.Open) → ¬ (result ≡ taken.FrameFault) → result ≡ taken_of (byte_states_in k.start k.end t.byte_states)
taken_is t k result w f settled n = elim (cases_Bool (list_all is_present (byte_states_in k.start k.end t.byte_states))) [
  | inl all ↦
      let ready : status k t ≡ status_of.Ready = rw all refl in
      rw all (ready_only result (λ e. let g = w.0 e in not_waiting (sym ready ∙ g)) (λ e. let g = f.0 e in not_failed (sym ready ∙ g)) n)
  | inr some ↦ elim (cases_Bool (list_any is_absent (byte_states_in k.start k.end t.byte_states))) [
    | inr none ↦ let waits : status k t ≡ status_of.Waiting = rw (some, none) refl in rw (some, none) (w.1 waits)
    | inl any ↦ elim (cases_Bool k.failed) [
      | inl marked ↦ let fails : status k t ≡ status_of.Failed = rw (some, any, marked) refl in rw (some, any) (f.1 fails)
      | inr unmarked ↦ absurd (settled (rw (some, any, unmarked) refl))
    ]
  ]
]
  where
    not_waiting : status_of.Ready ≡ status_of.Waiting → ⊥
    not_waiting e = cc

    not_failed : status_of.Ready ≡ status_of.Failed → ⊥
    not_failed e = cc

module _ {tells : Bool} {files : ℕ → ℕ → List ℕ} (v u : CoreView) (is : v ≡ u) (kept : IsKept tells files v) (a : ℕ) (o : Option Hold) (h : Hold)
    (read : o ≡ get_or v.holds a o) (some : o ≡ Some h) (actor_u : a < length u.holds) (x : CellView) (at : x ≡ get_or v.cells h.region x) where
  abbrev t : Tracker
  t = x.metadata.region.tracker

  here : (cell_at (state_of v) h.region).region ≡ x.metadata.region
  here = ap (λ (c : Cell). c.region) (cell_here v u is kept a o h read some actor_u x at)

  now_held : hold_at (state_of u) a ≡ Some h
  now_held = let P : CoreView → Type 0 = λ c. hold_at (state_of c) a ≡ Some h in subst P is (held v u is kept a o h read some actor_u)

  -- the hold's ticket in the cell
  pub ticket_is : (k : Ticket) × (ticket_of h.ticket t ≡ Some k) × (k.start ≡ h.sub.start) × (k.end ≡ h.sub.end)
  ticket_is =
      let f = found_ticket (state_of v) a h kept.good (held v u is kept a o h read some actor_u) in
      let P : Region → Type 0 = λ c. ticket_of h.ticket c.tracker ≡ Some f.1.0 in
      (f.1.0, subst P here f.1.1, f.1.3, f.1.4)

  pub copy_len : (n : ℕ) → n ≡ (hold_view (hold_at (state_of u) a)).sub.end - (hold_view (hold_at (state_of u) a)).sub.start → IfSome (ticket_of h.ticket t) (λ k. n ≡ k.end - k.start)
  copy_len n e =
      let k = ticket_is in
      let T : HoldView → Type 0 = λ d. n ≡ d.sub.end - d.sub.start in
      let l = subst T (told_is v u is kept a o h read some actor_u) e in
      rw k.1 (rw (k.2, k.3) l)

  pub copy_answer : (result : Taken) → IfSome (ticket_of h.ticket t) (CopyAnswer x result) → NeverOpen t → CopyOrFault taken.Copied taken.FrameFault (machine.take_bytes (hold_at (state_of u) a) (state_of u)) result
  copy_answer result answer settled =
      let k = ticket_is in
      let P : CoreView → Type 0 = λ c. taken_of (byte_states_in k.0.start k.0.end t.byte_states) ≡ machine.take_bytes (Some h) (state_of c) in
      let e : taken_of (byte_states_in k.0.start k.0.end t.byte_states) ≡ machine.take_bytes (hold_at (state_of u) a) (state_of u) =
      rw now_held (subst P is (
      ap (λ (c : Region). taken_of (byte_states_in k.0.start k.0.end c.tracker.byte_states)) (sym here)
      ∙ rw (k.2, k.3) refl)) in
      let r : CopyAnswer x result k.0 = rw k.1 at answer in
      record {
        same = λ n. taken_is t k.0 result r.waiting r.failed (settled h.ticket k.0 k.1) n ∙ e;
        present = λ f. let all : list_all is_present (byte_states_in k.0.start k.0.end t.byte_states) ≡ true = ready_is k.0 t (r.ready.0 (inr f)) in sym e ∙ rw all refl;
      }

  -- the bytes copied are the cell's, and the content's
  pub copy_bytes : (out : List ℕ) → IsTrue (all_tell u.cells) → TicketBytes x h.ticket out
      → out ≡ machine.wanted (hold_at (state_of u) a) (state_of u)
  copy_bytes out told copied =
      let k = ticket_is in
      let all : IsTrue (all_tell v.cells) = (let P : CoreView → Type 0 = λ c. IsTrue (all_tell c.cells) in subst P (sym is) told) in
      let b : (cell_at (state_of v) h.region).bytes ≡ x.bytes = ap (λ (c : Cell). c.bytes) (cell_here v u is kept a o h read some actor_u x at) ∙ rw all refl in
      let c = (rw k.1 at copied) (x_tells v x h.region (inside v u is kept a o h read some actor_u) at all) in
      let P : CoreView → Type 0 = λ c. out ≡ machine.wanted (Some h) (state_of c) in
      rw now_held (subst P is (rw b (rw (k.2, k.3) at c)))

  pub copy_content : (out : List ℕ) → IsTrue tells → IsTrue (all_tell u.cells)
      → TicketContent tells files x h.ticket out
      → out ≡ slice_of (region_bytes files u.config.region (hold_view (hold_at (state_of u) a)).tag) (hold_view (hold_at (state_of u) a)).sub.start ((hold_view (hold_at (state_of u) a)).sub.end - (hold_view (hold_at (state_of u) a)).sub.start)
  copy_content out archive told copied =
      let k = ticket_is in
      let all : IsTrue (all_tell v.cells) = (let P : CoreView → Type 0 = λ c. IsTrue (all_tell c.cells) in subst P (sym is) told) in
      let within = inside v u is kept a o h read some actor_u in
      let c = (rw k.1 at copied) archive (x_tells v x h.region within at all) in
      let e : x.metadata.frame.size ≡ v.config.region = (let P : CellView → Type 0 = λ q. q.metadata.frame.size ≡ v.config.region in subst P (read_is v.cells h.region x (new_cell no_frame 0) at within) (kept.sized h.region within).1) in
      let g : x.metadata.region.tag ≡ h.tag = sym (ap (λ (q : Region). q.tag) here) ∙ (fits v u is kept a o h read some actor_u).tag in
      let T : HoldView → Type 0 = λ d. out ≡ slice_of (region_bytes files u.config.region d.tag) d.sub.start (d.sub.end - d.sub.start) in
      let P : CoreView → Type 0 = λ q. out ≡ slice_of (region_bytes files q.config.region h.tag) h.sub.start (h.sub.end - h.sub.start) in
      subst T (sym (told_is v u is kept a o h read some actor_u)) (subst P is (rw (k.2, k.3, e, g) at c))

-- ---- what a glance answers

pub regions_inside : {tells : Bool} {files : ℕ → ℕ → List ℕ} (v u : CoreView) → v ≡ u → IsKept tells files v → (r : ℕ) → r < u.config.regions → r < length v.cells
regions_inside v u is kept r h =
    let P : CoreView → Type 0 = λ q. r < q.config.regions in
    let g = subst P (sym is) h in
    let l = length-map v.cells (cell_of (all_tell v.cells)) in
    omega (arith, l, g, kept.good.counts.cells)

module _ {tells : Bool} {files : ℕ → ℕ → List ℕ} (v u : CoreView) (is : v ≡ u) (kept : IsKept tells files v) (r : ℕ) (within : r < length v.cells) (x : CellView) (at : x ≡ get_or v.cells r x) (want : Want) where
  cell_x : cell_at (state_of v) r ≡ cell_of (all_tell v.cells) x
  cell_x = cell_is v r within ∙ ap (λ (c : CellView). cell_of (all_tell v.cells) c) (read_is v.cells r x (new_cell no_frame 0) at within)

  pub glance_one : IsWant u.config want → want.sub.start / x.metadata.range ≡ (want.sub.end - 1) / x.metadata.range
  glance_one w =
      let P : CoreView → Type 0 = λ q. IsWant q.config want in
      let Q : CellView → Type 0 = λ q. q.metadata.range ≡ v.config.range in
      let e = subst Q (read_is v.cells r x (new_cell no_frame 0) at within) (kept.sized r within).0 in
      rw e (subst P (sym is) w).sub.2

  pub glance_answer : (result : Glance) → CopyOrFault glance.Copied glance.FrameFault (look_at want x.metadata.region) result → CopyOrFault glance.Copied glance.FrameFault (machine.look r want (state_of u)) result
  glance_answer result e =
      let P : CoreView → Type 0 = λ q. CopyOrFault glance.Copied glance.FrameFault (machine.look r want (state_of q)) result in
      let Q : Cell → Type 0 = λ c. CopyOrFault glance.Copied glance.FrameFault (look_at want c.region) result in
      subst P is (subst Q (sym cell_x) e)

  pub glance_bytes : (out : List ℕ) → IsTrue (all_tell u.cells) → (IsTrue x.metadata.frame.tells → out ≡ slice_of x.bytes want.sub.start (want.sub.end - want.sub.start)) → out ≡ machine.bytes_in r want.sub (state_of u)
  glance_bytes out told copied =
      let all : IsTrue (all_tell v.cells) = (let P : CoreView → Type 0 = λ c. IsTrue (all_tell c.cells) in subst P (sym is) told) in
      let b : (cell_at (state_of v) r).bytes ≡ x.bytes = ap (λ (c : Cell). c.bytes) cell_x ∙ rw all refl in
      let P : CoreView → Type 0 = λ q. out ≡ machine.bytes_in r want.sub (state_of q) in
      subst P is (copied (x_tells v x r within at all) ∙ ap (λ (l : List ℕ). slice_of l want.sub.start (want.sub.end - want.sub.start)) (sym b))

  same_tag : look_at want x.metadata.region ≡ glance.Copied → x.metadata.region.tag ≡ tag_of want.key
  same_tag e = elim (cases_Bool (x.metadata.region.tag == tag_of want.key)) [
    | inl t ↦ eqb-true x.metadata.region.tag (tag_of want.key) t
    | inr f ↦ absurd (moved_copied (rw f at e))
  ]
    where
      moved_copied : {w : ℕ} → glance.Moved w ≡ glance.Copied → ⊥
      moved_copied e = cc

  pub glance_content : (out : List ℕ) (result : Glance) → result ≡ look_at want x.metadata.region → result ≡ glance.Copied → IsTrue (all_tell u.cells)
      → (IsTrue x.metadata.frame.tells → out ≡ slice_of (region_bytes files x.metadata.frame.size x.metadata.region.tag) want.sub.start (want.sub.end - want.sub.start))
      → out ≡ slice_of (region_bytes files u.config.region (tag_of want.key)) want.sub.start (want.sub.end - want.sub.start)
  glance_content out result e g told copied =
      let all : IsTrue (all_tell v.cells) = (let P : CoreView → Type 0 = λ c. IsTrue (all_tell c.cells) in subst P (sym is) told) in
      let Q : CellView → Type 0 = λ q. q.metadata.frame.size ≡ v.config.region in
      let size = subst Q (read_is v.cells r x (new_cell no_frame 0) at within) (kept.sized r within).1 in
      let tag = same_tag (sym e ∙ g) in
      let P : CoreView → Type 0 = λ q. out ≡ slice_of (region_bytes files q.config.region (tag_of want.key)) want.sub.start (want.sub.end - want.sub.start) in
      subst P is (rw (size, tag) at (copied (x_tells v x r within at all)))

pub not_fault : (result : Glance) → result ≡ glance.Copied → result ≡ glance.FrameFault → ⊥
not_fault result e f = cc
