-- A region that the only actor holds: its ticket is not failed, and where its gap is closed all bytes of the hold are present.
use Rattle.std.proofs.Common.{arith, ◌≡◌, ◌<◌, ◌≤◌, ◌+◌, ℕ, Bool, true, false, List, [], ◌∷◌, ◌++◌, sym, subst, ◌∙◌, ap, inl, inr, refl, length, Option, Some, None}
use Rattle.std.specs.Prelude.{◌==◌, slice_get}
use Rattle.std.specs.List.{list_any, list_all}
use Rattle.std.proofs.lemmas.Bool.{cases_Bool, cases_lt, false≢true}
use Rattle.std.proofs.lemmas.List.{get_or-set_same, length-set}
use Rattle.region_ranges.specs.declared.ranges.ByteRange.{ByteRange}
use Rattle.region_ranges.specs.Keys.{tag_of}
use Rattle.sparse_tracker.specs.declared.tickets.Ticket.{Ticket}
use Rattle.sparse_tracker.specs.ByteStates.{pending, is_absent, is_present, byte_states_in, least_unused, numbers, ids, new_ticket, open_gap_at}
use Rattle.freq_lists.specs.Lists.{head}
use Rattle.cache_policy.specs.Policy.{PolicyView, find}
use Rattle.cache_policy.specs.Ageing.{touch, map_front}
use Rattle.region_cell.specs.Cells as cells
use Rattle.region_cell.specs.Cells.{claim_run, len_of}
use Rattle.region_cell.specs.declared.taken.Taken.TheVariants as taken
use Rattle.cache_door.specs.declared.answers.Want.{Want}
use Rattle.cache_door.specs.declared.answers.Entered.TheVariants.{Held}
use Rattle.cache_door.specs.declared.hold.Hold.{Hold}
use Rattle.cache_door.specs.Machine as machine
use Rattle.cache_door.specs.Machine.{State, Cell, cell_at, hold_at, no_cell, is_gone, gap_on, hold_on, enter, enter_at, place, make_room, take_bytes, store, store_into, leave}
use Rattle.cache_door.specs.Good.{Good}
use Rattle.cache_door.specs.Doors.{hold_view}
use Rattle.cache_reader.specs.Holds.{Unfailed}
use Rattle.cache_reader.proofs.Rooms.{found_inside, front_inside, held_same}
use Rattle.cache_door.proofs.Alone.{no_gaps, cut_get, all_there, none_pending}
use Rattle.cache_door.proofs.OneOwner.{held_inside, some_none}
use Rattle.cache_door.proofs.Places.{past}
use Rattle.cache_door.proofs.ClaimsAbsent.{room_held, gone_held}
use Rattle.cache_door.proofs.Calls.{tickets_open}

-- ---- lists

get_last : {X : Type 0} (xs : List X) (x : X) → slice_get (xs ++ x ∷ []) (length xs) ≡ Some x
get_last [] x = refl
get_last (y ∷ ys) x = get_last ys x

-- ---- the only actor

unfailed_copied : {tells : Bool} {files : ℕ → ℕ → List ℕ} (s : State) (a : ℕ) → Good tells files s → length s.holds ≡ 1 → (u : Unfailed a s) → u.hold.gap.end ≤ u.hold.gap.upto
    → take_bytes (Some u.hold) s ≡ taken.Copied
unfailed_copied s a good one u closed =
    let h = u.hold in
    let inside = (good.holds a h u.held).region in
    let cell = good.cells h.region inside in
    let t = (cell_at s h.region).region.tracker in
    let n = no_gaps s a h.region h good one u.held closed inside in
    let ls = byte_states_in h.sub.start h.sub.end t.byte_states in
    let none : list_any is_absent ls ≡ false = elim (cases_Bool (list_any is_absent ls)) [
      | inl t ↦ absurd (false≢true (sym u.unfailed ∙ cell.ranged.marked u.place u.ticket u.there (rw (u.start, u.end) t)))
      | inr f ↦ f
    ] in
    let all : list_all is_present ls ≡ true = all_there ls none (λ i g e. let c = cut_get h.sub.start h.sub.end i t.byte_states (pending g) e in none_pending t cell.tracker.gaps n c.0 g c.1) in
    rw all refl

pub alone_copied : {tells : Bool} {files : ℕ → ℕ → List ℕ} (s : State) (a : ℕ) → Good tells files s → length s.holds ≡ 1 → Unfailed a s
    → (hold_view (hold_at s a)).gap_end ≤ (hold_view (hold_at s a)).upto → take_bytes (hold_at s a) s ≡ taken.Copied
alone_copied s a good one u closed =
    let P : Option Hold → Type 0 = λ o. take_bytes o s ≡ taken.Copied in
    let Q : Option Hold → Type 0 = λ o. (hold_view o).gap_end ≤ (hold_view o).upto in
    subst P (sym u.held) (unfailed_copied s a good one u (subst Q u.held closed))

-- a piece is stored
pub store_unfailed : (s : State) (a : ℕ) (piece : List ℕ) → Unfailed a s → Unfailed a (store a (hold_at s a) piece s)
store_unfailed s a piece u =
    let h = u.hold in
    let to = h.gap.upto + length piece in
    let k : Hold = record h { gap = record h.gap { upto = to } } in
    let inside : h.region < length s.cells = elim (cases_lt h.region (length s.cells)) [
      | inl l ↦ l
      | inr g ↦ (let P : Cell → Type 0 = λ x. slice_get x.region.tracker.tickets u.place ≡ Some u.ticket in absurd (some_none (subst P (past s.cells h.region no_cell g) u.there)))
    ] in
    let here = get_or-set_same s.cells h.region _ no_cell inside in
    let P : Cell → Type 0 = λ x. slice_get x.region.tracker.tickets u.place ≡ Some u.ticket in
    let next : Unfailed a (store_into a h piece s) = record {
      hold = k;
      held = get_or-set_same s.holds a (Some k) None (held_inside s a h u.held);
      place = u.place;
      ticket = u.ticket;
      there = subst P (sym here) u.there;
      number = u.number;
      start = u.start;
      end = u.end;
      unfailed = u.unfailed;
    } in
    let Q : Option Hold → Type 0 = λ o. Unfailed a (store a o piece s) in
    subst Q (sym u.held) next

-- ---- the number of actors, and a hold that is given back

pub store_actors : (s : State) (a : ℕ) (o : Option Hold) (piece : List ℕ) → length (store a o piece s).holds ≡ length s.holds
store_actors s a None piece = refl
store_actors s a (Some h) piece = length-set s.holds a _

pub leave_actors : (s : State) (a : ℕ) (o : Option Hold) → length (leave a o s).holds ≡ length s.holds
leave_actors s a None = refl
leave_actors s a (Some h) = length-set s.holds a None

place_actors : (s : State) (a now : ℕ) (want : Want) (o : Option ℕ) (p : PolicyView) → length (place a o p want now s).1.holds ≡ length s.holds
place_actors s a now want None p = refl
place_actors s a now want (Some r) p = length-set s.holds a _

enter_at_actors : (s : State) (a now : ℕ) (want : Want) (o : Option ℕ) → length (enter_at o a want now s).1.holds ≡ length s.holds
enter_at_actors s a now want None = place_actors s a now want (head (make_room s).free) (make_room s)
enter_at_actors s a now want (Some r) = elim (cases_Bool (len_of (cell_at s r).region == want.len)) [
  | inl t ↦ rw t (length-set s.holds a _)
  | inr f ↦ rw f refl
]

pub enter_actors : (s : State) (a mount now : ℕ) (want : Want) → length (enter a mount want now s).1.holds ≡ length s.holds
enter_actors s a mount now want = elim (cases_Bool (is_gone s mount)) [
  | inl t ↦ rw t refl
  | inr f ↦ rw f (enter_at_actors s a now want (find (tag_of want.key) s.policy))
]

left_none : (s : State) (a : ℕ) (o : Option Hold) → hold_at s a ≡ o → hold_at (leave a o s) a ≡ None
left_none s a None e = e
left_none s a (Some h) e = get_or-set_same s.holds a None None (held_inside s a h e)

pub leave_alone : (s : State) (a : ℕ) → hold_at (leave a (hold_at s a) s) a ≡ None
leave_alone s a = left_none s a (hold_at s a) refl

-- ---- an entry that is answered by a hold

-- the hold is on the region, wants what was wanted, and has the answer's gap
pub record Begun (a r : ℕ) (want : Want) (gap : Option ByteRange) (s : State) : Type 0 where
  pub unfailed : Unfailed a s
  pub region : unfailed.hold.region ≡ r
  pub tag : unfailed.hold.tag ≡ tag_of want.key
  pub sub : unfailed.hold.sub ≡ want.sub
  pub id : ℕ
  pub gap_is : unfailed.hold.gap ≡ gap_on id gap

pub held_begun : (s : State) (a r : ℕ) (want : Want) → a < length s.holds → r < length s.cells
    → Begun a r want (claim_run s.config.range want.sub (cell_at s r).region) (machine.hold a r want s).1
held_begun s a r want actor inside =
    let c = (cell_at s r).region in
    let run = claim_run s.config.range want.sub c in
    let t = open_gap_at run c.tracker in
    let here = get_or-set_same s.cells r _ no_cell inside in
    let P : Cell → Type 0 = λ x. slice_get x.region.tracker.tickets (length t.tickets) ≡ Some (new_ticket want.sub t) in
    record {
      unfailed = record {
        hold = hold_on s.config.range r want c;
        held = get_or-set_same s.holds a (Some (hold_on s.config.range r want c)) None actor;
        place = length t.tickets;
        ticket = new_ticket want.sub t;
        there = subst P (sym here) (get_last t.tickets (new_ticket want.sub t));
        number = ap (λ (l : List Ticket). least_unused (numbers l)) (tickets_open run c.tracker);
        start = refl;
        end = refl;
        unfailed = refl;
      };
      region = refl;
      tag = refl;
      sub = refl;
      id = least_unused (ids c.tracker.gaps);
      gap_is = refl;
    }

module _ {tells : Bool} {files : ℕ → ℕ → List ℕ} (s : State) (good : Good tells files s) (a : ℕ) (actor : a < length s.holds) (want : Want) (now r : ℕ) (gap : Option ByteRange) where
  -- of this region and gap
  answered : (t : State) (q : ℕ) (o : Option ByteRange) → Held q o ≡ Held r gap → Begun a q want o t → Begun a r want gap t
  answered t q o e b =
      let k = held_same q r o gap e in
      let P : ℕ → Type 0 = λ n. Begun a n want o t in
      let Q : Option ByteRange → Type 0 = λ g. Begun a r want g t in
      subst Q k.1 (subst P k.0 b)

  place_begun : (o : Option ℕ) → head (make_room s).free ≡ o → (place a o (make_room s) want now s).0 ≡ Held r gap → Begun a r want gap (place a o (make_room s) want now s).1
  place_begun None front e = absurd (room_held e)
  place_begun (Some q) front e =
      let p = make_room s in
      let u : State = record (machine.with_region q (cells.assign (tag_of want.key) want.len (cell_at s q).region) s) { policy = map_front q (tag_of want.key) now p } in
      let l = length-set s.cells q (record { region = cells.assign (tag_of want.key) want.len (cell_at s q).region; bytes = (cell_at s q).bytes }) in
      let inside = front_inside s good q front in
      answered (machine.hold a q want u).1 q (claim_run u.config.range want.sub (cell_at u q).region) e (held_begun u a q want actor (omega (arith, l, inside)))

  found_begun : (o : Option ℕ) → find (tag_of want.key) s.policy ≡ o → (enter_at o a want now s).0 ≡ Held r gap → Begun a r want gap (enter_at o a want now s).1
  found_begun None found e = place_begun (head (make_room s).free) refl e
  found_begun (Some q) found e = elim (cases_Bool (len_of (cell_at s q).region == want.len)) [
    | inl t ↦
        let u : State = record s { policy = touch q now s.policy } in
        let f : (machine.hold a q want u).0 ≡ Held r gap = rw t at e in
        rw t (answered (machine.hold a q want u).1 q (claim_run u.config.range want.sub (cell_at u q).region) f (held_begun u a q want actor (found_inside s good (tag_of want.key) q found)))
    | inr n ↦ absurd (room_held (rw n at e))
  ]

  pub entered_begun : (mount : ℕ) → (enter a mount want now s).0 ≡ Held r gap → Begun a r want gap (enter a mount want now s).1
  entered_begun mount e = elim (cases_Bool (is_gone s mount)) [
    | inl t ↦ absurd (gone_held (rw t at e))
    | inr f ↦ rw f (found_begun (find (tag_of want.key) s.policy) refl (rw f at e))
  ]

  pub entered_unfailed : (mount : ℕ) → (enter a mount want now s).0 ≡ Held r gap → Unfailed a (enter a mount want now s).1
  entered_unfailed mount e = (entered_begun mount e).unfailed
