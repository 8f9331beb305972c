-- A present byte stays present while its region keeps its key.
use Rattle.std.proofs.Common.{arith, ◌≡◌, ◌≢◌, ◌+◌, ℕ, List, sym, subst, ◌∙◌, ap, inl, inr, refl, length, set, get_or, Option, Some, None}
use Rattle.std.specs.Prelude.{◌==◌, slice_get}
use Rattle.std.proofs.lemmas.Bool.{cases_eq, cases_Bool, cases_lt}
use Rattle.std.proofs.lemmas.List.{get_or-set_same, get_or-set_other, length-set}
use Rattle.region_ranges.specs.Keys.{tag_of}
use Rattle.sparse_tracker.specs.ByteStates.{present}
use Rattle.sparse_tracker.specs.Places.{PresentStays}
use Rattle.freq_lists.specs.Lists.{head}
use Rattle.cache_policy.specs.Policy.{PolicyView, find, tag_at}
use Rattle.cache_policy.specs.Ageing.{touch, map_front}
use Rattle.cache_policy.proofs.Tags.{at, at_same, at_past, not_found}
use Rattle.region_cell.specs.Cells as cells
use Rattle.region_cell.specs.Cells.{len_of, range_round}
use Rattle.cache_door.specs.declared.answers.Want.{Want}
use Rattle.cache_door.specs.declared.hold.Hold.{Hold}
use Rattle.cache_door.specs.Machine as machine
use Rattle.cache_door.specs.Machine.{State, Cell, Event, Answer, Enter, TakeBytes, Store, Fail, Leave, Look, Decay, Clear, Live, Unmount, outcome, no_cell, cell_at, hold_at, is_gone, enter, enter_at, place, make_room}
use Rattle.cache_door.specs.Laws.{PresentKept}
use Rattle.cache_door.proofs.Places.{past}
use Rattle.cache_door.proofs.OneOwner.{some_none}

abbrev HasPresent : ℕ → Cell → Type 0
HasPresent i c = slice_get c.region.tracker.byte_states i ≡ Some present

-- a cell is replaced by one that has what it has
set_present : (cs : List Cell) (q r i : ℕ) (c : Cell) → (HasPresent i (get_or cs q no_cell) → HasPresent i c) → HasPresent i (get_or cs r no_cell) → HasPresent i (get_or (set cs q c) r no_cell)
set_present cs q r i c h e =
    let P : Cell → Type 0 = λ x. HasPresent i x in
    elim (cases_eq r q) [
      | inl x ↦ elim (cases_lt q (length cs)) [
        | inl l ↦
            let Q : ℕ → Type 0 = λ k. P (get_or (set cs q c) k no_cell) in
            let R : ℕ → Type 0 = λ k. P (get_or cs k no_cell) in
            subst Q (sym x) (subst P (sym (get_or-set_same cs q c no_cell l)) (h (subst R x e)))
        | inr g ↦
            let l = length-set cs q c in
            subst P (sym (past (set cs q c) r no_cell (omega (arith, l, x, g)))) (subst P (past cs r no_cell (omega (arith, x, g))) e)
      ]
      | inr n ↦ subst P (sym (get_or-set_other cs q r c no_cell n)) e
    ]

tag_is : (ts : List (Option ℕ)) (r x tag : ℕ) → at (set ts r (Some x)) r ≡ Some tag → x ≡ tag
tag_is ts r x tag e = elim (cases_lt r (length ts)) [
  | inl l ↦ same_some (sym (at_same ts r (Some x) l) ∙ e)
  | inr g ↦ absurd (some_none (sym (at_past (set ts r (Some x)) r (let l = length-set ts r (Some x) in omega (arith, l, g))) ∙ e))
]
  where
    same_some : {m n : ℕ} → Some m ≡ Some n → m ≡ n
    same_some e = cc

module _ (stays : PresentStays) (a r tag i : ℕ) where
  hold_present : (q : ℕ) (want : Want) (s : State) → HasPresent i (cell_at s r) → HasPresent i (cell_at (machine.hold a q want s).1 r)
  hold_present q want s p =
      let c = (cell_at s q).region in
      set_present s.cells q r i (record { region = cells.claim s.config.range want.sub c; bytes = (cell_at s q).bytes }) (stays.waits (range_round s.config.range want.sub c) want.sub c.tracker i (omega arith)) p

  place_present : (o : Option ℕ) (p : PolicyView) (want : Want) (now : ℕ) (s : State) → tag_of want.key ≢ tag → HasPresent i (cell_at s r) → tag_at (place a o p want now s).1.policy r ≡ Some tag → HasPresent i (cell_at (place a o p want now s).1 r)
  place_present None p want now s d h m = h
  place_present (Some q) p want now s d h m =
      let c : Cell = record { region = cells.assign (tag_of want.key) want.len (cell_at s q).region; bytes = (cell_at s q).bytes } in
      elim (cases_eq r q) [
        | inl x ↦
            let P : ℕ → Type 0 = λ k. at (set p.tags q (Some (tag_of want.key))) k ≡ Some tag in
            absurd (d (tag_is p.tags q (tag_of want.key) tag (subst P x m)))
        | inr n ↦
            let P : Cell → Type 0 = λ x. HasPresent i x in
            let u : State = record (machine.with_region q (cells.assign (tag_of want.key) want.len (cell_at s q).region) s) { policy = map_front q (tag_of want.key) now p } in
            hold_present q want u (subst P (sym (get_or-set_other s.cells q r c no_cell n)) h)
      ]

  found_present : (o : Option ℕ) (want : Want) (now : ℕ) (s : State) → find (tag_of want.key) s.policy ≡ o → tag_at s.policy r ≡ Some tag → HasPresent i (cell_at s r) → tag_at (enter_at o a want now s).1.policy r ≡ Some tag → HasPresent i (cell_at (enter_at o a want now s).1 r)
  found_present None want now s f m h n =
      let P : ℕ → Type 0 = λ k. tag_at s.policy r ≡ Some k in
      let other : tag_of want.key ≢ tag = λ e. not_found (tag_of want.key) s.policy.tags 0 r f (subst P (sym e) m) in
      place_present (head (make_room s).free) (make_room s) want now s other h n
  found_present (Some q) want now s f m h n = elim (cases_Bool (len_of (cell_at s q).region == want.len)) [
    | inl y ↦ rw y (let u : State = record s { policy = touch q now s.policy } in hold_present q want u h)
    | inr y ↦ rw y h
  ]

  enter_present : (mount : ℕ) (want : Want) (now : ℕ) (s : State) → tag_at s.policy r ≡ Some tag → HasPresent i (cell_at s r) → tag_at (enter a mount want now s).1.policy r ≡ Some tag → HasPresent i (cell_at (enter a mount want now s).1 r)
  enter_present mount want now s m h n = elim (cases_Bool (is_gone s mount)) [
    | inl t ↦ rw t h
    | inr f ↦ rw f (found_present (find (tag_of want.key) s.policy) want now s refl m h (rw f at n))
  ]

  store_present : (o : Option Hold) (piece : List ℕ) (s : State) → HasPresent i (cell_at s r) → HasPresent i (cell_at (machine.store a o piece s) r)
  store_present None piece s h = h
  store_present (Some k) piece s h = set_present s.cells k.region r i _ (stays.progress k.gap.id (k.gap.upto + length piece) (cell_at s k.region).region.tracker i) h

  fail_present : (o : Option Hold) (s : State) → HasPresent i (cell_at s r) → HasPresent i (cell_at (machine.fail a o s) r)
  fail_present None s h = h
  fail_present (Some k) s h = set_present s.cells k.region r i _ (stays.fail k.gap.id (cell_at s k.region).region.tracker i) h

  leave_present : (o : Option Hold) (s : State) → HasPresent i (cell_at s r) → HasPresent i (cell_at (machine.leave a o s) r)
  leave_present None s h = h
  leave_present (Some k) s h = set_present s.cells k.region r i _ (stays.leave k.ticket (cell_at s k.region).region.tracker i) h

  event_present : (e : Event) (s : State) → tag_at s.policy r ≡ Some tag → HasPresent i (cell_at s r) → tag_at (outcome s a e).1.policy r ≡ Some tag → HasPresent i (cell_at (outcome s a e).1 r)
  event_present (Enter mount want now) s m h n = enter_present mount want now s m h n
  event_present TakeBytes s m h n = h
  event_present (Store piece) s m h n = store_present (hold_at s a) piece s h
  event_present Fail s m h n = fail_present (hold_at s a) s h
  event_present Leave s m h n = leave_present (hold_at s a) s h
  event_present (Look q want) s m h n = h
  event_present (Decay now) s m h n = h
  event_present (Clear manifest) s m h n = h
  event_present (Live mount) s m h n = h
  event_present (Unmount mount manifest) s m h n = h

pub present_kept : PresentStays → PresentKept
present_kept stays s t a r tag i e answer (inl step) m n h =
    let P : State → Type 0 = λ x. tag_at x.policy r ≡ Some tag → HasPresent i (cell_at x r) in
    subst P (ap (λ (x : Answer × State). x.1) step) (event_present stays a r tag i e s m h) n
present_kept stays s t a r tag i e answer (inr refused) m n h =
    let P : cells.Region → Type 0 = λ c. slice_get c.tracker.byte_states i ≡ Some present in
    subst P (sym (refused.1.regions r)) h
