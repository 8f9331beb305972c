-- What a ticket's status tells.
use Rattle.std.proofs.Common.{arith, ◌≡◌, ◌<◌, ◌≤◌, ℕ, Bool, true, false, List, sym, ◌∙◌, ap, inl, inr, Option, Some, None}
use Rattle.std.specs.Prelude.{◌==◌, option_map}
use Rattle.std.specs.List.{list_any, list_all}
use Rattle.std.proofs.lemmas.Bool.{cases_Bool}
use Rattle.sparse_tracker.specs.declared.tickets.Ticket.{Ticket}
use Rattle.region_ranges.specs.declared.ranges.ByteRange.{ByteRange}
use Rattle.sparse_tracker.specs.declared.status.Status.{Status}
use Rattle.sparse_tracker.specs.declared.status.Status.TheVariants.{Ready, Open}
use Rattle.sparse_tracker.specs.ByteStates.{ByteState, Tracker, is_absent, is_present, byte_states_in, status_of, status, ticket_of, has_all}
use Rattle.region_cell.specs.Cells.{Region, len_of, IsRanged}
use Rattle.region_cell.proofs.Places.{slot_find}

ready_has : (ls : List ByteState) (failed : Bool) → status_of ls failed ≡ Ready → list_all is_present ls ≡ true
ready_has ls failed e = elim (cases_Bool (list_all is_present ls)) [
  | inl t ↦ t
  | inr t ↦ elim (cases_Bool (list_any is_absent ls)) [
    | inr a ↦ absurd (let r = rw (t, a) at e in cc)
    | inl a ↦ elim (cases_Bool failed) [ inl f ↦ absurd (let r = rw (t, a, f) at e in cc) | inr f ↦ absurd (let r = rw (t, a, f) at e in cc) ]
  ]
]

open_lacks : (ls : List ByteState) (failed : Bool) → status_of ls failed ≡ Open → (list_any is_absent ls ≡ true) × (failed ≡ false)
open_lacks ls failed e = elim (cases_Bool (list_all is_present ls)) [
  | inl t ↦ absurd (let r = rw t at e in cc)
  | inr t ↦ elim (cases_Bool (list_any is_absent ls)) [
    | inr a ↦ absurd (let r = rw (t, a) at e in cc)
    | inl a ↦ elim (cases_Bool failed) [ inl f ↦ absurd (let r = rw (t, a, f) at e in cc) | inr f ↦ (a, f) ]
  ]
]

-- a ticket of a cell, and what is known of it
pub record Known (range : ℕ) (c : Region) (k : Ticket) : Type 0 where
  pub some : k.start < k.end
  pub most : k.end ≤ len_of c
  pub settled : status k c.tracker ≡ Open → ⊥

pub known : (range : ℕ) (c : Region) (n : ℕ) (k : Ticket) → IsRanged range c → ticket_of n c.tracker ≡ Some k → Known range c k
known range c n k r e =
    let f = slot_find (λ (x : Ticket). x.number == n) c.tracker.tickets k e in
    let t = r.tickets f.0 k f.1 in
    record {
      some = t.0;
      most = t.1;
      settled = λ o.
          let l = open_lacks (byte_states_in k.start k.end c.tracker.byte_states) k.failed o in
          let m = r.marked f.0 k f.1 l.0 in
          let w : true ≡ false = sym m ∙ l.1 in
          cc;
    }

pub ready_is : (k : Ticket) (t : Tracker) → status k t ≡ Ready → has_all (record { start = k.start; end = k.end }) t ≡ true
ready_is k t e = ready_has (byte_states_in k.start k.end t.byte_states) k.failed e

-- the ticket that a call speaks of, with what it answers
pub record Held (n : ℕ) (t : Tracker) (s : Status) : Type 0 where
  pub ticket : Ticket
  pub is : ticket_of n t ≡ Some ticket
  pub state : status ticket t ≡ s

pub held : (n : ℕ) (t : Tracker) (s : Status) (o : Option Ticket) → ticket_of n t ≡ o → option_map (λ k. status k t) o ≡ Some s → Held n t s
held n t s None f e = absurd (cc)
held n t s (Some k) f e = record { ticket = k; is = f; state = cc }

-- the ticket whose bytes a call names
pub record Waits (range : ℕ) (c : Region) (n : ℕ) (sub : ByteRange) : Type 0 where
  pub ticket : Ticket
  pub is : ticket_of n c.tracker ≡ Some ticket
  pub begins : ticket.start ≡ sub.start
  pub ends : ticket.end ≡ sub.end
  pub some : sub.start < sub.end
  pub most : sub.end ≤ len_of c

pub waiting_for : (range : ℕ) (c : Region) (n : ℕ) (sub : ByteRange) → IsRanged range c → (o : Option Ticket) → ticket_of n c.tracker ≡ o → option_map (λ (k : Ticket). record { start = k.start; end = k.end }) o ≡ Some sub → Waits range c n sub
waiting_for range c n sub r None f e = absurd (cc)
waiting_for range c n sub r (Some k) f e =
    let x = known range c n k r f in
    let same : record { start = k.start; end = k.end } ≡ sub = cc in
    let begins : k.start ≡ sub.start = ap (λ (s : ByteRange). s.start) same in
    let ends : k.end ≡ sub.end = ap (λ (s : ByteRange). s.end) same in
    record { ticket = k; is = f; begins = begins; ends = ends; some = omega (arith, x.some, begins, ends); most = omega (arith, x.most, ends) }
