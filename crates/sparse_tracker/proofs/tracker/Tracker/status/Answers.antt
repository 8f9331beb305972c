use Rattle.std.proofs.Common.{arith, ◌≡◌, ◌∙◌, sym, false}
use Rattle.sparse_tracker.specs.declared.status.Status.TheVariants.{Ready, Waiting, Failed, Open}
use Rattle.sparse_tracker.specs.ByteStates.{byte_states_in}
use Rattle.sparse_tracker.specs.Kept.{byte_states_of, any_free}
use Rattle.sparse_tracker.proofs.Ties.{seen}
use Rattle.sparse_tracker.proofs.Looks.{lacks_is, status_lost, status_waiting, status_ready}
use Rattle.sparse_tracker.proofs.Stores.{ticket_inside, status_told}
use Rattle.sparse_tracker.proofs.tracker.Tracker.status.Goals as goal

pub returns-then-ticket : goal.returns-then-ticket
returns-then-ticket c =
    let t = c.self.inside in
    let k = c.ticket_of-ticket.result in
    let f = rw c.deref.ensures.value at c.ticket_of-ticket.ensures in
    let i = ticket_inside c.args.ticket t.len t.tickets.items k c.self.invariant.0.tickets f in
    let l = lacks_is t.len t.taken.ranges t.gaps.items (record { start = k.start; end = k.end }) c.self.invariant.0.gaps (omega (arith, i)) (omega (arith, i)) ∙ sym c.has_absent.ensures ∙ c.if-has_absent.true in
    let e = status_lost (byte_states_in k.start k.end (byte_states_of t.len t.taken.ranges t.gaps.items)) k.failed l in
    let g = rw c.if-ticket.true at e in
    rw (← c.self.view_is) (status_told c.args.ticket k (seen t.len t.taken.ranges t.gaps.items t.tickets.items) Failed f (rw c.if-ticket.true g))

pub returns-else-ticket : goal.returns-else-ticket
returns-else-ticket c =
    let t = c.self.inside in
    let k = c.ticket_of-ticket.result in
    let f = rw c.deref.ensures.value at c.ticket_of-ticket.ensures in
    let i = ticket_inside c.args.ticket t.len t.tickets.items k c.self.invariant.0.tickets f in
    let l = lacks_is t.len t.taken.ranges t.gaps.items (record { start = k.start; end = k.end }) c.self.invariant.0.gaps (omega (arith, i)) (omega (arith, i)) ∙ sym c.has_absent.ensures ∙ c.if-has_absent.true in
    let e = status_lost (byte_states_in k.start k.end (byte_states_of t.len t.taken.ranges t.gaps.items)) k.failed l in
    let g = rw c.if-ticket.false at e in
    rw (← c.self.view_is) (status_told c.args.ticket k (seen t.len t.taken.ranges t.gaps.items t.tickets.items) Open f (rw c.if-ticket.false g))

pub returns-then-has_pending : goal.returns-then-has_pending
returns-then-has_pending c =
    let t = c.self.inside in
    let k = c.ticket_of-ticket.result in
    let f = rw c.deref.ensures.value at c.ticket_of-ticket.ensures in
    let i = ticket_inside c.args.ticket t.len t.tickets.items k c.self.invariant.0.tickets f in
    let full : any_free t.taken.ranges (record { start = k.start; end = k.end }) ≡ false = sym c.has_absent.ensures ∙ c.if-has_absent.false in
    let met = rw c.deref-2.ensures.value at (sym c.has_pending.ensures ∙ c.if-has_pending.true) in
    rw (← c.self.view_is) (status_told c.args.ticket k (seen t.len t.taken.ranges t.gaps.items t.tickets.items) Waiting f
    (status_waiting t.len t.taken.ranges t.gaps.items (record { start = k.start; end = k.end }) c.self.invariant.0.gaps i.0 i.1 full k.failed met))

pub returns-else-has_pending : goal.returns-else-has_pending
returns-else-has_pending c =
    let t = c.self.inside in
    let k = c.ticket_of-ticket.result in
    let f = rw c.deref.ensures.value at c.ticket_of-ticket.ensures in
    let i = ticket_inside c.args.ticket t.len t.tickets.items k c.self.invariant.0.tickets f in
    let full : any_free t.taken.ranges (record { start = k.start; end = k.end }) ≡ false = sym c.has_absent.ensures ∙ c.if-has_absent.false in
    let met = rw c.deref-2.ensures.value at (sym c.has_pending.ensures ∙ c.if-has_pending.false) in
    rw (← c.self.view_is) (status_told c.args.ticket k (seen t.len t.taken.ranges t.gaps.items t.tickets.items) Ready f
    (status_ready t.len t.taken.ranges t.gaps.items (record { start = k.start; end = k.end }) c.self.invariant.0.gaps i.0 i.1 full k.failed met))
