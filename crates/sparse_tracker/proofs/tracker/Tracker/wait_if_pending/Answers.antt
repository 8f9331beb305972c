use Rattle.std.proofs.Common.{arith, ◌∙◌, sym, ap}
use Rattle.sparse_tracker.specs.Kept.{byte_state_at}
use Rattle.sparse_tracker.proofs.Ties.{seen, length-byte_states}
use Rattle.sparse_tracker.proofs.Looks.{lacks_is}
use Rattle.sparse_tracker.proofs.Stores.{stored_waited, viewed, joined_none, joined_some, asked_none, asked_some}
use Rattle.sparse_tracker.proofs.tracker.Tracker.wait_if_pending.Goals as goal

pub returns-then-has_absent-clause-ok : goal.returns-then-has_absent-clause-ok
returns-then-has_absent-clause-ok c =
    let t = c.self.inside in
    let h = rw (← c.self.view_is, length-byte_states t.len (byte_state_at t.taken.ranges t.gaps.items) 0) at c.requires in
    let l = lacks_is t.len t.taken.ranges t.gaps.items c.args.sub c.self.invariant.0.gaps (omega (arith, h)) h.1 ∙ sym c.has_absent.ensures ∙ c.if-has_absent.true in
    rw (← c.self.view_is) (ap (viewed t.first_len t.spare) (joined_none c.args.sub (seen t.len t.taken.ranges t.gaps.items t.tickets.items) l))

pub returns-then-has_absent-clause-ticket : goal.returns-then-has_absent-clause-ticket
returns-then-has_absent-clause-ticket c =
    let t = c.self.inside in
    let h = rw (← c.self.view_is, length-byte_states t.len (byte_state_at t.taken.ranges t.gaps.items) 0) at c.requires in
    let l = lacks_is t.len t.taken.ranges t.gaps.items c.args.sub c.self.invariant.0.gaps (omega (arith, h)) h.1 ∙ sym c.has_absent.ensures ∙ c.if-has_absent.true in
    rw (← c.self.view_is) (asked_none c.args.sub (seen t.len t.taken.ranges t.gaps.items t.tickets.items) l)

pub invariant_of-self-2 : goal.invariant_of-self-2
invariant_of-self-2 c =
    let t = c.self.inside in
    let s = c.self.invariant in
    let h = rw (← c.self.view_is, length-byte_states t.len (byte_state_at t.taken.ranges t.gaps.items) 0) at c.requires in
    let number = rw c.reserve_ticket.ensures.items at c.push_ticket.ensures.number in (
      rw (c.push_ticket.ensures.items, c.reserve_ticket.ensures.items) (stored_waited t.first_len t.len t.taken.ranges t.gaps.items t.tickets.items _ s.0 number h.0 h.1),
      record { changes = s.1.changes; gaps = s.1.gaps; tickets = omega (arith, c.in_ok-reserve_ticket.ensures.ok, c.push_ticket.ensures.len, c.push_ticket.ensures.capacity); ids = s.1.ids; numbers = omega (arith, c.in_ok-reserve_ticket.ensures.ok, c.push_ticket.ensures.len) },
    )

pub returns-clause-ok : goal.returns-clause-ok
returns-clause-ok c =
    let t = c.self.inside in
    let h = rw (← c.self.view_is, length-byte_states t.len (byte_state_at t.taken.ranges t.gaps.items) 0) at c.requires in
    let l = lacks_is t.len t.taken.ranges t.gaps.items c.args.sub c.self.invariant.0.gaps (omega (arith, h)) h.1 ∙ sym c.has_absent.ensures ∙ c.if-has_absent.false in
    let number = rw c.reserve_ticket.ensures.items at c.push_ticket.ensures.number in
    rw (← c.self.view_is, c.push_ticket.ensures.items, c.reserve_ticket.ensures.items, number) (ap (viewed t.first_len t.spare) (joined_some c.args.sub (seen t.len t.taken.ranges t.gaps.items t.tickets.items) l))

pub returns-clause-ticket : goal.returns-clause-ticket
returns-clause-ticket c =
    let t = c.self.inside in
    let h = rw (← c.self.view_is, length-byte_states t.len (byte_state_at t.taken.ranges t.gaps.items) 0) at c.requires in
    let l = lacks_is t.len t.taken.ranges t.gaps.items c.args.sub c.self.invariant.0.gaps (omega (arith, h)) h.1 ∙ sym c.has_absent.ensures ∙ c.if-has_absent.false in
    let number = rw c.reserve_ticket.ensures.items at c.push_ticket.ensures.number in
    rw (← c.self.view_is, number) (asked_some c.args.sub (seen t.len t.taken.ranges t.gaps.items t.tickets.items) l)
