use Rattle.std.proofs.Common.{arith}
use Rattle.sparse_tracker.proofs.Stores.{stored_left}
use Rattle.sparse_tracker.proofs.tracker.Tracker.leave.Goals as goal

pub invariant_of-self : goal.invariant_of-self
invariant_of-self c =
    let t = c.self.inside in
    let s = c.self.invariant in (
      rw c.drop_ticket.ensures.items (stored_left c.args.ticket t.first_len t.len t.taken.ranges t.gaps.items t.tickets.items s.0),
      record { changes = s.1.changes; gaps = s.1.gaps; tickets = omega (arith, s.1.tickets, c.drop_ticket.ensures.len, c.drop_ticket.ensures.capacity); ids = s.1.ids; numbers = omega (arith, s.1.numbers, c.drop_ticket.ensures.len) },
    )
