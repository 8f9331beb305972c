use Rattle.std.proofs.Common.{arith, ap}
use Rattle.sparse_tracker.proofs.Stores.{bounds_of, stored_moved, completed, viewed}
use Rattle.sparse_tracker.proofs.tracker.Tracker.complete.Goals as goal

pub invariant_of-self : goal.invariant_of-self
invariant_of-self c =
    let t = c.self.inside in
    let s = c.self.invariant in
    let o = c.gap_of-end.result in
    let f = rw c.deref.ensures.value at c.gap_of-end.ensures in
    let b = bounds_of c.args.gap t.len t.taken.ranges t.gaps.items o s.0.gaps f in (
      rw c.move_gap.ensures.items (stored_moved c.args.gap o.end t.first_len t.len t.taken.ranges t.gaps.items t.tickets.items o s.0 f (omega (arith, b)) (omega arith)),
      record { changes = omega (arith, s.1.changes, c.move_gap.ensures.len); gaps = omega (arith, s.1.gaps, c.move_gap.ensures.len, c.move_gap.ensures.capacity); tickets = s.1.tickets; ids = omega (arith, s.1.ids, c.move_gap.ensures.len); numbers = s.1.numbers },
    )

pub returns : goal.returns
returns c =
    let t = c.self.inside in
    let s = c.self.invariant in
    let o = c.gap_of-end.result in
    let f = rw c.deref.ensures.value at c.gap_of-end.ensures in
    rw (← c.self.view_is, c.move_gap.ensures.items) (ap (viewed t.first_len t.spare) (completed c.args.gap t.first_len t.len t.taken.ranges t.gaps.items t.tickets.items o s.0 f))
