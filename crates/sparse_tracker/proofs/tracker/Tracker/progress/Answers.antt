use Rattle.std.proofs.Common.{arith, ◌≤◌, ap}
use Rattle.std.specs.Prelude.{find}
use Rattle.sparse_tracker.specs.declared.gaps.OpenGap.{OpenGap}
use Rattle.sparse_tracker.proofs.Moves.{is_id}
use Rattle.sparse_tracker.proofs.Stores.{known, stored_moved, progressed, viewed}
use Rattle.sparse_tracker.proofs.tracker.Tracker.progress.Goals as goal

pub invariant_of-self : goal.invariant_of-self
invariant_of-self c =
    let t = c.self.inside in
    let s = c.self.invariant in
    let some = rw (← c.self.view_is) at c.requires.«open» in
    let within = rw (← c.self.view_is) at c.requires.within in
    let k = known (λ (g : OpenGap). (g.upto ≤ c.args.to) × (c.args.to ≤ g.end)) (find (is_id c.args.gap) t.gaps.items) some within in (
      rw c.move_gap.ensures.items (stored_moved c.args.gap c.args.to t.first_len t.len t.taken.ranges t.gaps.items t.tickets.items k.gap s.0 k.is k.holds.0 k.holds.1),
      record { changes = omega (arith, s.1.changes, c.move_gap.ensures.len); gaps = omega (arith, s.1.gaps, c.move_gap.ensures.len, c.move_gap.ensures.capacity); tickets = s.1.tickets; ids = omega (arith, s.1.ids, c.move_gap.ensures.len); numbers = s.1.numbers },
    )

pub returns : goal.returns
returns c =
    let t = c.self.inside in
    let s = c.self.invariant in
    let some = rw (← c.self.view_is) at c.requires.«open» in
    let within = rw (← c.self.view_is) at c.requires.within in
    let k = known (λ (g : OpenGap). (g.upto ≤ c.args.to) × (c.args.to ≤ g.end)) (find (is_id c.args.gap) t.gaps.items) some within in
    rw (← c.self.view_is, c.move_gap.ensures.items) (ap (viewed t.first_len t.spare) (progressed c.args.gap c.args.to t.first_len t.len t.taken.ranges t.gaps.items t.tickets.items k.gap s.0 k.is k.holds.0 k.holds.1))
