use Rattle.std.proofs.Common.{arith, ◌≡◌, length}
use Rattle.sparse_tracker.specs.Kept.{byte_states_of, byte_state_at}
use Rattle.sparse_tracker.proofs.Ties.{length-byte_states}
use Rattle.sparse_tracker.proofs.Lessons.{good}
use Rattle.sparse_tracker.proofs.tracker.Tracker.lesson.Goals as goal

pub returns : goal.returns
returns c =
    let t = c.self.inside in
    let s = c.self.invariant.0 in
    let n : length (byte_states_of t.len t.taken.ranges t.gaps.items) ≡ t.len = length-byte_states t.len (byte_state_at t.taken.ranges t.gaps.items) 0 in
    rw (← c.self.view_is) (record { tracker = good t.first_len t.len t.taken.ranges t.gaps.items t.tickets.items s; len = omega (arith, n, s.len); most = s.most })
