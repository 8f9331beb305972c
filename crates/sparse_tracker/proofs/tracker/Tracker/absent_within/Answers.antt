use Rattle.sparse_tracker.proofs.Ties.{flags_min}
use Rattle.sparse_tracker.proofs.tracker.Tracker.absent_within.Goals as goal

pub returns : goal.returns
returns c =
    let t = c.self.inside in
    let flags = flags_min t.len c.args.range.end t.taken.ranges t.gaps.items c.self.invariant.0.gaps in
    let run = rw c.min.ensures at c.first_absent_run.ensures.run in
    rw (← c.self.view_is, flags) run
