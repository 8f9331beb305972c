use Rattle.std.proofs.Common.{◌∙◌, ap, arith}
use Rattle.sparse_tracker.specs.ByteStates.{TrackerView, wait_for_range}
use Rattle.region_checks.proofs.trackers.claim.Goals as goal

pub wait_for_range-requires-clause-range : goal.wait_for_range-requires-clause-range
wait_for_range-requires-clause-range c = rw (c.in_ok-reserve.ensures.ok, c.requires) (omega arith)

pub returns : goal.returns
returns c =
    let e = ap (λ (v : TrackerView). v.tracker) c.in_ok-reserve.ensures.ok ∙ c.requires in
    ap (λ (v : TrackerView). v.tracker) c.in_ok-claim.ensures.ok ∙ ap (wait_for_range (record { start = 0; end = 10 }) (record { start = 2; end = 4 })) e
