use Rattle.std.proofs.Common.{◌∙◌, ap, arith}
use Rattle.sparse_tracker.specs.ByteStates.{TrackerView, wait_if_pending}
use Rattle.region_checks.proofs.trackers.join.Goals as goal

pub wait_if_pending-requires : goal.wait_if_pending-requires
wait_if_pending-requires c = rw c.requires (omega arith, omega arith)

pub returns : goal.returns
returns c = ap (λ (v : TrackerView). v.tracker) c.in_ok-ticket.ensures.ok ∙ ap (wait_if_pending (record { start = 0; end = 4 })) c.requires
