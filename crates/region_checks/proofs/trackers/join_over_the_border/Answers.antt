use Rattle.std.proofs.Common.{arith}
use Rattle.region_checks.proofs.trackers.join_over_the_border.Goals as goal

pub wait_if_pending-requires : goal.wait_if_pending-requires
wait_if_pending-requires c = rw c.requires (omega arith, omega arith)
