use Rattle.std.proofs.Common.{length}
use Rattle.shared_checks.proofs.tests.block_tests.+has_no_mount.Given as goal

abbrev pub decreases-has_no_mount : goal.decreases-has_no_mount
decreases-has_no_mount l = length l.block.now
