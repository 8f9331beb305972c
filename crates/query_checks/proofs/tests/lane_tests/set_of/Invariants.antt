use Rattle.std.proofs.Common.{◌≡◌, length}
use Rattle.query_checks.proofs.tests.lane_tests.set_of.Given as goal

abbrev pub invariant-loop-i : goal.invariant-loop-i
invariant-loop-i l = length l.bits ≡ l.n
