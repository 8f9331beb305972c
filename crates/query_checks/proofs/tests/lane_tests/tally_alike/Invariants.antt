use Rattle.std.proofs.Common.{◌≡◌, length}
use Rattle.query_checks.proofs.tests.lane_tests.tally_alike.Given as goal

abbrev pub invariant-loop-k : goal.invariant-loop-k
invariant-loop-k l = (length l.tally.counts ≡ l.n) × (l.tally.added ≡ l.k)

abbrev pub invariant-loop-m : goal.invariant-loop-m
invariant-loop-m l = length l.out ≡ l.n
