use Rattle.std.proofs.Common.{◌≡◌, ◌+◌, ◌/◌, vec_len}
use Rattle.query_checks.proofs.tests.lane_tests.drawn.Given as goal

abbrev pub invariant-loop-i : goal.invariant-loop-i
invariant-loop-i l = vec_len l.words ≡ (l.n + 63) / 64
