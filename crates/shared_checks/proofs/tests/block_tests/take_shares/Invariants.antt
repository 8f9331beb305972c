use Rattle.std.proofs.Common.{◌≡◌, ◌+◌}
use Rattle.shared_run.specs.Workers.{IsIdle}
use Rattle.shared_checks.proofs.tests.block_tests.take_shares.Given as goal

abbrev pub invariant-loop-taken : goal.invariant-loop-taken
invariant-loop-taken l = record {
  mine : IsIdle l.cache l.pass;
  others : IsIdle l.cache l.others;
  left : l.pass.view.shares + l._taken ≡ 63;
  gone : l.others.view.shares ≡ l._taken + 1;
}
