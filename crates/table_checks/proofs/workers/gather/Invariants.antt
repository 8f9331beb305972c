use Rattle.table_checks.specs.Jobs.{IsIdle}
use Rattle.table_checks.proofs.workers.gather.Given as goal

abbrev pub invariant-loop-job : goal.invariant-loop-job
invariant-loop-job l = IsIdle l.cache l.pass
