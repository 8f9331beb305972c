use Rattle.table_checks.specs.Jobs.{IsIdle, AllIdle}
use Rattle.table_checks.proofs.workers.deal.Given as goal

abbrev pub invariant-loop-number : goal.invariant-loop-number
invariant-loop-number g l = IsIdle l.cache l.pass × AllIdle l.jobs.items (λ j. j.pass) l.cache
