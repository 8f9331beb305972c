use Rattle.std.proofs.Common.{◌∙◌}
use Rattle.sparse_tracker.proofs.Looks.{free_is}
use Rattle.sparse_tracker.proofs.tracker.has_absent.Goals as goal

pub returns : goal.returns
returns c = c.is_some.ensures ∙ free_is c.args.taken.now.ranges c.args.sub c.first_absent_run.result c.first_absent_run.ensures.some c.first_absent_run.ensures.none
