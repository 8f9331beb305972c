use Rattle.std.proofs.Common.{arith}
use Rattle.cache_checks.specs.CellSteps.{begun, first_ticket}
use Rattle.cache_checks.proofs.CellLaws.{has_ticket, as_wide, begun_ticket}
use Rattle.cache_checks.proofs.cells.copy.Goals as goal

pub copy-requires-clause-ticket : goal.copy-requires-clause-ticket
copy-requires-clause-ticket c = has_ticket begun c.args.cell.now.metadata c.requires 0 first_ticket begun_ticket

pub copy-requires-clause-len : goal.copy-requires-clause-len
copy-requires-clause-len c = as_wide begun c.args.cell.now.metadata c.requires 0 _ first_ticket begun_ticket (omega arith)
