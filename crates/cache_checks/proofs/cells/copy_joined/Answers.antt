use Rattle.cache_checks.specs.CellSteps.{joined}
use Rattle.cache_checks.proofs.CellLaws.{has_ticket, as_wide, joined_ticket}
use Rattle.cache_checks.proofs.cells.copy_joined.Goals as goal

pub copy-requires-clause-ticket : goal.copy-requires-clause-ticket
copy-requires-clause-ticket c = has_ticket joined c.args.cell.now.metadata c.requires.cell 1 _ joined_ticket

pub copy-requires-clause-len : goal.copy-requires-clause-len
copy-requires-clause-len c = as_wide joined c.args.cell.now.metadata c.requires.cell 1 _ _ joined_ticket c.requires.len
