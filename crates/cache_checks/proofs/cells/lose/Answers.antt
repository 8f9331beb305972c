use Rattle.std.proofs.Common.{arith}
use Rattle.cache_checks.specs.CellSteps.{joined, lost}
use Rattle.cache_checks.proofs.CellLaws.{has_gap, has_ticket, as_wide, at_lost, stays_at, joined_gap, lost_ticket}
use Rattle.cache_checks.proofs.cells.lose.Goals as goal

pub fail-requires : goal.fail-requires
fail-requires c = has_gap joined c.args.cell.now.metadata c.requires 0 _ joined_gap

pub copy-requires-clause-ticket : goal.copy-requires-clause-ticket
copy-requires-clause-ticket c = rw c.fail.ensures (has_ticket lost _ (at_lost c.args.cell.now.metadata c.requires) 0 _ lost_ticket)

pub copy-requires-clause-len : goal.copy-requires-clause-len
copy-requires-clause-len c = rw c.fail.ensures (as_wide lost _ (at_lost c.args.cell.now.metadata c.requires) 0 _ _ lost_ticket (omega arith))

pub returns : goal.returns
returns c =
    let same = rw c.fail.ensures at c.copy.ensures.same in
    stays_at lost _ _ (at_lost c.args.cell.now.metadata c.requires) same
