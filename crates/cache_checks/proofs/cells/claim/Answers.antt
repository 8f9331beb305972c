use Rattle.std.proofs.Common.{arith}
use Rattle.cache_checks.specs.CellSteps.{fresh}
use Rattle.cache_checks.proofs.CellLaws.{lies, fresh_len, at_claimed}
use Rattle.cache_checks.proofs.cells.claim.Goals as goal

pub claim-requires : goal.claim-requires
claim-requires c = rw c.in_ok-reserve.ensures.ok (lies fresh c.args.cell.now.metadata c.requires 100 200 8192 fresh_len (omega arith) (omega arith) (omega arith))

pub returns : goal.returns
returns c = rw (c.in_ok-claim.ensures.ok, c.in_ok-reserve.ensures.ok) (at_claimed c.args.cell.now.metadata c.requires)
