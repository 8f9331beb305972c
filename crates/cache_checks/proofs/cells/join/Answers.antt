use Rattle.std.proofs.Common.{arith}
use Rattle.cache_checks.specs.CellSteps.{begun}
use Rattle.cache_checks.proofs.CellLaws.{lies, begun_len, at_joined}
use Rattle.cache_checks.proofs.cells.join.Goals as goal

pub claim-requires : goal.claim-requires
claim-requires c = lies begun c.args.cell.now.metadata c.requires 120 130 8192 begun_len (omega arith) (omega arith) (omega arith)

pub returns : goal.returns
returns c = rw c.in_ok-claim.ensures.ok (at_joined c.args.cell.now.metadata c.requires)
