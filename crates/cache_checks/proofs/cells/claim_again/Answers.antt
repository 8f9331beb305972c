use Rattle.std.proofs.Common.{arith}
use Rattle.cache_checks.specs.CellSteps.{lost}
use Rattle.cache_checks.proofs.CellLaws.{lies, lost_len}
use Rattle.cache_checks.proofs.cells.claim_again.Goals as goal

pub claim-requires : goal.claim-requires
claim-requires c = lies lost c.args.cell.now.metadata c.requires 100 200 8192 lost_len (omega arith) (omega arith) (omega arith)
