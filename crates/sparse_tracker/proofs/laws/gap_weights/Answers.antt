use Rattle.sparse_tracker.proofs.Weighs.{gaps_told}
use Rattle.sparse_tracker.proofs.laws.gap_weights.Goals as goal

pub returns : goal.returns
returns c = gaps_told
