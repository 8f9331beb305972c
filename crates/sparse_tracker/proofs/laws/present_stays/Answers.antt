use Rattle.sparse_tracker.proofs.Spots.{present_told}
use Rattle.sparse_tracker.proofs.laws.present_stays.Goals as goal

pub returns : goal.returns
returns c = present_told
