use Rattle.sparse_tracker.proofs.Spots.{claims_told}
use Rattle.sparse_tracker.proofs.laws.claim_places.Goals as goal

pub returns : goal.returns
returns c = claims_told
