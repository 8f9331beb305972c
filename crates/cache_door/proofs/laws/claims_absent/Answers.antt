use Rattle.cache_door.proofs.ClaimsAbsent.{entry_absent}
use Rattle.cache_door.proofs.laws.claims_absent.Goals as goal

pub returns : goal.returns
returns c = entry_absent c.claim_places.ensures
