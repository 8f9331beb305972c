use Rattle.cache_door.proofs.ClaimsAbsent.{new_absent}
use Rattle.cache_door.proofs.laws.new_claims_absent.Goals as goal

pub returns : goal.returns
returns c = λ tells files s a mount q now i want g good w found e low high. new_absent c.claim_places.ensures s good a q now i want g w low high mount found e
