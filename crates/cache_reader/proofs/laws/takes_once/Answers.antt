use Rattle.cache_reader.proofs.Acts as acts
use Rattle.cache_reader.proofs.laws.takes_once.Goals as goal

pub returns : goal.returns
returns c = acts.takes_once c.claim_places.ensures
