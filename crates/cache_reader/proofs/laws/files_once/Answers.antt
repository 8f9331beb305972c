use Rattle.cache_reader.proofs.ReadActs as acts
use Rattle.cache_reader.proofs.laws.files_once.Goals as goal

pub returns : goal.returns
returns c = acts.files_once c.claim_places.ensures
