use Rattle.cache_reader.proofs.Mounts as mounts
use Rattle.cache_reader.proofs.laws.mounts_once.Goals as goal

pub returns : goal.returns
returns c = mounts.mounts_once c.claim_places.ensures
