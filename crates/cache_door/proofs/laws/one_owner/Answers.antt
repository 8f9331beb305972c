use Rattle.cache_door.proofs.OneOwner as owned
use Rattle.cache_door.proofs.laws.one_owner.Goals as goal

pub returns : goal.returns
returns c = owned.one_owner
