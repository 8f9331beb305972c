use Rattle.cache_door.proofs.Alone as alone
use Rattle.cache_door.proofs.laws.never_waits.Goals as goal

pub returns : goal.returns
returns c = alone.never_waits
