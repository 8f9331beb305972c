use Rattle.cache_door.proofs.PresentKept as kept
use Rattle.cache_door.proofs.laws.present_kept.Goals as goal

pub returns : goal.returns
returns c = kept.present_kept c.present_stays.ensures
