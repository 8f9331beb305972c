use Rattle.cache_door.proofs.GapKept as kept
use Rattle.cache_door.proofs.laws.gap_kept.Goals as goal

pub returns : goal.returns
returns c = kept.gap_kept
