use Rattle.cache_policy.proofs.Leaves.{free_region}
use Rattle.cache_policy.proofs.laws.free_region_leaves.Goals as goal

pub returns : goal.returns
returns c = free_region
