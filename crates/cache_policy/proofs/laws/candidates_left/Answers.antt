use Rattle.cache_policy.proofs.Leaves.{left}
use Rattle.cache_policy.proofs.laws.candidates_left.Goals as goal

pub returns : goal.returns
returns c = left
