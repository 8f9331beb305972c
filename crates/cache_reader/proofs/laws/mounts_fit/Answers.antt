use Rattle.cache_reader.proofs.Mounts as mounts
use Rattle.cache_reader.proofs.laws.mounts_fit.Goals as goal

pub returns : goal.returns
returns c = mounts.mounts_fit
