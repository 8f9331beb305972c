use Rattle.cache_reader.proofs.ReadActs as acts
use Rattle.cache_reader.proofs.laws.acts_go_on.Goals as goal

pub returns : goal.returns
returns c = acts.acts_go_on
