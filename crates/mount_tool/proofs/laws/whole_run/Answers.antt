use Rattle.mount_tool.proofs.Complete.{complete}
use Rattle.mount_tool.proofs.laws.whole_run.Goals as goal

pub returns : goal.returns
returns c = complete
