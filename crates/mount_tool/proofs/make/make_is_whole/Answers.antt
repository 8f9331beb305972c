use Rattle.mount_tool.proofs.Calls as calls
use Rattle.mount_tool.proofs.make.make_is_whole.Goals as goal

pub returns : goal.returns
returns c = calls.make_is_whole
