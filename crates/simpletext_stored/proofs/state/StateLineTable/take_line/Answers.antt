use Rattle.simpletext_stored.proofs.Placed.{answer_placed}
use Rattle.simpletext_stored.proofs.state.StateLineTable.take_line.Goals as goal

pub returns : goal.returns
returns c = λ past kept held. answer_placed _ past kept c.args.at _ held _ _ _ (rw c.form_of.ensures.form at (c.take.ensures past held.is))
