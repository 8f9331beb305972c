use Rattle.simpletext_stored.proofs.Gathered.{answer_gathered}
use Rattle.simpletext_stored.proofs.document.DocumentLineTable.take_line.Goals as goal

pub returns : goal.returns
returns c = λ past kept held. answer_gathered _ past kept c.args.arg4 _ held _ _ _ (c.take.ensures past held.last_is)
