use Rattle.simpletext_stored.proofs.Gathered.{all_gathered}
use Rattle.simpletext_stored.proofs.document.read_document.Goals as goal

pub returns-clause-fields : goal.returns-clause-fields
returns-clause-fields g c = λ t. all_gathered _ _ _ _ _ c.in_ok-document.ensures.lines t
