use Rattle.std.proofs.Common.{sym}
use Rattle.simpletext_postings.proofs.Marks.{payload_form}
use Rattle.simpletext_postings.proofs.shape.rarer_shape.Goals as goal

pub returns-then-has_mark-3-clause-form : goal.returns-then-has_mark-3-clause-form
returns-then-has_mark-3-clause-form c = payload_form c.args.s.now (sym c.if-has_mark-3.ensures.value)
