use Rattle.std.proofs.Common.{ap, ◌∙◌}
use Rattle.text_lines.specs.Words.{begins}
use Rattle.simpletext_postings.proofs.Marks.{begins_both, begins_neither}
use Rattle.simpletext_postings.proofs.shape.has_long_mark.Goals as goal

pub returns-then-has_mark-clause-value : goal.returns-then-has_mark-clause-value
returns-then-has_mark-clause-value g c =
    c.has_mark-then-has_mark.ensures.value ∙ ap (begins c.args.back.now) c.behind_mark.ensures ∙ begins_both 8 c.args.front.now c.args.back.now c.args.s.now c.told-front c.if-has_mark.ensures.value

pub returns-else-has_mark-clause-value : goal.returns-else-has_mark-clause-value
returns-else-has_mark-clause-value g c = c.if-has_mark.false ∙ begins_neither c.args.front.now c.args.back.now c.args.s.now c.if-has_mark.ensures.value
