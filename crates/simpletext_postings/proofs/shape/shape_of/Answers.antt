use Rattle.std.proofs.Common.{sym, ap, ◌∙◌}
use Rattle.text_lines.specs.Words.{number}
use Rattle.simpletext_postings.specs.Postings.{doc_of, freq_of, pos_of}
use Rattle.simpletext_postings.proofs.Marks.{pos_form, doc_form, freq_form}
use Rattle.simpletext_postings.proofs.shape.shape_of.Goals as goal

pub returns-then-has_long_mark-clause-form : goal.returns-then-has_long_mark-clause-form
returns-then-has_long_mark-clause-form c =
    c.position_shape.ensures.form c.args.s.now ∙ ap pos_of (c.number.ensures ∙ ap number c.behind_mark.ensures) ∙ pos_form c.args.s.now (sym c.if-has_long_mark.ensures.value)

pub returns-then-has_mark-clause-form : goal.returns-then-has_mark-clause-form
returns-then-has_mark-clause-form c =
    c.doc_shape.ensures.form c.args.s.now ∙ ap doc_of (c.number-then-has_mark.ensures ∙ ap number c.behind_mark-then-has_mark.ensures) ∙ doc_form c.args.s.now (sym c.if-has_mark.ensures.value)

pub returns-then-has_long_mark-2-clause-form : goal.returns-then-has_long_mark-2-clause-form
returns-then-has_long_mark-2-clause-form c =
    c.frequency_shape.ensures.form c.args.s.now ∙ ap freq_of (c.number-then-has_long_mark-2.ensures ∙ ap number c.behind_mark-then-has_long_mark-2.ensures) ∙ freq_form c.args.s.now (sym c.if-has_long_mark-2.ensures.value)
