use Rattle.std.proofs.Common.{sym, ◌∙◌}
use Rattle.simpletext_stored.proofs.Listed.{doc_within, line_listed}
use Rattle.simpletext_stored.proofs.live_text.LiveListLineTable.take_line.Goals as goal

pub list-requires : goal.list-requires
list-requires c =
    let (past, kept, held) = c.requires in
    let step = c.take.ensures past held.is in
    rw held.size (doc_within _ past _ (sym step.same ∙ c.if-not-take.false))

pub returns : goal.returns
returns c = λ past kept held.
    let step = rw (c.form_of-form.ensures, c.if-not-take.false) at (c.take.ensures past held.is) in
    record {
      same = step.same;
      after = λ so now le. rw (c.list.ensures, c.form_of-form.ensures) (line_listed _ past kept c.args.arg4 _ _ held _ c.take.new.self step);
    }
