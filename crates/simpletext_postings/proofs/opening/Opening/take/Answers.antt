use Rattle.std.proofs.Common.{refl, subst, ap, ◌∙◌}
use Rattle.std.specs.Prelude.{IfOk}
use Rattle.simpletext_postings.specs.Openings.{Takes}
use Rattle.simpletext_postings.specs.Forms.{Field, Term}
use Rattle.simpletext_postings.proofs.Opened.{takes_other, takes_passed}
use Rattle.simpletext_postings.proofs.opening.Opening.take.Goals as goal

pub returns-in-Field-clause-takes : goal.returns-in-Field-clause-takes
returns-in-Field-clause-takes c past of =
    subst (λ f. IfOk c.begin_field.result (Takes c.args.self.now.docs past f c.args.at c.args.behind c.args.self.now c.begin_field.new.self))
    (ap Field c.behind_mark.ensures ∙ c.in-Field.ensures.form) (c.begin_field.ensures.takes past of)

pub returns-in-Term-clause-takes : goal.returns-in-Term-clause-takes
returns-in-Term-clause-takes c past of =
    subst (λ f. IfOk c.begin_term.result (Takes c.args.self.now.docs past f c.args.at c.args.behind c.args.self.now c.begin_term.new.self))
    (ap Term c.behind_mark-in-Term.ensures ∙ c.in-Term.ensures.form) (c.begin_term.ensures.takes past of)

pub returns-in-End-clause-takes : goal.returns-in-End-clause-takes
returns-in-End-clause-takes c past of =
    subst (λ f. IfOk c.take_end.result (Takes c.args.self.now.docs past f c.args.at c.args.behind c.args.self.now c.take_end.new.self))
    c.in-End.ensures.form (c.take_end.ensures.takes past of)

pub returns-in-Indented-clause-takes : goal.returns-in-Indented-clause-takes
returns-in-Indented-clause-takes c past of =
    let is = c.is_some.ensures in
    subst (λ f. Takes c.args.self.now.docs past f c.args.at c.args.behind c.args.self.now c.args.self.now c.is_some.result) c.in-Indented.ensures.form
    (rw is (takes_passed c.args.self.now.docs past c.args.at c.args.behind c.args.self.now of))

pub returns-in_default : goal.returns-in_default
returns-in_default c = record {
  docs = refl;
  named = c.requires.named;
  takes = λ past of.
      subst (λ f. Takes c.args.self.now.docs past f c.args.at c.args.behind c.args.self.now (record c.args.self.now { state = c.take.new.self }) c.take.result) c.shape_of.ensures.form
      (takes_other c.args.self.now.docs past c.shape_of.result c.args.content.now c.args.at c.args.behind c.args.self.now c.take.new.self c.take.result of
      c.in_default.not-Field c.in_default.not-Term c.in_default.not-End c.in_default.not-Indented (c.take.ensures past c.args.content.now of.state));
}
