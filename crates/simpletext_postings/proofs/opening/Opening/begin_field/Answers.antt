use Rattle.std.proofs.Common.{[], ◌∷◌, ◌++◌, sym, refl, subst, ap, ◌∙◌}
use Rattle.simpletext_postings.specs.Openings.{IsTableState}
use Rattle.simpletext_postings.proofs.Opened.{takes_field}
use Rattle.simpletext_postings.proofs.opening.Opening.begin_field.Goals as goal

pub returns-clause-takes : goal.returns-clause-takes
returns-clause-takes c past of =
    let closes = c.in_ok-close.ensures.closes in
    let other = sym (c.if-has_name.ensures) in
    takes_field c.args.self.now.docs past c.args.name.now c.args.at c.args.behind c.args.self.now c.close.new.self _ of
    (sym (c.if-not-may_begin_field.ensures past of.state)) (rw c.deref.ensures.value at other) closes
    (c.in_ok-push.ensures.items ∙ ap (λ x. c.close.new.self.fields.items ++ x ∷ []) c.in_ok-of.ensures) refl
    c.in_ok-self.ensures refl
    (c.begin_field.ensures past c.args.name.now (subst (λ s. IsTableState past s) (sym closes.state) of.state))
