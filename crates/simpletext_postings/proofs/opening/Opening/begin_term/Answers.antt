use Rattle.std.proofs.Common.{◌∷◌, ◌++◌, [], length, Some, sym, refl, subst, ap, ◌∙◌}
use Rattle.std.specs.Prelude.{map}
use Rattle.simpletext_postings.specs.Openings.{IsTableState, AreNamed}
use Rattle.simpletext_postings.specs.Places.{NumberedTerm, numbered}
use Rattle.simpletext_postings.specs.declared.places.Place.{Place}
use Rattle.simpletext_postings.proofs.Opened.{takes_term}
use Rattle.simpletext_postings.proofs.Naming.{none_open, read_more, numbered_new, named_more}
use Rattle.simpletext_postings.proofs.opening.Opening.begin_term.Goals as goal

pub returns-clause-takes : goal.returns-clause-takes
returns-clause-takes c past of =
    let closes = c.in_ok-close.ensures.closes in
    let closed = c.close.new.self in
    let place = c.in_ok-place.place in
    let more = c.in_ok-push_bytes.ensures in
    let named = none_open (length closed.names.items) closed.places.items closed.term closes.term c.in_ok-close.ensures.named in
    takes_term c.args.self.now.docs past c.args.at c.args.behind c.args.self.now c.close.new.self _
    (record { field = c.close.new.self.field; term = c.args.name.now; from = c.args.behind; to = c.args.behind }) of
    (sym (c.if-not-may_begin_term.ensures past of.state)) (sym c.if-not-is_term_above.ensures) closes refl
    (ap (λ ns. map (numbered ns) closed.places.items) more ∙ read_more closed.names.items c.args.name.now closed.places.items named.lie)
    refl refl refl
    (ap (λ ns. Some (numbered ns place)) more ∙ ap (λ (q : NumberedTerm). Some q) (numbered_new closed.names.items c.args.name.now c.args.behind closed.field place c.in_ok-place.ensures))
    (c.begin_term.ensures past c.args.name.now (subst (λ s. IsTableState past s) (sym closes.state) of.state))

pub returns-clause-named : goal.returns-clause-named
returns-clause-named c =
    let closes = c.in_ok-close.ensures.closes in
    let closed = c.close.new.self in
    let place = c.in_ok-place.place in
    let is = c.in_ok-place.ensures in
    let named = none_open (length closed.names.items) closed.places.items closed.term closes.term c.in_ok-close.ensures.named in
    subst (λ ns. AreNamed (length ns) (closed.places.items ++ place ∷ [])) (sym c.in_ok-push_bytes.ensures)
    (named_more closed.names.items c.args.name.now closed.places.items place named (ap (λ (x : Place). x.start) is) (ap (λ (x : Place). x.length) is))
