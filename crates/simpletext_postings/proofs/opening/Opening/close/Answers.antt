use Rattle.std.proofs.Common.{◌++◌, length, sym, subst}
use Rattle.simpletext_postings.specs.Openings.{AreNamed, option_places}
use Rattle.simpletext_postings.proofs.Naming.{named_closed_as}
use Rattle.simpletext_postings.proofs.opening.Opening.close.Goals as goal

pub returns-in_ok-push-clause-named : goal.returns-in_ok-push-clause-named
returns-in_ok-push-clause-named c =
    let old = c.args.self.now in
    let own = subst (λ t. AreNamed (length old.names.items) (old.places.items ++ option_places t)) (sym c.in-Some.ensures.value) c.requires in
    subst (λ t. AreNamed (length old.names.items) (c.push.new.self.items ++ option_places t)) (sym c.in-Some.ensures.after)
    (named_closed_as (length old.names.items) c.args.at old.places.items c.push.new.self.items c.in-Some.term c.in_ok-push.ensures.items own)
