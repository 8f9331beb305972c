use Rattle.std.proofs.Common.{arith, refl, ap}
use Rattle.std.specs.Prelude.{Some}
use Rattle.simpletext_postings.proofs.Listing.{collects_doc}
use Rattle.simpletext_postings.proofs.collect.Collecting.begin.Goals as goal

pub returns : goal.returns
returns c =
    let close = c.in_ok-close.ensures in
    collects_doc c.args.doc c.args.self.now _ close.docs refl close.found (ap (λ p. Some (record { doc = c.args.doc; positions = p })) c.new.ensures) (omega arith) (omega arith)
