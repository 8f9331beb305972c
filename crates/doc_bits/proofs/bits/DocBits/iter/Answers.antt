use Rattle.std.proofs.Common.{length, sym, ap, ◌∙◌, arith}
use Rattle.doc_bits.specs.Words.{places_of_words}
use Rattle.doc_bits.specs.Places.{places_of}
use Rattle.doc_bits.proofs.PlaceLemmas.{places_of-list_of, places-rising, places-within}
use Rattle.doc_bits.proofs.bits.DocBits.iter.Goals as goal

pub new-requires : goal.new-requires
new-requires c =
    let long = ap length c.deref.ensures.value ∙ c.self.invariant.as_many in
    let countable = c.self.invariant.countable in
    omega arith

pub returns-clause-all : goal.returns-clause-all
returns-clause-all c =
    c.new.ensures ∙ ap (places_of_words 0) c.deref.ensures.value
    ∙ sym (places_of-list_of c.self.inside.len c.self.inside.words.items c.self.invariant) ∙ ap places_of c.self.view_is

pub returns-clause-rising : goal.returns-clause-rising
returns-clause-rising c = places-rising c.args.self.now

pub returns-clause-within : goal.returns-clause-within
returns-clause-within c = places-within c.args.self.now
