use Rattle.std.proofs.Common.{◌≡◌, length, sym, ap, ◌∙◌, arith}
use Rattle.doc_bits.specs.Words.{places_of_words}
use Rattle.doc_bits.specs.Places.{places_of}
use Rattle.doc_bits.proofs.LayoutLemmas.{length-list_of}
use Rattle.doc_bits.proofs.PlaceLemmas.{places_of-list_of, length-places_of}
use Rattle.doc_bits.proofs.bits.DocBits.count.Goals as goal

pub count_words-requires : goal.count_words-requires
count_words-requires c =
    let long = ap length c.deref.ensures.value ∙ c.self.invariant.as_many in
    let countable = c.self.invariant.countable in
    omega arith

module _ (c : goal.After-count_words) where
  counted : c.count_words.result ≡ length (places_of c.args.self.now)
  counted =
      c.count_words.ensures ∙ ap (λ ws. length (places_of_words 0 ws)) c.deref.ensures.value
      ∙ ap length (sym (places_of-list_of c.self.inside.len c.self.inside.words.items c.self.invariant) ∙ ap places_of c.self.view_is)

pub overflow_cast-result : goal.overflow_cast-result
overflow_cast-result c =
    let held = ap length (sym c.self.view_is) ∙ length-list_of c.self.inside.len c.self.inside.words.items in
    let few = length-places_of c.args.self.now in
    let same = counted c in
    let countable = c.self.invariant.countable in
    record { fits = omega arith }

pub returns : goal.returns
returns c = counted c
