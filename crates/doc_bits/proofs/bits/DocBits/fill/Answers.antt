use Rattle.std.proofs.Common.{◌≡◌, true, length, replicate, sym, ap, ◌∙◌}
use Rattle.std.specs.Vec.{with_items}
use Rattle.std.proofs.lemmas.List.{with_items_is}
use Rattle.doc_bits.proofs.LayoutLemmas.{length-list_of, list_of_replicate}
use Rattle.doc_bits.proofs.bits.DocBits.fill.Goals as goal

pub returns : goal.returns
returns c =
    let held = ap length (sym c.self.view_is) ∙ length-list_of c.self.inside.len c.self.inside.words.items in
    let long = c.fill_words.auto.words ∙ ap length c.deref_mut.ensures.value in
    let items : (with_items c.self.inside.words c.fill_words.new.words).items ≡ c.fill_words.new.words =
    with_items_is c.self.inside.words c.fill_words.new.words (long ∙ sym c.self.inside.words.ok.0) in
    rw items (list_of_replicate true c.self.inside.len c.fill_words.new.words c.fill_words.ensures.full ∙ ap (λ n. replicate n true) (sym held))
