use Rattle.std.proofs.Common.{length, sym, ap, ◌∙◌, arith, Some}
use Rattle.doc_bits.proofs.LayoutLemmas.{length-list_of, slice_get-list_of, holds_read}
use Rattle.doc_bits.proofs.bits.DocBits.get.Goals as goal

pub index-requires : goal.index-requires
index-requires c =
    let held = ap length (sym c.self.view_is) ∙ length-list_of c.self.inside.len c.self.inside.words.items in
    let long = c.self.invariant.as_many in
    omega (arith, c.self.inside.words.ok.0)

pub returns : goal.returns
returns c =
    let held = ap length (sym c.self.view_is) ∙ length-list_of c.self.inside.len c.self.inside.words.items in
    let long = c.self.invariant.as_many in
    rw (← c.self.view_is)
    (slice_get-list_of c.self.inside.len c.self.inside.words.items c.args.i (omega arith)
    ∙ ap (λ v. Some v) (holds_read c.self.inside.words.items c.args.i c.index.result.now (omega arith) c.index.ensures))
