use Rattle.std.proofs.Common.{◌/◌, ◌<◌, length, sym, ap, ◌∙◌, arith, length-set}
use Rattle.std.proofs.lemmas.List.{get_or_read}
use Rattle.doc_bits.proofs.LayoutLemmas.{length-list_of, list_of_set, laid_out_set, holds_set_same, holds_set_other}
use Rattle.doc_bits.proofs.bits.DocBits.set.Goals as goal

pub index_mut-requires : goal.index_mut-requires
index_mut-requires c =
    let held = ap length (sym c.self.view_is) ∙ length-list_of c.self.inside.len c.self.inside.words.items in
    let long = c.self.invariant.as_many in
    omega (arith, c.self.inside.words.ok.0)

pub invariant_of-self : goal.invariant_of-self
invariant_of-self c =
    let words = c.self.inside.words.items in
    let held = ap length (sym c.self.view_is) ∙ length-list_of c.self.inside.len words in
    let long = c.self.invariant.as_many in
    let inside : c.args.i / 64 < length words = omega arith in
    let read = get_or_read words (c.args.i / 64) c.index_mut.result.now inside c.index_mut.ensures.value 0 in
    rw read
    (laid_out_set c.self.inside.len words _ c.args.i (omega arith) (length-set words _ _) c.self.invariant (holds_set_other words c.args.i inside))

pub returns : goal.returns
returns c =
    let words = c.self.inside.words.items in
    let held = ap length (sym c.self.view_is) ∙ length-list_of c.self.inside.len words in
    let long = c.self.invariant.as_many in
    let inside : c.args.i / 64 < length words = omega arith in
    let read = get_or_read words (c.args.i / 64) c.index_mut.result.now inside c.index_mut.ensures.value 0 in
    rw (read, ← c.self.view_is)
    (list_of_set c.self.inside.len words _ c.args.i (omega arith) (holds_set_same words c.args.i inside) (holds_set_other words c.args.i inside))
