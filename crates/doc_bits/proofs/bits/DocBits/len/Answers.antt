use Rattle.std.proofs.Common.{length, sym, ap, ◌∙◌}
use Rattle.doc_bits.proofs.LayoutLemmas.{length-list_of}
use Rattle.doc_bits.proofs.bits.DocBits.len.Goals as goal

pub returns : goal.returns
returns c = sym (ap length (sym c.self.view_is) ∙ length-list_of _ _)
