use Rattle.std.proofs.Common.{◌∙◌}
use Rattle.doc_bits.proofs.Lists.{zip_with_second}
use Rattle.doc_bits.proofs.bits.DocBits.copy_from.Goals as goal

pub returns : goal.returns
returns c = c.combine.ensures.places ∙ zip_with_second c.args.self.now c.args.other.now c.requires
