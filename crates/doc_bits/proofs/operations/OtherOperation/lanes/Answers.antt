use Rattle.std.proofs.Common.{sym, ◌∙◌}
use Rattle.doc_bits.proofs.LaneLemmas.{zip2_second}
use Rattle.doc_bits.proofs.operations.OtherOperation.lanes.Goals as goal

pub returns : goal.returns
returns c = sym (zip2_second c.args._words c.args.others (c.fits-_words.0 ∙ sym c.fits-others.0))
