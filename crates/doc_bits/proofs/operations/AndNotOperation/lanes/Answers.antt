use Rattle.std.proofs.Common.{bit_and, w64}
use Rattle.std.specs.Int.{bit_not}
use Rattle.doc_bits.proofs.LaneLemmas.{zip2-map_right}
use Rattle.doc_bits.proofs.operations.AndNotOperation.lanes.Goals as goal

pub returns : goal.returns
returns c = zip2-map_right bit_and (bit_not w64) c.args.words c.args.others
