use Rattle.std.proofs.Common.{arith}
use Rattle.doc_bits.proofs.BitLemmas.{holds_none}
use Rattle.doc_bits.proofs.words.clear_words.Goals as goal

pub returns : goal.returns
returns c = holds_none c.loop-k.words (λ k within. c.loop-k.invariant k (let same = c.loop-k.auto.words in omega arith))
