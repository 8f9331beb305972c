use Rattle.std.proofs.Common.{◌≡◌, ◌*◌, ◌≤◌, take, sum_by, count_ones}
use Rattle.doc_bits.proofs.words.count_rest.Given as goal

abbrev pub invariant-loop-word : goal.invariant-loop-word
invariant-loop-word l = (l.count ≡ sum_by count_ones (take l.word-index l.words)) × (l.count ≤ 64 * l.word-index)
