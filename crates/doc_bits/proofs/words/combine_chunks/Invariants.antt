use Rattle.std.proofs.Common.{◌≡◌, ℕ, ◌*◌, ◌<◌, ◌≤◌, slice_index}
use Rattle.doc_bits.specs.Words.{word_of}
use Rattle.doc_bits.proofs.words.combine_chunks.Given as goal

abbrev pub invariant-loop-c : goal.invariant-loop-c
invariant-loop-c g l =
    ((k : ℕ) → k < 8 * l.c → slice_index l.words k ≡ g.O.Operation.of_words (slice_index l.fn.words k) (word_of l.chunks k))
    × ((k : ℕ) → 8 * l.c ≤ k → slice_index l.words k ≡ slice_index l.fn.words k)
