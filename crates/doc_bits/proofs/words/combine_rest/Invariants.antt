use Rattle.std.proofs.Common.{◌≡◌, ℕ, ◌+◌, ◌-◌, ◌<◌, ◌≤◌, slice_index}
use Rattle.doc_bits.proofs.words.combine_rest.Given as goal

abbrev pub invariant-loop-k : goal.invariant-loop-k
invariant-loop-k g l =
    ((j : ℕ) → l.from ≤ j → j < l.from + l.k → slice_index l.words j ≡ g.O.Operation.of_words (slice_index l.fn.words j) (slice_index l.others (j - l.from)))
    × ((j : ℕ) → j < l.from → slice_index l.words j ≡ slice_index l.fn.words j)
    × ((j : ℕ) → l.from + l.k ≤ j → slice_index l.words j ≡ slice_index l.fn.words j)
