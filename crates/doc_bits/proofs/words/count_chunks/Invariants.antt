use Rattle.std.proofs.Common.{◌≡◌, ◌*◌, ◌≤◌, length, take, sum_by, count_ones}
use Rattle.std.specs.Simd.Lanes.{sum_l}
use Rattle.doc_bits.proofs.words.count_chunks.Given as goal

abbrev pub invariant-loop-chunk : goal.invariant-loop-chunk
invariant-loop-chunk l =
    (length l.counts ≡ 8) × (sum_l l.counts ≡ sum_by (sum_by count_ones) (take l.chunk-index l.chunks)) × (sum_l l.counts ≤ 512 * l.chunk-index)
