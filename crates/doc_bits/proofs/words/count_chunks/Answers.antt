use Rattle.std.proofs.Common.{◌≡◌, ◌+◌, w64, [], sum_by, count_ones, sym, ap, ◌∙◌, arith}
use Rattle.std.specs.Simd.Lanes.{sum_l}
use Rattle.std.proofs.lemmas.List.{take_all}
use Rattle.std.proofs.lemmas.List.Sums.{sum_by_more}
use Rattle.std.proofs.lemmas.Simd.{adds_fit, sum_fits, fold-sum, sum-zip2, length-zip2}
use Rattle.doc_bits.proofs.words.count_chunks.Goals as goal

pub overflow_add-counts : goal.overflow_add-counts
overflow_add-counts c =
    let counts = c.loop-chunk.counts in
    let more = c.ones_of-counts.ensures in
    let so_far = c.loop-chunk.invariant.2 in
    adds_fit w64 counts c.ones_of-counts.result (omega (arith, more.few))

pub loop-chunk-preserved : goal.loop-chunk-preserved
loop-chunk-preserved c =
    let counts = c.loop-chunk.counts in
    let more = c.ones_of-counts.ensures in
    let so_far = c.loop-chunk.invariant in
    let same = so_far.0 ∙ sym more.eight in
    let sum = sum-zip2 counts c.ones_of-counts.result same in
    let next = sum_by_more (sum_by count_ones) c.args.chunks.now c.loop-chunk.chunk-index [] c.loop-chunk-test.true in (
      length-zip2 _ counts c.ones_of-counts.result same ∙ so_far.0,
      omega (arith, so_far.1, more.bits),
      omega (arith, so_far.2, more.few),
    )

pub overflow_add-result : goal.overflow_add-result
overflow_add-result c = let few = c.loop-chunk.invariant.2 in sum_fits w64 0 c.loop-chunk.counts (omega arith)

pub returns-clause-bits : goal.returns-clause-bits
returns-clause-bits c =
    let whole : 0 + sum_l c.loop-chunk.counts ≡ sum_l c.loop-chunk.counts = omega arith in
    fold-sum 0 c.loop-chunk.counts ∙ whole ∙ c.loop-chunk.invariant.1
    ∙ ap (sum_by (sum_by count_ones)) (take_all c.loop-chunk.chunk-index c.args.chunks.now c.loop-chunk-test.false)

pub returns-clause-few : goal.returns-clause-few
returns-clause-few c = let few = c.loop-chunk.invariant.2 in omega (arith, fold-sum 0 c.loop-chunk.counts)
