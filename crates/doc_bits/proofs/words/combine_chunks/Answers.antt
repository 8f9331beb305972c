use Rattle.std.proofs.Common.{◌≡◌, ◌+◌, ◌*◌, ◌≤◌, [], length, get_or, refl, arith}
use Rattle.doc_bits.proofs.LaneLemmas.{chunk_first, chunk_others}
use Rattle.doc_bits.proofs.words.combine_chunks.Goals as goal

pub loop-c-preserved : goal.loop-c-preserved
loop-c-preserved g c =
    let op = g.O.Operation.of_words in
    let words = c.loop-c.words in
    let chunks = c.args.chunks.now in
    let i = c.loop-c.c in
    let same = c.loop-c.auto.words in
    let fits = c.requires in
    let room : 8 * i + 8 ≤ length words = omega arith in
    let eight : length (get_or chunks i []) ≡ 8 = c.told-chunks i c.loop-c-test.true in
    let made = c.lanes-lanes.ensures in (
      chunk_first op c.args.words.now words c.lanes-lanes.result (get_or chunks i []) chunks i room eight refl made c.loop-c.invariant.1 c.loop-c.invariant.0,
      chunk_others op c.args.words.now words c.lanes-lanes.result (get_or chunks i []) chunks i room eight refl made c.loop-c.invariant.1,
    )
