use Rattle.std.proofs.Common.{◌∙◌}
use Rattle.doc_bits.proofs.BitLemmas.{combined}
use Rattle.doc_bits.proofs.LaneLemmas.{combined_parts}
use Rattle.doc_bits.proofs.words.combine_words.Goals as goal

pub returns : goal.returns
returns g c =
    let split = c.as_chunks.ensures in
    combined g.O.Operation.of_words g.O.Operation.test g.met.O.Operation.none g.met.O.Operation.bitwise c.args.words.now c.args.others.now c.combine_rest.new.words
    c.requires (c.combine_rest.auto.words ∙ c.combine_chunks.auto.words) (λ k. (c.type_inv.others k).fits)
    (combined_parts g.O.Operation.of_words c.args.words.now c.args.others.now c.combine_chunks.new.words c.combine_rest.new.words c.as_chunks.result.0.now c.as_chunks.result.1.now
    c.requires split.front split.front_len split.back split.back_len c.combine_chunks.ensures.first c.combine_chunks.ensures.others c.combine_rest.ensures.rest c.combine_rest.ensures.others)
