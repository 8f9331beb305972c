use Rattle.std.proofs.Common.{◌+◌, ◌/◌, length, sum_by, count_ones, sym, ap, ap₂, ◌∙◌}
use Rattle.doc_bits.proofs.LaneLemmas.{sum-first_chunks}
use Rattle.doc_bits.proofs.PlaceLemmas.{length-places_of_words}
use Rattle.doc_bits.proofs.words.count_words.Goals as goal

pub returns : goal.returns
returns c =
    let words = c.args.words.now in
    let whole = c.count_chunks.ensures.bits ∙ ap (sum_by (sum_by count_ones)) c.as_chunks.ensures.front in
    let rest = c.count_rest.ensures.bits ∙ ap (sum_by count_ones) c.as_chunks.ensures.back in
    ap₂ ◌+◌ whole rest ∙ sum-first_chunks count_ones (length words / 8) words
    ∙ sym (length-places_of_words 0 words (λ k. (c.type_inv.words k).fits))
