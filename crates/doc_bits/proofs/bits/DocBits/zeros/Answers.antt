use Rattle.std.proofs.Common.{◌≡◌, ℕ, ◌+◌, ◌/◌, false, replicate}
use Rattle.std.proofs.lemmas.List.{length-replicate}
use Rattle.doc_bits.proofs.LayoutLemmas.{holds_zeros, list_of_replicate}
use Rattle.doc_bits.proofs.bits.DocBits.zeros.Goals as goal

pub invariant_of-result : goal.invariant_of-result
invariant_of-result c =
    let items : c.in_ok-words.words.items ≡ replicate ((c.args.n + 63) / 64) 0 = c.in_ok-words.ensures.items_if_clones_equal (λ y h. h) in
    rw items record {
      countable = c.ranges.n.fits;
      as_many = length-replicate {A = ℕ} ((c.args.n + 63) / 64) 0;
      clear_past = λ i past. holds_zeros ((c.args.n + 63) / 64) i;
    }

pub returns : goal.returns
returns c =
    let items : c.in_ok-words.words.items ≡ replicate ((c.args.n + 63) / 64) 0 = c.in_ok-words.ensures.items_if_clones_equal (λ y h. h) in
    list_of_replicate false c.args.n c.in_ok-words.words.items (λ i within. rw items (holds_zeros ((c.args.n + 63) / 64) i))
