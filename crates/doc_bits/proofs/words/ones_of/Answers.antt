use Rattle.std.proofs.Common.{count_ones, map, ◌∙◌, arith}
use Rattle.std.proofs.lemmas.List.{length-map}
use Rattle.doc_bits.proofs.LaneLemmas.{sum_l-ones, sum_by-ones-le}
use Rattle.doc_bits.proofs.words.ones_of.Goals as goal

pub returns-clause-eight : goal.returns-clause-eight
returns-clause-eight c = length-map (map count_ones c.args.words) (λ x. x) ∙ length-map c.args.words count_ones ∙ c.fits-words.0

pub returns-clause-bits : goal.returns-clause-bits
returns-clause-bits c = sum_l-ones c.args.words

pub returns-clause-few : goal.returns-clause-few
returns-clause-few c =
    let few = sum_by-ones-le c.args.words c.fits-words.1 in
    let eight = c.fits-words.0 in
    let bits = sum_l-ones c.args.words in
    omega arith
