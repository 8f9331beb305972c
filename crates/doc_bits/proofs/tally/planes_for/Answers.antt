use Rattle.std.proofs.Common.{◌≡◌, ◌-◌, arith}
use Rattle.std.specs.Int.Count.{count_leading_zeros}
use Rattle.std.proofs.lemmas.Nat.{leading_length}
use Rattle.doc_bits.proofs.tally.planes_for.Goals as goal

pub returns-clause-enough : goal.returns-clause-enough
returns-clause-enough c =
    let digits = leading_length 32 c.args.most c.ranges.most.fits in
    let same : 32 - count_leading_zeros 32 c.args.most ≡ digits.0 = omega (arith, digits.1) in
    rw same digits.2
