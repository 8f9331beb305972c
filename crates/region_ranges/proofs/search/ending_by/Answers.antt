use Rattle.std.proofs.Common.{arith, rules}
use Rattle.std.specs.Prelude.{nat_le}
use Rattle.std.proofs.lemmas.Bool.Decides.{nat_tests}
use Rattle.std.proofs.lemmas.List.Sorted.{IsPartitionPoint-from_clause, IsPartitionedBy-leb}
use Rattle.region_ranges.proofs.Points.{ends_rise}
use Rattle.region_ranges.proofs.search.ending_by.Goals as goal

pub returns-clause-point : goal.returns-clause-point
returns-clause-point c =
    let parted = IsPartitionedBy-leb (λ x. x.end) _ c.args.at (ends_rise 0 _ c.requires) in
    let point = IsPartitionPoint-from_clause (λ x. nat_le x.end c.args.at) _ _ c.partition_point.ensures.partitioned parted (λ a r q k. search rules) in
    (λ k d a h. grind (arith, nat_tests, point.0 k d a h), λ k d a h. grind (arith, nat_tests, point.1 k d a h))
