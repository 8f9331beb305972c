use Rattle.std.proofs.Math.Nat.{mul-mod_left}
use Rattle.std.proofs.Common.{◌/◌}
use Rattle.region_ranges.proofs.ranges.aligned.Goals as goal

pub returns-clause-start : goal.returns-clause-start
returns-clause-start c = mul-mod_left (c.args.at / c.args.range) c.args.range
