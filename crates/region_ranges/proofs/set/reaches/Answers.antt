use Rattle.std.proofs.Common.{arith}
use Rattle.std.proofs.lemmas.Bool.Decides.{nat_tests}
use Rattle.region_ranges.proofs.Points.{covered, missed}
use Rattle.region_ranges.proofs.set.reaches.Goals as goal

pub returns-clause-yes : goal.returns-clause-yes
returns-clause-yes c h =
    covered c.args.ranges.now c.args.r c.starting_by-next.result c.end_of.result c.requires.sorted c.requires.some c.starting_by-next.ensures.bound c.starting_by-next.ensures.point c.end_of.ensures.none c.end_of.ensures.some (grind (arith, nat_tests, h))

pub returns-clause-no : goal.returns-clause-no
returns-clause-no c h =
    missed c.args.ranges.now c.args.r c.starting_by-next.result c.end_of.result c.requires.sorted c.requires.some c.starting_by-next.ensures.bound c.starting_by-next.ensures.point c.end_of.ensures.none c.end_of.ensures.some (grind (arith, nat_tests, h))
