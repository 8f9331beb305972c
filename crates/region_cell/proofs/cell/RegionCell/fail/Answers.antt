use Rattle.region_cell.proofs.Kept.{kept_fail}
use Rattle.region_cell.proofs.cell.RegionCell.fail.Goals as goal

pub invariant_of-self : goal.invariant_of-self
invariant_of-self g c = let i = c.self.invariant in rw c.fail.ensures (i.0, i.1, i.2, kept_fail _ _ _ i.3 c.args.gap)
