use Rattle.region_cell.proofs.Kept.{kept_leave}
use Rattle.region_cell.proofs.cell.RegionCell.leave.Goals as goal

pub invariant_of-self : goal.invariant_of-self
invariant_of-self g c = let i = c.self.invariant in rw c.leave.ensures (i.0, i.1, i.2, kept_leave _ _ _ i.3 c.args.ticket)
