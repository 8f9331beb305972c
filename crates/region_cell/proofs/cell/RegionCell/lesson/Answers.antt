use Rattle.region_cell.proofs.Statuses.{known}
use Rattle.region_cell.proofs.cell.RegionCell.lesson.Goals as goal

pub returns-clause-settled : goal.returns-clause-settled
returns-clause-settled g c = rw (← c.self.view_is) (λ n k e. (known _ _ n k c.self.invariant.3.ranged e).settled)
