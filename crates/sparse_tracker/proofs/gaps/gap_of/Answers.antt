use Rattle.std.specs.Prelude.{◌==◌}
use Rattle.sparse_tracker.proofs.Finds.{found_at}
use Rattle.sparse_tracker.proofs.gaps.gap_of.Goals as goal

pub returns : goal.returns
returns c = found_at (λ o. o.id == c.args.id) c.args.gaps.now c.find_gap.result _ c.find_gap.ensures.bound c.find_gap.ensures.place
