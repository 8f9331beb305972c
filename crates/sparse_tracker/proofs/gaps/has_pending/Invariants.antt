use Rattle.std.proofs.Common.{◌≡◌, drop}
use Rattle.std.specs.List.{list_any}
use Rattle.sparse_tracker.specs.Kept.{meets}
use Rattle.sparse_tracker.proofs.gaps.has_pending.Given as goal

abbrev pub invariant-loop-gap : goal.invariant-loop-gap
invariant-loop-gap l = list_any (meets l.sub) (drop l.gap-index l.gaps) ≡ list_any (meets l.sub) l.gaps
