use Rattle.std.proofs.Common.{◌≡◌, ◌+◌, ◌≤◌, drop}
use Rattle.std.specs.Prelude.{map}
use Rattle.sparse_tracker.specs.Kept.{count_below}
use Rattle.sparse_tracker.proofs.unused.count_below.Given as goal

abbrev pub invariant-loop-item : goal.invariant-loop-item
invariant-loop-item g l =
    (l.count + count_below l.limit (map g.T.Numbered.number (drop l.item-index l.items)) ≡ count_below l.limit (map g.T.Numbered.number l.items))
    × (l.count ≤ l.item-index)
