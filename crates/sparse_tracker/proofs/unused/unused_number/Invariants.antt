use Rattle.std.proofs.Common.{◌-◌, ◌+◌, ◌≤◌, length}
use Rattle.std.specs.Prelude.{map}
use Rattle.sparse_tracker.specs.Kept.{count_below}
use Rattle.sparse_tracker.proofs.unused.unused_number.Given as goal

abbrev pub decreases-loop-low : goal.decreases-loop-low
decreases-loop-low g l = l.high - l.low

abbrev pub invariant-loop-low : goal.invariant-loop-low
invariant-loop-low g l =
    (l.low ≤ count_below l.low (map g.T.Numbered.number l.items))
    × (count_below (l.high + 1) (map g.T.Numbered.number l.items) ≤ l.high)
    × (l.low ≤ l.high) × (l.high ≤ length l.items)
