use Rattle.std.proofs.Common.{◌≡◌, ◌≤◌, ◌-◌, length, suc}
use Rattle.std.specs.Prelude.{slice_get, filter, take}
use Rattle.freq_lists.specs.Lists.{list_at}
use Rattle.cache_policy.specs.Steps.{lowering, goes_down}
use Rattle.cache_policy.proofs.lower.lower_list.Given as goal

abbrev pub invariant-loop-at : goal.invariant-loop-at
invariant-loop-at l =
    let old = l.fn.lists in
    (l.seen ≤ length (list_at (suc l.below) old.lists))
    × (length (list_at (suc l.below) old.lists) ≤ old.nodes)
    × (l.lowered ≡ length (filter (goes_down l.last_accesses l.min_delta l.now) (take l.seen (list_at (suc l.below) old.lists))))
    × (l.at ≡ slice_get (list_at (suc l.below) old.lists) l.seen)
    × (l.lists ≡ record old { lists = lowering (goes_down l.last_accesses l.min_delta l.now) l.below l.seen old.lists })
    × (l.lowered ≤ l.seen)

abbrev pub decreases-loop-at : goal.decreases-loop-at
decreases-loop-at l = length (list_at (suc l.below) l.fn.lists.lists) - l.seen
