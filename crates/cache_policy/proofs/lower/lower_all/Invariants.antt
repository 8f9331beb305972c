use Rattle.std.proofs.Common.{◌≡◌, ◌<◌, length}
use Rattle.cache_policy.specs.Policy.{rise}
use Rattle.cache_policy.specs.Ageing.{lower}
use Rattle.cache_policy.specs.Steps.{goes_down, lower_from, count_from}
use Rattle.cache_policy.proofs.lower.lower_all.Given as goal

abbrev pub invariant-loop-below : goal.invariant-loop-below
invariant-loop-below l =
    let goes = goes_down l.last_accesses l.min_delta l.now in
    (lower_from goes l.below l.lists.lists ≡ lower goes l.fn.lists.lists)
    × (length l.lists.lists ≡ length l.fn.lists.lists)
    × (l.lists.nodes ≡ l.fn.lists.nodes)
    × (rise l.counter (count_from goes l.below l.lists.lists) ≡ rise l.demotions (count_from goes 0 l.fn.lists.lists))
    × (l.counter < 18446744073709551616)
