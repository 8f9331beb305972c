-- what is left to settle gives what the whole does
use Rattle.std.proofs.Common.{◌≡◌, ◌≤◌, ◌-◌, drop, length}
use Rattle.cache_policy.specs.Policy.{settle_all}
use Rattle.cache_door.specs.Machine.{unheld_by}
use Rattle.cache_door.proofs.choice.settle.Given as goal

abbrev pub invariant-loop-at : goal.invariant-loop-at
invariant-loop-at l = (l.at ≤ length l.policy.leaving) × (settle_all (unheld_by l.holds (drop l.at l.policy.leaving)) l.policy ≡ settle_all (unheld_by l.holds l.initial.policy.leaving) l.initial.policy)

abbrev pub decreases-loop-at : goal.decreases-loop-at
decreases-loop-at l = length l.policy.leaving - l.at
