-- nobody holds any of the regions before this one
use Rattle.std.proofs.Common.{◌≡◌, drop}
use Rattle.freq_lists.specs.Lists.{head}
use Rattle.cache_door.specs.Machine.{unheld_by}
use Rattle.cache_door.proofs.choice.first_leaving.Given as goal

abbrev pub invariant-loop-at : goal.invariant-loop-at
invariant-loop-at l = head (unheld_by l.holds (drop l.at l.policy.leaving)) ≡ head (unheld_by l.holds l.policy.leaving)
