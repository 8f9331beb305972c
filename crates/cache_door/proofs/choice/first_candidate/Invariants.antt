-- each candidate before this one is held
use Rattle.std.proofs.Common.{◌≡◌, length}
use Rattle.std.specs.Prelude.{IfSome, IsSome}
use Rattle.freq_lists.specs.Lists.{head}
use Rattle.cache_policy.specs.Policy.{tag_at}
use Rattle.cache_policy.specs.Ageing.{candidates}
use Rattle.cache_door.specs.Machine.{unheld_by}
use Rattle.cache_door.specs.Choices.{left_from}
use Rattle.cache_door.proofs.choice.first_candidate.Given as goal

abbrev pub invariant-loop-at : goal.invariant-loop-at
invariant-loop-at l = (head (unheld_by l.holds (left_from l.at (candidates l.policy))) ≡ head (unheld_by l.holds (candidates l.policy))) × IfSome l.at (λ r. IsSome (tag_at l.policy r))

abbrev pub decreases-loop-at : goal.decreases-loop-at
decreases-loop-at l = length (left_from l.at (candidates l.policy))
