use Rattle.std.proofs.Common.{◌≡◌, drop}
use Rattle.freq_lists.specs.Lists.{head}
use Rattle.cache_policy.specs.Ageing.{candidates_in}
use Rattle.cache_policy.proofs.order.first_from.Given as goal

abbrev pub invariant-loop-frequency : goal.invariant-loop-frequency
invariant-loop-frequency l = head (candidates_in (drop l.frequency l.lists.lists)) ≡ head (candidates_in (drop l.from l.lists.lists))
