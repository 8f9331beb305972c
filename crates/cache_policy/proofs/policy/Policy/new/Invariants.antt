use Rattle.std.proofs.Common.{◌≡◌, ◌≤◌}
use Rattle.std.specs.Prelude.{vec_capacity}
use Rattle.std.specs.List.{range_with_len}
use Rattle.cache_policy.proofs.policy.Policy.new.Given as goal

abbrev pub invariant-loop-region : goal.invariant-loop-region
invariant-loop-region l = (l.free.items ≡ range_with_len 0 l.region) × (l.config.regions ≤ vec_capacity l.free)
