use Rattle.std.proofs.Common.{◌≡◌, length, drop}
use Rattle.cache_policy.specs.Policy.{is_of, regions_from, leave_all, clear}
use Rattle.cache_policy.proofs.policy.Policy.clear.Given as goal

abbrev pub invariant-loop-region : goal.invariant-loop-region
invariant-loop-region l =
    (leave_all (regions_from l.region (is_of l.manifest) (drop l.region l.self.tags)) l.self ≡ clear l.manifest l.fn.self)
    × (length l.self.tags ≡ length l.fn.self.tags)
