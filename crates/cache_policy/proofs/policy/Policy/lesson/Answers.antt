use Rattle.std.proofs.Common.{arith}
use Rattle.cache_policy.specs.Policy.{tag_at}
use Rattle.cache_policy.specs.Fields.{view_of}
use Rattle.cache_policy.proofs.Places.{candidate_times}
use Rattle.cache_policy.proofs.Tags.{some_is}
use Rattle.cache_policy.proofs.policy.Policy.lesson.Goals as goal

pub returns-clause-candidates : goal.returns-clause-candidates
returns-clause-candidates c r h =
    let f = c.self.inside in
    let t = rw (← c.self.view_is, candidate_times r f.lists.lists) at h in
    rw (← c.self.view_is) (some_is (tag_at (view_of f) r) (omega (arith, t, c.self.invariant.good.mapped r)))

pub returns-clause-listed : goal.returns-clause-listed
returns-clause-listed c r = rw (← c.self.view_is) (candidate_times r c.self.inside.lists.lists)
