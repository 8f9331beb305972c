use Rattle.std.proofs.Common.{arith}
use Rattle.cache_policy.specs.Fields.{view_of}
use Rattle.cache_policy.proofs.Good.{leaving_len}
use Rattle.cache_policy.proofs.policy.Policy.leaving_len.Goals as goal

pub overflow_cast-result : goal.overflow_cast-result
overflow_cast-result c =
    let f = c.self.inside in
    omega (arith, leaving_len (view_of f) c.self.invariant.good, c.self.invariant.good.few.1, f.leaving.ok.0)
