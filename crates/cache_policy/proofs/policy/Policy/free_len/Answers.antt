use Rattle.std.proofs.Common.{arith}
use Rattle.cache_policy.specs.Fields.{view_of}
use Rattle.cache_policy.proofs.Good.{free_len}
use Rattle.cache_policy.proofs.policy.Policy.free_len.Goals as goal

pub overflow_cast-result : goal.overflow_cast-result
overflow_cast-result c =
    let f = c.self.inside in
    omega (arith, free_len (view_of f) c.self.invariant.good, c.self.invariant.good.few.1, f.free.ok.0)
