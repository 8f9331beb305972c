use Rattle.std.proofs.Common.{arith}
use Rattle.cache_policy.proofs.Tags.{at_read}
use Rattle.cache_policy.proofs.policy.Policy.has_key_of.Goals as goal

pub index-requires : goal.index-requires
index-requires c =
    let h = rw (← c.self.view_is) at c.requires in
    omega (arith, h, c.self.inside.tags.ok.0)

pub returns : goal.returns
returns c =
    let h = rw (← c.self.view_is) at c.requires in
    let t = c.index.result.now in
    rw (← c.self.view_is, at_read c.self.inside.tags.items c.args.region t h c.index.ensures) c.is_of.ensures
