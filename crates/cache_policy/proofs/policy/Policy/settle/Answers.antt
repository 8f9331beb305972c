use Rattle.std.proofs.Common.{arith, ◌≡◌, refl}
use Rattle.freq_lists.specs.Lists.{without}
use Rattle.cache_policy.specs.Fields.{view_of}
use Rattle.std.proofs.Common.{rules}
use Rattle.std.proofs.lemmas.Fn.{filter_same}
use Rattle.cache_policy.proofs.Good.{room_settled, good_settle}
use Rattle.cache_policy.proofs.policy.Policy.settle.Goals as goal

pub unreachable-requires : goal.unreachable-requires
unreachable-requires c =
    let f = c.self.inside in
    let is = rw (← c.self.view_is) at c.requires in
    let room = room_settled (view_of f) c.self.invariant.good c.args.region is in
    let ok = rw c.in_default.is at (c.push.ensures.succeeds (omega (arith, room, c.self.invariant.free, f.free.ok.0))) in
    cc

pub invariant_of-self : goal.invariant_of-self
invariant_of-self c =
    let f = c.self.inside in
    let is = rw (← c.self.view_is) at c.requires in
    let kept : c.retain.new.self.items ≡ without c.args.region f.leaving.items = filter_same _ _ _ (λ x b f' k. search rules) _ _ c.retain.ensures.filtered in
    record {
      good = rw (c.in-Ok.ensures.items, kept) (good_settle (view_of f) c.self.invariant.good c.args.region is);
      nodes = c.self.invariant.nodes;
      count = c.self.invariant.count;
      free = omega (arith, c.in-Ok.ensures.capacity, c.self.invariant.free);
      leaving = omega (arith, c.retain.ensures.capacity, c.self.invariant.leaving);
      keys = c.self.invariant.keys;
    }

pub returns-clause-policy : goal.returns-clause-policy
returns-clause-policy c =
    let f = c.self.inside in
    let kept : c.retain.new.self.items ≡ without c.args.region f.leaving.items = filter_same _ _ _ (λ x b f' k. search rules) _ _ c.retain.ensures.filtered in
    rw (← c.self.view_is, c.in-Ok.ensures.items, kept) refl
