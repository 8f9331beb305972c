use Rattle.std.proofs.Common.{arith, ◌∙◌, None}
use Rattle.std.proofs.lemmas.List.{length-set}
use Rattle.cache_policy.specs.Fields.{view_of}
use Rattle.cache_policy.proofs.Good.{region_is, room_leaving, good_leave}
use Rattle.cache_policy.proofs.Tags.{set_at}
use Rattle.cache_policy.proofs.policy.Policy.leave.Goals as goal

pub unreachable-requires : goal.unreachable-requires
unreachable-requires c =
    let f = c.self.inside in
    let is = rw (← c.self.view_is) at c.requires in
    let room = room_leaving (view_of f) c.self.invariant.good c.args.region is in
    let ok = rw c.in_default.is at (c.push.ensures.succeeds (omega (arith, room, c.self.invariant.leaving, f.leaving.ok.0))) in
    cc

pub invariant_of-self : goal.invariant_of-self
invariant_of-self c =
    let f = c.self.inside in
    let is = rw (← c.self.view_is) at c.requires in
    record {
      good = rw (c.in-Ok.ensures.items, c.unlink.ensures.lists, c.forget_key.ensures.tags) (good_leave (view_of f) c.self.invariant.good c.args.region is);
      nodes = rw (c.unlink.ensures.lists, c.forget_key.ensures.tags, length-set f.tags.items c.args.region None) c.self.invariant.nodes;
      count = c.unlink.ensures.count ∙ c.self.invariant.count;
      leaving = rw (c.forget_key.ensures.tags, length-set f.tags.items c.args.region None) (omega (arith, c.in-Ok.ensures.capacity, c.self.invariant.leaving));
      free = rw (c.forget_key.ensures.tags, length-set f.tags.items c.args.region None) c.self.invariant.free;
      keys = c.forget_key.ensures.index;
    }

pub returns-clause-tags : goal.returns-clause-tags
returns-clause-tags c j =
    let f = c.self.inside in
    let is = rw (← c.self.view_is) at c.requires in
    rw (← c.self.view_is, c.forget_key.ensures.tags) (set_at f.tags.items c.args.region j None (region_is (view_of f) c.self.invariant.good c.args.region is))

pub returns-clause-count : goal.returns-clause-count
returns-clause-count c = rw (← c.self.view_is, c.forget_key.ensures.tags) (length-set c.self.inside.tags.items c.args.region None)

pub forget_key-requires-clause-apart : goal.forget_key-requires-clause-apart
forget_key-requires-clause-apart c = c.self.invariant.good.keys
