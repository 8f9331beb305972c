use Rattle.std.proofs.Common.{arith, ◌∙◌, Some}
use Rattle.std.proofs.lemmas.List.{length-set}
use Rattle.cache_policy.specs.Fields.{view_of}
use Rattle.region_ranges.specs.Keys.{tag_of}
use Rattle.cache_policy.proofs.Good.{front_region, good_map}
use Rattle.cache_policy.proofs.Tags.{set_at}
use Rattle.cache_policy.proofs.policy.Policy.map.Goals as goal

pub push_back-requires-clause-node : goal.push_back-requires-clause-node
push_back-requires-clause-node c =
    let front = rw (← c.self.view_is) at c.requires.front in
    omega (arith, front_region (view_of c.self.inside) c.self.invariant.good c.args.region (tag_of c.args.key) front, c.self.invariant.nodes)

pub give_key-requires-clause-region : goal.give_key-requires-clause-region
give_key-requires-clause-region c =
    let front = rw (← c.self.view_is) at c.requires.front in
    front_region (view_of c.self.inside) c.self.invariant.good c.args.region (tag_of c.args.key) front

pub index_mut-requires : goal.index_mut-requires
index_mut-requires c =
    let front = rw (← c.self.view_is) at c.requires.front in
    omega (arith, front_region (view_of c.self.inside) c.self.invariant.good c.args.region (tag_of c.args.key) front, c.self.invariant.good.last_accesses, c.self.inside.last_accesses.ok.0)

pub invariant_of-self : goal.invariant_of-self
invariant_of-self c =
    let f = c.self.inside in
    let front = rw (← c.self.view_is) at c.requires.front in
    let new = rw (← c.self.view_is) at c.requires.new in
    record {
      good = rw (c.remove.ensures.by_index.2, c.push_back.ensures.lists, c.give_key.ensures.tags, c.pack.ensures.value) (good_map (view_of f) c.self.invariant.good c.args.region (tag_of c.args.key) front c.args.now new);
      nodes = rw (c.push_back.ensures.lists, c.give_key.ensures.tags, length-set f.tags.items c.args.region (Some c.pack.result)) c.self.invariant.nodes;
      count = c.push_back.ensures.count ∙ c.self.invariant.count;
      free = rw (c.give_key.ensures.tags, length-set f.tags.items c.args.region (Some c.pack.result)) (omega (arith, c.remove.ensures.capacity, c.self.invariant.free));
      leaving = rw (c.give_key.ensures.tags, length-set f.tags.items c.args.region (Some c.pack.result)) c.self.invariant.leaving;
      keys = c.give_key.ensures.index;
    }

pub returns-clause-tags : goal.returns-clause-tags
returns-clause-tags c j =
    let f = c.self.inside in
    let front = rw (← c.self.view_is) at c.requires.front in
    rw (← c.self.view_is, c.give_key.ensures.tags, c.pack.ensures.value) (set_at f.tags.items c.args.region j (Some (tag_of c.args.key)) (front_region (view_of f) c.self.invariant.good c.args.region (tag_of c.args.key) front))

pub returns-clause-count : goal.returns-clause-count
returns-clause-count c = rw (← c.self.view_is, c.give_key.ensures.tags) (length-set c.self.inside.tags.items c.args.region (Some c.pack.result))
