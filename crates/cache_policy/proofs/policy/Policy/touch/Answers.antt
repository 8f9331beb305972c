use Rattle.std.proofs.Common.{arith, ◌<◌, ◌+◌, ◌∙◌, length}
use Rattle.cache_policy.specs.Fields.{view_of}
use Rattle.cache_policy.proofs.Good.{good_raise}
use Rattle.cache_policy.proofs.policy.Policy.touch.Goals as goal
use Rattle.freq_lists.proofs.Counts.{times_unlink}

pub push_back-requires-clause-free : goal.push_back-requires-clause-free
push_back-requires-clause-free c = rw c.unlink.ensures.lists (times_unlink c.args.region c.self.inside.lists.lists)

pub invariant_of-self : goal.invariant_of-self
invariant_of-self c =
    let f = c.self.inside in
    let is = rw (← c.self.view_is) at c.requires in
    let k = c.in-Some.frequency + 1 in
    let below : k < length f.lists.lists = omega arith in
    record {
      good = rw (c.push_back.ensures.lists, c.unlink.ensures.lists) (good_raise (view_of f) c.self.invariant.good c.args.region is k c.args.now c.saturating_add-self-inside.result below);
      nodes = rw (c.push_back.ensures.lists, c.unlink.ensures.lists) c.self.invariant.nodes;
      count = c.push_back.ensures.count ∙ c.unlink.ensures.count ∙ c.self.invariant.count;
      free = c.self.invariant.free;
      leaving = c.self.invariant.leaving;
      keys = c.self.invariant.keys;
    }
