use Rattle.std.proofs.Common.{◌≡◌, ℕ, Bool, refl}
use Rattle.cache_policy.specs.Fields.{view_of}
use Rattle.cache_policy.specs.Ageing.{lower}
use Rattle.cache_policy.specs.Policy.{rise}
use Rattle.cache_policy.specs.Steps.{goes_down, count_from}
use Rattle.cache_policy.proofs.Good.{good_lower}
use Rattle.cache_policy.proofs.Places.{length_lower}
use Rattle.cache_policy.proofs.policy.Policy.decay.Goals as goal

pub invariant_of-self : goal.invariant_of-self
invariant_of-self c =
    let f = c.self.inside in
    let goes : ℕ → Bool = goes_down f.last_accesses.items f.min_delta c.args.now in
    let lists : c.lower_all-self-inside.new.lists ≡ record f.lists { lists = lower goes f.lists.lists } = rw c.deref.ensures.value at c.lower_all-self-inside.ensures.lists in
    record {
      good = rw lists (good_lower (view_of f) c.self.invariant.good goes c.lower_all-self-inside.result);
      nodes = rw lists c.self.invariant.nodes;
      count = rw (lists, length_lower goes f.lists.lists) c.self.invariant.count;
      free = c.self.invariant.free;
      leaving = c.self.invariant.leaving;
      keys = c.self.invariant.keys;
    }

pub returns-clause-policy : goal.returns-clause-policy
returns-clause-policy c =
    let f = c.self.inside in
    let goes : ℕ → Bool = goes_down f.last_accesses.items f.min_delta c.args.now in
    let lists : c.lower_all-self-inside.new.lists ≡ record f.lists { lists = lower goes f.lists.lists } = rw c.deref.ensures.value at c.lower_all-self-inside.ensures.lists in
    let counter : c.lower_all-self-inside.result ≡ rise f.demotions (count_from goes 0 f.lists.lists) = rw c.deref.ensures.value at c.lower_all-self-inside.ensures.counter in
    rw (← c.self.view_is, lists, counter) refl
