use Rattle.std.proofs.Common.{rules, arith, ◌≡◌, ◌≤◌, ◌∙◌, sym, ap, ℕ, List, [], length, Option, None}
use Rattle.std.specs.Prelude.{replicate, vec_capacity}
use Rattle.std.specs.List.{range_with_len}
use Rattle.freq_lists.specs.Lists.{ListsView}
use Rattle.std.proofs.lemmas.List.{length-replicate}
use Rattle.cache_policy.proofs.Good.{good_made}
use Rattle.cache_policy.proofs.Places.{range_push}
use Rattle.cache_policy.proofs.Keyed.{index_new}
use Rattle.cache_policy.proofs.policy.Policy.new.Goals as goal

pub invariant_of-result : goal.invariant_of-result
invariant_of-result c =
    let f = c.args.config.now in
    let end : c.loop-region.region ≡ f.regions = omega arith in
    let lists = c.in_ok-new.field-0 in
    let made : lists ≡ record { nodes = f.regions; lists = replicate f.max_freq [] } = c.in_ok-new.ensures in
    let tags = c.in_ok-vec.field-0.items in
    let none : tags ≡ replicate f.regions None = c.in_ok-vec.ensures.items_if_clones_equal (λ y h. search rules) in
    let zeros : c.in_ok-vec-2.field-0.items ≡ replicate f.regions 0 = c.in_ok-vec-2.ensures.items_if_clones_equal (λ y h. search rules) in
    let len : length tags ≡ f.regions = ap (λ (ts : List (Option ℕ)). length ts) none ∙ length-replicate {A = Option ℕ} f.regions None in
    let free : c.loop-region.free.items ≡ range_with_len 0 f.regions = c.loop-region.invariant.0 ∙ ap (λ (n : ℕ). range_with_len 0 n) end in
    let room : length tags ≤ vec_capacity c.loop-region.free = omega (arith, len, c.loop-region.invariant.1) in
    let rest : length tags ≤ vec_capacity c.in_ok-with_capacity.field-0 = omega (arith, len, c.in_ok-with_capacity.ensures.capacity) in
    record {
      good = good_made f.regions f.max_freq f.min_delta (omega arith) (omega arith) (omega arith) (omega arith) c.loop-region.free.items c.in_ok-with_capacity.field-0.items c.in_ok-vec-2.field-0.items lists.lists tags
          free (ap (λ (v : ListsView). v.lists) made) none zeros c.in_ok-with_capacity.ensures.items;
      nodes = ap (λ (v : ListsView). v.nodes) made ∙ sym len;
      count = ap (λ (v : ListsView). length v.lists) made ∙ length-replicate {A = List ℕ} f.max_freq [];
      free = room;
      leaving = rest;
      keys = index_new c.in_ok-new-2.field-0 f.regions tags none c.in_ok-new-2.ensures.empty c.in_ok-new-2.ensures.len c.in_ok-new-2.ensures.most;
    }

pub loop-region-preserved : goal.loop-region-preserved
loop-region-preserved c =
    (rw (c.in_ok-push.ensures.items, c.loop-region.invariant.0) (range_push c.loop-region.region), omega (arith, c.in_ok-push.ensures.capacity, c.loop-region.invariant.1))
