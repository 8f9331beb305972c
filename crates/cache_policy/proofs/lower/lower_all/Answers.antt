use Rattle.std.proofs.Common.{arith, ◌≡◌, ◌<◌, ◌≤◌, ◌+◌, ◌∙◌, sym, ap, ℕ, suc, Bool, length, refl, add-one}
use Rattle.std.specs.Prelude.{filter, min}
use Rattle.freq_lists.specs.Lists.{list_at}
use Rattle.cache_policy.specs.Ageing.{lower}
use Rattle.cache_policy.specs.Steps.{goes_down, lowering, count_from}
use Rattle.cache_policy.proofs.Lowered.{step, done, begin, count_step, count_done, rise_more, rise_none}
use Rattle.cache_policy.proofs.Lowers.{length-lowering}
use Rattle.cache_policy.proofs.Mapped.{views_same}
use Rattle.cache_policy.proofs.lower.lower_all.Goals as goal

pub loop-below-init : goal.loop-below-init
loop-below-init c =
    let goes : ℕ → Bool = goes_down c.args.last_accesses.now c.args.min_delta c.args.now in
    (begin goes c.args.lists.now.lists, refl, refl, refl, omega arith)

pub loop-below-preserved : goal.loop-below-preserved
loop-below-preserved c =
    let goes : ℕ → Bool = goes_down c.args.last_accesses.now c.args.min_delta c.args.now in
    let old = c.loop-below.lists in
    let k = c.loop-below.below in
    let n = length (list_at (suc k) old.lists) in
    let h : suc k < length old.lists = omega (arith, c.loop-below.invariant.1) in
    let call = c.lower_list-lowered.ensures in
    let m = length (filter goes (list_at (suc k) old.lists)) in
    let rest = count_from goes (suc k) (lowering goes k n old.lists) in
    let counted : count_from goes k old.lists ≡ m + rest = count_step goes k n old.lists h in
    let risen : min (min (c.loop-below.counter + m) 18446744073709551615 + rest) 18446744073709551615 ≡ min (c.loop-below.counter + count_from goes k old.lists) 18446744073709551615
    = rise_more c.loop-below.counter m rest ∙ ap (λ (x : ℕ). min (c.loop-below.counter + x) 18446744073709551615) (sym counted) in (
      rw (call.lists, add-one k, step goes k old.lists h) c.loop-below.invariant.0,
      rw (call.lists, length-lowering goes k n old.lists) c.loop-below.invariant.1,
      rw call.lists c.loop-below.invariant.2,
      rw (c.saturating_add-counter.ensures, call.count, call.lists, add-one k) (risen ∙ c.loop-below.invariant.3),
      c.saturating_add-counter.type_inv,
    )

pub returns-clause-lists : goal.returns-clause-lists
returns-clause-lists c =
    let goes : ℕ → Bool = goes_down c.args.last_accesses.now c.args.min_delta c.args.now in
    let now = c.loop-below.lists in
    let last : length now.lists ≤ suc c.loop-below.below = omega (arith, c.loop-below.invariant.1) in
    views_same now c.args.lists.now.nodes (lower goes c.args.lists.now.lists) c.loop-below.invariant.2 (sym (done goes c.loop-below.below now.lists last) ∙ c.loop-below.invariant.0)

pub returns-clause-counter : goal.returns-clause-counter
returns-clause-counter c =
    let goes : ℕ → Bool = goes_down c.args.last_accesses.now c.args.min_delta c.args.now in
    let now = c.loop-below.lists in
    let last : length now.lists ≤ suc c.loop-below.below = omega (arith, c.loop-below.invariant.1) in
    let counted = rw (count_done goes c.loop-below.below now.lists last) at c.loop-below.invariant.3 in
    sym (rise_none c.loop-below.counter c.loop-below.invariant.4) ∙ counted
