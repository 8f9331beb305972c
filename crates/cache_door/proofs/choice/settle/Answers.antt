use Rattle.std.proofs.Common.{arith, sym, ◌∙◌, ap, List, ℕ}
use Rattle.cache_policy.specs.Policy.{settle_all}
use Rattle.cache_door.proofs.Walks.{pass_held, taken_out, at_times, once_leaving, settle_step}
use Rattle.cache_door.proofs.choice.settle.Goals as goal

pub loop-at-preserved-then-is_held : goal.loop-at-preserved-then-is_held
loop-at-preserved-then-is_held c =
    let e = pass_held c.args.holds.now c.loop-at.at c.leaving_at-region.result c.loop-at.policy.leaving (omega arith) c.leaving_at-region.ensures (sym c.is_held.ensures ∙ c.if-is_held.true) in
    (omega arith, sym (ap (λ (l : List ℕ). settle_all l c.loop-at.policy) e) ∙ c.loop-at.invariant.1)

pub settle-requires : goal.settle-requires
settle-requires c = at_times c.leaving_at-region.result c.loop-at.at c.loop-at.policy.leaving (omega arith) (sym c.leaving_at-region.ensures)

pub loop-at-smaller : goal.loop-at-smaller
loop-at-smaller c =
    let t = taken_out c.leaving_at-region.result c.loop-at.at c.loop-at.policy.leaving (omega arith) (sym c.leaving_at-region.ensures) (once_leaving c.loop-at.policy c.leaving_at-region.result c.lesson.ensures.good) in
    rw c.settle.ensures.policy (omega (arith, t.1))

pub loop-at-preserved : goal.loop-at-preserved
loop-at-preserved c =
    let t = taken_out c.leaving_at-region.result c.loop-at.at c.loop-at.policy.leaving (omega arith) (sym c.leaving_at-region.ensures) (once_leaving c.loop-at.policy c.leaving_at-region.result c.lesson.ensures.good) in
    rw c.settle.ensures.policy (omega (arith, t.1), settle_step c.args.holds.now c.loop-at.at c.leaving_at-region.result c.loop-at.policy c.lesson.ensures.good (omega arith) c.leaving_at-region.ensures (sym c.is_held.ensures ∙ c.if-is_held.false) ∙ c.loop-at.invariant.1)
