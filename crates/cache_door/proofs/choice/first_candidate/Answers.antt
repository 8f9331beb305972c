use Rattle.std.proofs.Common.{sym, ◌∙◌}
use Rattle.cache_door.proofs.Walks.{candidate_held, candidate_unheld, candidate_left}
use Rattle.cache_door.proofs.choice.first_candidate.Goals as goal

pub returns-then-not-is_held-clause-first : goal.returns-then-not-is_held-clause-first
returns-then-not-is_held-clause-first c =
    sym (candidate_unheld c.args.holds.now c.args.policy.now c.lesson.ensures.good c.loop-at.at c.in-Some.region c.in-Some.is (rw c.in-Some.is at c.loop-at.invariant.1) (sym c.is_held.ensures ∙ c.if-not-is_held.true)) ∙ c.loop-at.invariant.0

pub loop-at-smaller : goal.loop-at-smaller
loop-at-smaller c =
    rw c.next_candidate-at-in-Some.ensures.rule (candidate_left c.args.holds.now c.args.policy.now c.lesson.ensures.good c.loop-at.at c.in-Some.region c.in-Some.is (rw c.in-Some.is at c.loop-at.invariant.1))

pub loop-at-preserved : goal.loop-at-preserved
loop-at-preserved c =
    let h = candidate_held c.args.holds.now c.args.policy.now c.lesson.ensures.good c.loop-at.at c.in-Some.region c.in-Some.is (rw c.in-Some.is at c.loop-at.invariant.1) (sym c.is_held.ensures ∙ c.if-not-is_held.false) in
    (rw c.next_candidate-at-in-Some.ensures.rule (sym h ∙ c.loop-at.invariant.0), c.next_candidate-at-in-Some.ensures.mapped)
