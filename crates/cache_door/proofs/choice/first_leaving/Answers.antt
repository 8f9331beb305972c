use Rattle.std.proofs.Common.{arith, sym, ◌∙◌, ap}
use Rattle.freq_lists.specs.Lists.{head}
use Rattle.cache_door.proofs.Walks.{pass_held, meet_unheld}
use Rattle.cache_door.proofs.choice.first_leaving.Goals as goal

pub returns-then-not-is_held : goal.returns-then-not-is_held
returns-then-not-is_held c =
    sym (ap head (meet_unheld c.args.holds.now c.loop-at.at c.leaving_at-region.result c.args.policy.now.leaving (omega arith) c.leaving_at-region.ensures (sym c.is_held.ensures ∙ c.if-not-is_held.true))) ∙ c.loop-at.invariant

pub loop-at-preserved : goal.loop-at-preserved
loop-at-preserved c =
    sym (ap head (pass_held c.args.holds.now c.loop-at.at c.leaving_at-region.result c.args.policy.now.leaving (omega arith) c.leaving_at-region.ensures (sym c.is_held.ensures ∙ c.if-not-is_held.false))) ∙ c.loop-at.invariant
