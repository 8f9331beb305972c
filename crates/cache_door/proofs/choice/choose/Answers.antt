use Rattle.std.proofs.Common.{sym, ◌∙◌}
use Rattle.cache_door.proofs.Walks.{choose_free, choose_leaving, choose_candidate}
use Rattle.cache_door.proofs.choice.choose.Goals as goal

pub returns-in-Some : goal.returns-in-Some
returns-in-Some c = sym (choose_free c.args.holds.now c.args.policy.now c.in-Some.region (sym c.free_front.ensures ∙ c.in-Some.is))

pub returns-in-Some-first_leaving : goal.returns-in-Some-first_leaving
returns-in-Some-first_leaving c =
    sym (choose_leaving c.args.holds.now c.args.policy.now c.in-Some-first_leaving.region (sym c.free_front.ensures ∙ c.in_default.is) (sym c.first_leaving.ensures ∙ c.in-Some-first_leaving.is))

pub returns : goal.returns
returns c = c.first_candidate.ensures.first ∙ sym (choose_candidate c.args.holds.now c.args.policy.now (sym c.free_front.ensures ∙ c.in_default.is) (sym c.first_leaving.ensures ∙ c.in_default-first_leaving.is))
