use Rattle.std.proofs.Common.{◌∙◌, sym, add-one}
use Rattle.cache_policy.proofs.Candidates.{first_some, first_none}
use Rattle.cache_policy.proofs.order.first_from.Goals as goal

pub returns-in-Some : goal.returns-in-Some
returns-in-Some c =
    sym (first_some c.loop-frequency.frequency c.in-Some.region c.args.lists.now.lists (sym c.front.ensures ∙ c.in-Some.is)) ∙ c.loop-frequency.invariant

pub loop-frequency-preserved : goal.loop-frequency-preserved
loop-frequency-preserved c =
    let k = c.loop-frequency.frequency in
    let ls = c.args.lists.now.lists in
    rw (add-one k) (sym (first_none k ls (sym c.front.ensures ∙ c.in_default.is)) ∙ c.loop-frequency.invariant)
