use Rattle.std.proofs.Common.{arith, ◌∙◌, sym, add-one}
use Rattle.cache_policy.proofs.Candidates.{after_some, after_none}
use Rattle.cache_policy.proofs.Mapped.{not_listed}
use Rattle.cache_policy.proofs.order.behind.Goals as goal

pub returns-in-Some : goal.returns-in-Some
returns-in-Some c = sym (after_some c.args.region c.in-Some.next c.args.lists.now.lists (sym c.next.ensures ∙ c.in-Some.is))

pub returns-in_default-list_of : goal.returns-in_default-list_of
returns-in_default-list_of c =
    let none = not_listed c.args.region c.args.lists.now.lists 0 (sym c.list_of.ensures.list ∙ c.in_default-list_of.is) in
    absurd (omega (arith, c.requires.listed, none))

pub returns : goal.returns
returns c =
    let k = c.in-Some-list_of.frequency in
    let ls = c.args.lists.now.lists in
    let behind = after_none c.args.region ls 0 k k (sym c.list_of.ensures.list ∙ c.in-Some-list_of.is) (omega arith) (sym c.next.ensures ∙ c.in_default.is) in
    let first = rw (add-one k) at c.first_from.ensures in
    first ∙ sym behind
