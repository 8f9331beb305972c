use Rattle.std.proofs.Common.{sym, ◌∙◌}
use Rattle.std.proofs.lemmas.List.{drop_all}
use Rattle.query_lang.proofs.Items.{one_printed, nothing_then}
use Rattle.query_lang.proofs.print.+prints.Goals as goal

pub values_of-loop-query-preserved : goal.values_of-loop-query-preserved
values_of-loop-query-preserved t c =
    rw c.in_ok-push.ensures.items (one_printed c.args.queries.now c.loop-query.query-index c.query-item.result c.loop-query.values.items c.in_ok-value_of.field-0 _
    c.loop-query-test.true c.query-item.is c.in_ok-value_of.ensures c.loop-query.invariant)

pub values_of-returns : goal.values_of-returns
values_of-returns t c =
    let none = drop_all c.loop-query.query-index c.args.queries.now c.loop-query-test.false in
    sym (nothing_then c.loop-query.values.items) ∙ rw none at c.loop-query.invariant.1
