use Rattle.std.proofs.Common.{ap, sym, ◌∙◌, Some, arith}
use Rattle.std.specs.Prelude.{option_map}
use Rattle.std.proofs.lemmas.Option.{slice_get-get_or}
use Rattle.query_lang.proofs.Only.{depth_below}
use Rattle.query_lang.proofs.Forms.{one_more}
use Rattle.query_lang.proofs.Texts.{one_more_text}
use Rattle.query_lang.specs.Trees.{tree_of}
use Rattle.query_lang.proofs.reading.+reads.Goals as goal

pub forms-form-requires : goal.forms-form-requires
forms-form-requires t c = (
  omega (
    arith,
    c.decreases,
    depth_below c.args.values.now c.loop-value.value-index c.value-item.result
        (slice_get-get_or _ _ _ c.loop-value-test.true ∙ ap Some (sym c.value-item.is)),
  ),
  tt {0},
)

pub forms-loop-value-preserved : goal.forms-loop-value-preserved
forms-loop-value-preserved t c =
    let e = one_more c.args.values.now c.loop-value.value-index c.value-item.result c.loop-value.all c.in-Some.query _
    (slice_get-get_or _ _ _ c.loop-value-test.true ∙ ap Some (sym c.value-item.is)) (sym c.in_ok-query.ensures.form ∙ ap (option_map tree_of) c.in-Some.is) c.loop-value.invariant.form in
    record { form = rw c.in_ok-push.ensures.ok e; text = rw c.in_ok-push.ensures.ok (one_more_text c.loop-value.all c.in-Some.query c.loop-value.invariant.text (rw c.in-Some.is at c.in_ok-query.ensures.text)) }
