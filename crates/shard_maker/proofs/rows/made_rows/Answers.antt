use Rattle.std.proofs.Common.{◌≡◌, ◌∙◌, ◌++◌, ◌∷◌, [], ◌==◌, sym, ap, subst, rules, true, false}
use Rattle.simpletext_postings.specs.Rows.{are_rows}
use Rattle.shard_maker.specs.Draws.{step}
use Rattle.shard_maker.specs.MadeRows.{is_had}
use Rattle.shard_maker.proofs.Lists.{rows_had, rows_missed}
use Rattle.shard_maker.proofs.Steps.{had_is, state_next}
use Rattle.shard_maker.proofs.Rising.{may_push}
use Rattle.shard_maker.proofs.rows.made_rows.Goals as goal
use Rattle.shard_maker.proofs.rows.made_rows.Goals.{then-draw-eq0+in_ok-row+in_ok-push, else-draw-eq0}

pub push-requires : goal.push-requires
push-requires c =
    let seed = c.args.draws.now.state in
    let zero : (c.draw.result == 0) ≡ true = search rules in
    let had : is_had seed c.loop-n.n ≡ true = had_is seed c.loop-n.n _ _ _ c.loop-n.invariant.0 c.draw.ensures.state c.draw.ensures.value ∙ zero in
    let allowed = may_push seed c.args.docs c.args.terms c.loop-n.n c.loop-n.rows.rows c.in_ok-row.field-0 c.requires c.loop-n-test.true had c.loop-n.invariant.2 c.in_ok-row.ensures in
    subst (λ docs. are_rows docs (c.loop-n.rows.rows ++ c.in_ok-row.field-0 ∷ []) ≡ true) (sym c.loop-n.invariant.1) allowed

pub loop-n-preserved : goal.loop-n-preserved
loop-n-preserved c =
    let seed = c.args.draws.now.state in
    let had = had_is seed c.loop-n.n _ _ _ c.loop-n.invariant.0 c.draw.ensures.state c.draw.ensures.value in
    let state = c.draw.ensures.state ∙ ap step c.loop-n.invariant.0 ∙ sym (state_next seed c.loop-n.n) in
    elim c.if-draw-eq0.branch [
      | then-draw-eq0+in_ok-row+in_ok-push w ↦
          let zero : (c.draw.result == 0) ≡ true = search rules in
          let rows = w.in_ok-push.ensures.ok ∙ (λ i. c.loop-n.invariant.2 i ++ w.in_ok-row.ensures i ∷ []) ∙ sym (rows_had seed c.args.docs c.loop-n.n (had ∙ zero)) in
          (state, rw w.rows-is (w.in_ok-push.ensures.docs ∙ c.loop-n.invariant.1), rw w.rows-is rows)
      | else-draw-eq0 w ↦
          let other : (c.draw.result == 0) ≡ false = search rules in
          (state, rw w.rows-is c.loop-n.invariant.1, rw w.rows-is (c.loop-n.invariant.2 ∙ sym (rows_missed seed c.args.docs c.loop-n.n (had ∙ other))))
    ]
