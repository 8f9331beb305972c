use Rattle.std.proofs.Common.{arith, ◌∙◌, ◌+◌, ℕ, length, sym, ap}
use Rattle.std.proofs.lemmas.Bool.{eq-eqb}
use Rattle.shared_run.proofs.Shares.{longer, share_same, other_is}
use Rattle.shared_run.proofs.lines.share_len.Goals as goal
use Rattle.shared_run.proofs.lines.share_len.Goals.{then-k-workers, else-k-workers}

pub loop-k-preserved : goal.loop-k-preserved
loop-k-preserved c =
    let i = c.loop-k.invariant in
    let block = c.args.block.now in
    elim c.if-k-workers.branch [
      | then-k-workers w ↦
          let more = longer c.args.workers c.args.worker c.loop-k.k block c.loop-k-test.true (eq-eqb _ _ w.if-k-workers.true) in
          (w.count-is ∙ ap (λ (n : ℕ). n + 1) i.0 ∙ sym more, omega (arith, w.count-is, i.1))
      | else-k-workers w ↦
          let same = share_same c.args.workers c.args.worker c.loop-k.k block c.loop-k-test.true (other_is _ _ w.if-k-workers.false) in
          (w.count-is ∙ i.0 ∙ sym (ap length same), omega (arith, w.count-is, i.1))
    ]
