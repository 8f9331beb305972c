use Rattle.std.proofs.Common.{◌∙◌, ap, List, ℕ, take, rules}
use Rattle.std.proofs.lemmas.List.{take_rest}
use Rattle.cache_outside.specs.Sinks.{behind}
use Rattle.script_run.proofs.Behind.{written_on}
use Rattle.script_run.proofs.written.write_all.Goals as goal

pub loop-done-preserved : goal.loop-done-preserved
loop-done-preserved g c =
    let n = c.in_ok-done.field-0 in
    let whole = ap (λ (p : List ℕ). behind ((g.K.Sink.view c.loop-done.sink).written) (take n p)) (take_rest c.args.text.now c.loop-done.done) in (
      search rules,
      search rules,
      written_on _ _ _ c.args.text.now c.loop-done.done n c.loop-done.invariant.2 (c.in_ok-done.ensures.sink.written ∙ whole),
    )
