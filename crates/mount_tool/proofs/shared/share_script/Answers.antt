use Rattle.std.proofs.Common.{ap, sym, subst, map, arith, ◌∙◌, Err}
use Rattle.mount_script.specs.Scripts.{script, IsScript}
use Rattle.mount_tool.proofs.Ends.{shared_of_blocks, run_of_refusal}
use Rattle.mount_tool.proofs.shared.share_script.Goals as goal

pub returns-in-Ok-read-clause-run : goal.returns-in-Ok-read-clause-run
returns-in-Ok-read-clause-run g c =
    shared_of_blocks _ _ _ _ _ _ _ _ _ _ _ _ _ c.in-Ok.text c.in-Ok-read.script _ (omega (arith, c.requires.several.0)) (c.in-Ok.ensures.read, ap script (sym c.as_bytes.ensures) ∙ c.in-Ok-read.ensures.script) c.share_blocks.ensures.run

pub returns-clause-run : goal.returns-clause-run
returns-clause-run g c =
    run_of_refusal _ _ _ _ _ _ _ _ _ (map g.S.BlobSource.view c.args.sources.now.items) c.in-Ok.text c.in-Err.error _ c.in-Ok.ensures.read (subst (λ b. IsScript (Err c.in-Err.error) (script b)) c.as_bytes.ensures c.in-Err.ensures.script) c.refuse.ensures
