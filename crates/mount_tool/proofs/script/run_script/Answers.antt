use Rattle.std.proofs.Common.{ap, sym, subst, ◌∙◌, Err}
use Rattle.mount_script.specs.Scripts.{script, IsScript}
use Rattle.mount_tool.proofs.Ends.{run_of_blocks, run_of_refusal}
use Rattle.mount_tool.proofs.script.run_script.Goals as goal

pub returns-in-Ok-read-clause-run : goal.returns-in-Ok-read-clause-run
returns-in-Ok-read-clause-run g c = λ rest.
    run_of_blocks _ _ _ _ _ _ _ _ _ _ _ _ _ rest c.in-Ok.text c.in-Ok-read.script _ c.requires.one (c.in-Ok.ensures.read, ap script (sym c.as_bytes.ensures) ∙ c.in-Ok-read.ensures.script) c.run_blocks.ensures.run

pub returns-clause-run : goal.returns-clause-run
returns-clause-run g c = λ rest.
    run_of_refusal _ _ _ _ _ _ _ _ _ _ c.in-Ok.text c.in-Err.error _ c.in-Ok.ensures.read (subst (λ b. IsScript (Err c.in-Err.error) (script b)) c.as_bytes.ensures c.in-Err.ensures.script) c.refuse.ensures
