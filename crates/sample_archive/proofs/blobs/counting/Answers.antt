use Rattle.std.proofs.Common.{◌∙◌, sym, ap, List, ℕ, ◌++◌, ◌∷◌, []}
use Rattle.std.specs.Prelude.{◌%◌}
use Rattle.sample_archive.proofs.Counted.{counting_push}
use Rattle.sample_archive.proofs.blobs.counting.Goals as goal

pub loop-i-preserved : goal.loop-i-preserved
loop-i-preserved c = c.in_ok-push.ensures.ok ∙ ap (λ (t : List ℕ). t ++ (c.loop-i.i % 251) ∷ []) c.loop-i.invariant ∙ sym (counting_push c.loop-i.i)
