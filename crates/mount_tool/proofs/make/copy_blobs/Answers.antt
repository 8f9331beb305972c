use Rattle.std.proofs.Common.{◌∙◌, ◌++◌, ◌∷◌, [], ℕ, List, sym, ap₂}
use Rattle.mount_tool.proofs.Makes.{take_next}
use Rattle.mount_tool.proofs.make.copy_blobs.Goals as goal

pub loop-i-preserved : goal.loop-i-preserved
loop-i-preserved c =
    let pair = ap₂ (λ (a b : List ℕ). (a, b)) c.in_ok-name.ensures (c.in_ok-bytes.ensures ∙ c.as_bytes.ensures) in
    c.in_ok-push.ensures.ok ∙ ap₂ (λ (l : List (List ℕ × List ℕ)) (b : List ℕ × List ℕ). l ++ b ∷ []) c.loop-i.invariant pair ∙ sym (take_next c.args.blobs.now c.loop-i.i c.get.result.now c.get.ensures)
