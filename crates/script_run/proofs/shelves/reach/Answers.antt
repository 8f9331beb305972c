use Rattle.std.proofs.Common.{◌+◌, [], ◌∷◌, ◌++◌, length, ap, ◌∙◌}
use Rattle.std.proofs.lemmas.List.{length-append}
use Rattle.script_run.specs.Shelves.{shelf_at}
use Rattle.script_run.proofs.KeptShelves.{empty_shelf}
use Rattle.script_run.proofs.shelves.reach.Goals as goal

pub loop-place-preserved : goal.loop-place-preserved
loop-place-preserved c =
    let before = c.loop-place.shelves.items in
    let pushed = c.in_ok-push.ensures.items ∙ ap (λ s. before ++ s ∷ []) c.new-empty.ensures.empty in
    record {
      size = ap length pushed ∙ length-append before ([] ∷ []) ∙ ap (λ n. n + 1) c.loop-place.invariant.size;
      same = λ i. ap (λ l. shelf_at l i) pushed ∙ empty_shelf before i ∙ c.loop-place.invariant.same i;
    }
