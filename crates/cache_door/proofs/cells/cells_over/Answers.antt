use Rattle.std.proofs.lemmas.List.Elements.{All-push}
use Rattle.std.proofs.Common.{◌∷◌, ◌++◌, [], List, map, sym, subst, ◌∙◌, ap}
use Rattle.std.specs.List.{All}
use Rattle.blob_parts.specs.Content.{content}
use Rattle.region_cell.specs.Cells.{CellView, IsGood}
use Rattle.cache_door.proofs.Made.{cell_over, over_push}
use Rattle.cache_door.proofs.cells.cells_over.Goals as goal

pub loop-frame-preserved : goal.loop-frame-preserved
loop-frame-preserved g c =
    let e = c.in_ok-push.ensures.items in
    let over = cell_over g.F.Frame.view c.args.config.now.range in
    let good : CellView → Type 0 = λ x. IsGood g.A.Archive.tells (content g.A.Archive.blobs) x in
    let P : List CellView → Type 0 = λ l. All good l in
    record {
      cells =
          e
          ∙ ap (λ (l : List CellView). l ++ c.new-cell.result ∷ []) c.loop-frame.invariant.cells
          ∙ ap (λ (x : CellView). map over c.loop-frame.yielded ++ x ∷ []) c.new-cell.ensures
          ∙ sym (over_push g.F.Frame.view c.args.config.now.range c.loop-frame.yielded c.in-Some.frame);
      good = subst P (sym e) (All-push good c.loop-frame.cells.items c.new-cell.result c.loop-frame.invariant.good c.lesson.ensures.good);
    }
