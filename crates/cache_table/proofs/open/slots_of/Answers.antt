use Rattle.std.proofs.Common.{List, ◌∷◌, ◌++◌, [], length, sym, ap, ◌∙◌, subst}
use Rattle.std.proofs.lemmas.List.{length-append}
use Rattle.blob_parts.specs.Content.{content}
use Rattle.cache_table.specs.declared.home.Home.{Home}
use Rattle.cache_table.specs.declared.home.Home.TheVariants.{Cell}
use Rattle.cache_table.specs.Keys.{about_of}
use Rattle.cache_table.specs.Calls.{AreCells}
use Rattle.cache_table.proofs.Opens.{cells_more}
use Rattle.cache_table.proofs.open.slots_of.Goals as goal

pub loop-frame-preserved : goal.loop-frame-preserved
loop-frame-preserved g c =
    let a = about_of g.F.Frame.view c.args.key.now in
    let n = length (c.loop-frame.yielded ++ c.in-Some.frame ∷ []) in
    subst (λ (l : List (Home g.row.A.Denot g.row.F.Denot)). AreCells g.A.Archive.tells (content g.A.Archive.blobs) a n l) (sym (c.in_ok-push-2.ensures.items ∙ ap (λ (l : List (Home g.row.A.Denot g.row.F.Denot)). l ++ Cell c.in_ok-boxed.boxed ∷ []) c.in_ok-put_aways.ensures))
    (cells_more g.A.Archive.tells (content g.A.Archive.blobs) g.row.A.Denot g.row.F.Denot a (length c.loop-frame.yielded) n c.loop-frame.slots.items c.in_ok-boxed.boxed
    (length-append c.loop-frame.yielded (c.in-Some.frame ∷ [])) c.loop-frame.invariant
    (rw c.in_ok-boxed.ensures c.cell_of-cell.ensures.suits) (rw c.in_ok-boxed.ensures c.cell_of-cell.ensures.unclaimed))
