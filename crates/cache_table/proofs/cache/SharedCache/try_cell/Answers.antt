use Rattle.std.proofs.Common.{ℕ, ◌≡◌, ◌∙◌, sym, ap, subst, ◌∷◌}
use Rattle.atomic_table.specs.Table.{Me, rest}
use Rattle.blob_parts.specs.Content.{content}
use Rattle.region_cell.specs.Cells.{CellView}
use Rattle.cache_table.specs.Abouts.{About}
use Rattle.cache_table.specs.declared.view.View.{View}
use Rattle.cache_table.specs.declared.home.Home.{Home}
use Rattle.cache_table.specs.declared.home.Home.TheVariants.{Away}
use Rattle.cache_table.specs.Rule.{Suits}
use Rattle.cache_table.specs.Plays.{took_cell, Taken}
use Rattle.cache_table.proofs.Keeps.{is_cell}
use Rattle.cache_table.proofs.Slots.{same_cell}
use Rattle.cache_table.proofs.cache.SharedCache.try_cell.Goals as goal

pub returns-clause-ok : goal.returns-clause-ok
returns-clause-ok g c =
    let told = g.A.Archive.tells in let files = content g.A.Archive.blobs in let M = Me (Home g.row.A.Denot g.row.F.Denot) View in
    let m = c.args.seat.now.me in let e = c.exchange.ensures in let k = c.args.at in
    let word : c.try_take-found.result ≡ c.args.seen = c.if-found-seen.false in
    let z = is_cell told files g.row.A.Denot g.row.F.Denot k c.args.seen m c.try_take-found.new.seat.me c.requires.place.0
    (subst (λ (w : ℕ). Taken told files k w m c.try_take-found.new.seat.me) word (c.try_take-found.ensures.took word)) in
    let same : c.in-Cell.cell ≡ z.0 = same_cell k z.0 c.in-Cell.cell c.exchange.result _ _ _ e.2 (ap (λ (n : M). n.1) z.4) c.in-Cell.is in (
      e.3 ∙ ap (λ (n : M). (n.0, (k, Away) ∷ rest n.1)) z.4 ∙ ap (λ (x : CellView). (took_cell k c.args.seen x m.0, (k, Away) ∷ m.1)) (sym same),
      subst (λ (x : CellView). Suits told files c.args.self.now.about c.args.seen x) (sym same)
          (subst (λ (a : About). Suits told files a c.args.seen z.0) c.requires.about z.1),
    )
