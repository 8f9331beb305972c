use Rattle.std.proofs.Common.{◌≡◌, ◌∙◌, sym, ap, subst}
use Rattle.atomic_table.specs.Table.{Me}
use Rattle.blob_parts.specs.Content.{content}
use Rattle.region_cell.specs.Cells.{CellView}
use Rattle.cache_table.specs.Abouts.{About}
use Rattle.cache_table.specs.declared.view.View.{View}
use Rattle.cache_table.specs.declared.home.Home.{Home}
use Rattle.cache_table.specs.Rule.{Suits}
use Rattle.cache_table.proofs.Keeps.{is_cell}
use Rattle.cache_table.proofs.Slots.{same_cell}
use Rattle.cache_table.proofs.Sums.{no_region}
use Rattle.cache_table.proofs.cache.SharedCache.take_cell.Goals as goal

pub take-word-requires-clause-other : goal.take-word-requires-clause-other
take-word-requires-clause-other g c = no_region c.args.seat.now.me.0.turns c.args.at c.requires.place.0 c.requires.may.1

pub returns-clause-cell : goal.returns-clause-cell
returns-clause-cell g c =
    let t = c.take-word.ensures.took in let e = c.exchange.ensures in
    let z = is_cell g.A.Archive.tells (content g.A.Archive.blobs) g.row.A.Denot g.row.F.Denot c.args.at c.take-word.result _ _ c.requires.place.0 t.2 in
    let same : c.in-Cell.cell ≡ z.0 = same_cell c.args.at z.0 c.in-Cell.cell c.exchange.result _ _ _ e.2 (ap (λ (m : Me (Home g.row.A.Denot g.row.F.Denot) View). m.1) z.4) c.in-Cell.is in
    let cell = λ (m : Me (Home g.row.A.Denot g.row.F.Denot) View). m.0.cell in
    let about = ap (λ (v : View). v.about) t.1.same ∙ c.requires.about in (
      ap (λ (x : CellView). x.metadata) same ∙ sym (ap cell e.3 ∙ ap cell z.4),
      subst (λ (x : CellView). Suits g.A.Archive.tells (content g.A.Archive.blobs) c.args.self.now.about c.take-word.result x) (sym same)
          (subst (λ (a : About). Suits g.A.Archive.tells (content g.A.Archive.blobs) a c.take-word.result z.0) about z.1),
    )
