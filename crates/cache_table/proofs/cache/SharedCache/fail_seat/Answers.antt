use Rattle.std.proofs.Common.{◌∙◌, sym, ap, subst, refl}
use Rattle.region_cell.specs.Cells.{CellView, CellMetadata}
use Rattle.cache_table.specs.Rule.{place, at_of}
use Rattle.cache_table.specs.Plays.{HasHolds}
use Rattle.cache_table.proofs.Turned.{moves_as, moves_failed, held_owns, gap_closed}
use Rattle.cache_table.proofs.cache.SharedCache.fail_seat.Goals as goal

pub give_cell-requires-clause-moves : goal.give_cell-requires-clause-moves
give_cell-requires-clause-moves g c =
    let h = c.args.hold.now in let e = c.take_cell-word.ensures in let t = c.get_mut-cell.result.now.metadata.region.tracker in
    let own = held_owns c.requires.held (subst (λ (x : CellView). HasHolds x.metadata.region.tracker c.args.seat.now.me.0.hold) (sym c.get_mut-cell.ensures.value) (e.mine (ap at_of c.requires.held)).1) in
    moves_as (place h.region) (e.hold ∙ c.requires.held) (gap_closed h c.closed-hold.result c.closed-hold.ensures) (ap (λ (n : CellMetadata). n.region.tracker) (sym e.cell.0 ∙ ap (λ (v : CellView). v.metadata) (sym c.get_mut-cell.ensures.value))) (ap (λ (v : CellView). v.metadata.region.tracker) c.fail.ensures)
    (moves_failed c.ticket_weights.ensures c.gap_weights.ensures (place h.region) h t refl c.requires.open (own.gap c.requires.open))
