use Rattle.std.proofs.Common.{arith, ◌∙◌, sym, ap, subst, refl, None}
use Rattle.region_cell.specs.Cells.{CellView, CellMetadata}
use Rattle.cache_table.specs.Rule.{place, at_of}
use Rattle.cache_table.specs.Plays.{HasHolds}
use Rattle.cache_table.proofs.Turned.{moves_as, moves_left, held_owns, ticket_number}
use Rattle.cache_table.proofs.cache.SharedCache.leave_seat.Goals as goal

pub give_cell-requires-clause-moves : goal.give_cell-requires-clause-moves
give_cell-requires-clause-moves g c =
    let h = c.args.hold.now in let e = c.take_cell-word.ensures in let t = c.get_mut-cell.result.now.metadata.region.tracker in
    let own = (held_owns c.requires.held (subst (λ (x : CellView). HasHolds x.metadata.region.tracker c.args.seat.now.me.0.hold) (sym c.get_mut-cell.ensures.value) (e.mine (ap at_of c.requires.held)).1)).ticket in
    moves_as (place h.region) {h = None} {r = None} (e.hold ∙ c.requires.held) refl (ap (λ (n : CellMetadata). n.region.tracker) (sym e.cell.0 ∙ ap (λ (v : CellView). v.metadata) (sym c.get_mut-cell.ensures.value))) (ap (λ (v : CellView). v.metadata.region.tracker) c.leave.ensures)
    (moves_left c.ticket_weights.ensures (place h.region) h own.0 t refl c.requires.closed own.1 (ticket_number h.ticket own.0 t.tickets own.1) own.2 own.3 (omega arith))
