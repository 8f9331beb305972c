use Rattle.std.proofs.Common.{arith, ◌∙◌, sym, ap, subst, ◌<◌, ◌+◌, ℕ, refl, List, Some}
use Rattle.std.specs.Prelude.{length}
use Rattle.region_cell.specs.Cells.{CellView, CellMetadata, Region}
use Rattle.cache_door.specs.declared.hold.Hold.{Hold}
use Rattle.cache_table.specs.Rule.{place, at_of}
use Rattle.cache_table.specs.Plays.{HasHolds}
use Rattle.cache_table.proofs.Turned.{moves_as, moves_stored, held_owns}
use Rattle.cache_table.proofs.cache.SharedCache.store_seat.Goals as goal

pub give_cell-requires-clause-moves : goal.give_cell-requires-clause-moves
give_cell-requires-clause-moves g c =
    let h = c.args.hold.now in let e = c.take_cell-word.ensures in let t = c.get_mut-cell.result.now.metadata.region.tracker in
    let own = held_owns c.requires.held (subst (λ (x : CellView). HasHolds x.metadata.region.tracker c.args.seat.now.me.0.hold) (sym c.get_mut-cell.ensures.value) (e.mine (ap at_of c.requires.held)).1) in
    let n = length c.args.piece.now.bytes in
    let opened : h.gap.upto < h.gap.end = (let s = c.requires.piece.some in let i = c.requires.piece.inside in omega arith) in
    let there = own.gap opened in
    let stored = rw there at c.in-Ok.ensures.ok in
    moves_as (place h.region) (e.hold ∙ c.requires.held) (ap (λ (q : Hold). Some q) c.stored.ensures ∙ ap (λ (l : List ℕ). let q : Hold = record h { gap = record h.gap { upto = h.gap.upto + length l } } in Some q) c.bytes.ensures.value) (ap (λ (n : CellMetadata). n.region.tracker) (sym e.cell.0 ∙ ap (λ (v : CellView). v.metadata) (sym c.get_mut-cell.ensures.value))) (ap (λ (r : Region). r.tracker) stored.region)
    (moves_stored c.ticket_weights.ensures c.gap_weights.ensures (place h.region) (h.gap.upto + n) h t refl opened c.requires.piece.inside there)
