use Rattle.std.proofs.Common.{◌≡◌, ◌∙◌, sym, ap, refl, Some}
use Rattle.region_cell.specs.Cells.{CellView, CellMetadata}
use Rattle.cache_door.specs.declared.hold.Hold.{Hold}
use Rattle.cache_table.specs.Rule.{place}
use Rattle.cache_table.proofs.Turned.{moves_as, moves_claimed, some_run}
use Rattle.cache_table.proofs.cache.SharedCache.enter_mapped.Goals as goal

pub give_cell-requires-2-clause-moves : goal.give_cell-requires-2-clause-moves
give_cell-requires-2-clause-moves g c =
    let e = c.take_cell-word.ensures in let k = c.claim-gap.ensures in let x = c.take_cell-word.result.1 in
    let y = c.reserve.new.self in
    let same : y.metadata ≡ x.metadata = ap (λ (v : CellView). v.metadata) c.in_default.ensures.ok ∙ ap (λ (v : CellView). v.metadata) c.get_mut-cell.ensures.value in
    moves_as (place c.args.region) (e.hold ∙ c.requires.free) (ap (λ (h : Hold). Some h) k.hold) (ap (λ (n : CellMetadata). n.region.tracker) (sym e.cell.0 ∙ sym same)) (ap (λ (v : CellView). v.metadata.region.tracker) k.cell)
    (moves_claimed c.ticket_weights.ensures c.gap_weights.ensures (place c.args.region) y.metadata.range c.args.region c.args.want.now y.metadata.region refl (some_run _ _ _ _ _ k.gap k.inside))
