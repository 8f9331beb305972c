use Rattle.std.proofs.Common.{◌<◌, length, sym, subst}
use Rattle.cache_door.specs.Cores.{CoreView, core_view}
use Rattle.cache_door.proofs.Entries.{spare_only, spare_kept}
use Rattle.cache_door.proofs.cache.Core.reserve.Goals as goal

pub invariant_of-self : goal.invariant_of-self
invariant_of-self g c =
    let i = c.self.inside in
    let P : CoreView → Type 0 = λ q. c.args.region < length q.cells in
    let e = spare_only c.reserve.result c.index_mut-cell.result.now c.reserve.new.self _ c.reserve.ensures.ok c.reserve.ensures.err in
    spare_kept (core_view i.config i.policy i.cells.items i.holds.items i.gone.items i.work) c.args.region c.index_mut-cell.result.now c.reserve.new.self c.self.invariant (subst P (sym c.self.view_is) c.requires) c.index_mut-cell.ensures.value e
