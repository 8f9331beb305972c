use Rattle.cache_door.specs.Cores.{core_view}
use Rattle.cache_door.proofs.Kept.{cleared_later, clear_kept, gone_kept}
use Rattle.cache_door.proofs.cache.Core.unmount.Goals as goal

pub invariant_of-self : goal.invariant_of-self
invariant_of-self g c =
    let i = c.self.inside in
    gone_kept (core_view i.config c.settle.new.policy i.cells.items i.holds.items i.gone.items i.work) c.args.mount
    (clear_kept (core_view i.config i.policy i.cells.items i.holds.items i.gone.items i.work) c.args.manifest c.clear.new.self c.settle.new.policy i.work c.clear.ensures.policy c.lesson.ensures.good c.clear.ensures.tags c.clear.ensures.leaving (rw c.deref.ensures.value at c.settle.ensures.policy) c.settle.ensures.good c.self.invariant)

pub returns-clause-later : goal.returns-clause-later
returns-clause-later g c =
    let i = c.self.inside in
    cleared_later (core_view i.config i.policy i.cells.items i.holds.items i.gone.items i.work) c.args.self.now c.args.manifest c.clear.new.self c.settle.new.policy _ _ c.self.view_is c.clear.ensures.policy (rw c.deref.ensures.value at c.settle.ensures.policy)
