use Rattle.cache_door.specs.Cores.{core_view}
use Rattle.cache_door.proofs.Entries.{touch_kept}
use Rattle.cache_door.proofs.cache.Core.touch.Goals as goal

pub invariant_of-self : goal.invariant_of-self
invariant_of-self g c =
    let i = c.self.inside in
    touch_kept (core_view i.config i.policy i.cells.items i.holds.items i.gone.items i.work) c.args.region c.args.now c.touch.new.self i.work c.touch.ensures.policy c.lesson.ensures.good c.self.invariant
