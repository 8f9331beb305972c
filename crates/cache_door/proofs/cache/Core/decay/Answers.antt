use Rattle.cache_door.specs.Cores.{core_view}
use Rattle.cache_door.proofs.Kept.{decay_kept}
use Rattle.cache_door.proofs.cache.Core.decay.Goals as goal

pub invariant_of-self : goal.invariant_of-self
invariant_of-self g c =
    let i = c.self.inside in
    decay_kept (core_view i.config i.policy i.cells.items i.holds.items i.gone.items i.work) c.args.now c.decay.new.self c.decay-2.new.self c.decay.ensures.policy c.lesson.ensures.good c.self.invariant
