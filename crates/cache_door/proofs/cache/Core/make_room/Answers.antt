use Rattle.cache_door.specs.Cores.{core_view}
use Rattle.cache_door.proofs.Entries.{room_kept}
use Rattle.cache_door.proofs.cache.Core.make_room.Goals as goal

pub invariant_of-self : goal.invariant_of-self
invariant_of-self g c =
    let i = c.self.inside in
    room_kept (core_view i.config i.policy i.cells.items i.holds.items i.gone.items i.work) c.make_room.new.policy (rw c.deref.ensures.value at c.make_room.ensures.policy) (rw c.deref.ensures.value at c.make_room.ensures.settled) c.make_room.ensures.good c.self.invariant
