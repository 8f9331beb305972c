use Rattle.cache_table.proofs.Doors.{frame_fails}
use Rattle.cache_table.proofs.door.TableDoorCacheDoor.glance.Goals as goal

pub returns-clause-fault : goal.returns-clause-fault
returns-clause-fault g c is = frame_fails _ _ c.args.self.now.pass c.glance_free.new.pass _ c.glance_free.ensures.faults is
