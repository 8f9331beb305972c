use Rattle.cache_table.proofs.Doors.{frame_fails}
use Rattle.cache_table.proofs.door.TableDoorCacheDoor.take_bytes.Goals as goal

pub returns-clause-fault : goal.returns-clause-fault
returns-clause-fault g c is = frame_fails _ _ c.args.self.now.pass c.take_bytes.new.pass _ c.take_bytes.ensures.faults is
