use Rattle.std.proofs.Common.{refl}
use Rattle.cache_table.proofs.Doors.{store_fails, on_ok, on_err}
use Rattle.cache_table.proofs.door.TableDoorCacheDoor.store.Goals as goal

pub returns-clause-fault : goal.returns-clause-fault
returns-clause-fault g c = store_fails _ _ _ c.args.self.now.pass c.store.new.pass c.store.ensures.faults

pub returns-clause-state : goal.returns-clause-state
returns-clause-state g c = on_ok _ refl

pub returns-clause-same : goal.returns-clause-same
returns-clause-same g c = on_err _ tt
