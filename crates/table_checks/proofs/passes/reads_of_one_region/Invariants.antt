use Rattle.std.proofs.Common.{◌≡◌}
use Rattle.cache_door.specs.Doors.{nothing}
use Rattle.table_checks.proofs.passes.reads_of_one_region.Given as goal

abbrev pub invariant-loop-at : goal.invariant-loop-at
invariant-loop-at g l = ((g.D.CacheDoor.view l.door).hold ≡ nothing) × ((g.D.CacheDoor.view l.door).config ≡ l.config)
