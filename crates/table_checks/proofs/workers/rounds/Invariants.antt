use Rattle.std.proofs.Common.{◌≡◌}
use Rattle.cache_door.specs.Doors.{nothing}
use Rattle.table_checks.proofs.workers.rounds.Given as goal

abbrev pub invariant-loop-round : goal.invariant-loop-round
invariant-loop-round g l = g.D.CacheDoor.stays l.initial.door l.door × ((g.D.CacheDoor.view l.door).hold ≡ nothing) × ((g.D.CacheDoor.view l.door).config ≡ l.config)
