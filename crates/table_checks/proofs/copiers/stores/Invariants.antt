use Rattle.std.proofs.Common.{◌≡◌}
use Rattle.cache_door.specs.Doors.{nothing}
use Rattle.table_checks.proofs.copiers.stores.Given as goal

abbrev pub invariant-loop : goal.invariant-loop
invariant-loop g l = record {
  stays : g.D.CacheDoor.stays l.initial.door l.door;
  free : (g.D.CacheDoor.view l.door).hold ≡ nothing;
  setting : (g.D.CacheDoor.view l.door).config ≡ l.config;
}
