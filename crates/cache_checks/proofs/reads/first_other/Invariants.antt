use Rattle.std.proofs.Common.{◌≡◌}
use Rattle.cache_door.specs.Doors.{nothing}
use Rattle.cache_checks.proofs.reads.first_other.Given as goal

abbrev pub invariant-loop-place : goal.invariant-loop-place
invariant-loop-place g l = record {
  stays : g.D.CacheDoor.stays l.initial.door l.door;
  free : (g.D.CacheDoor.view l.door).hold ≡ nothing;
  setting : (g.D.CacheDoor.view l.door).config ≡ l.config;
}
