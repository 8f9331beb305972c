use Rattle.std.proofs.Common.{◌≡◌, ◌≤◌, Some, length}
use Rattle.cache_table.specs.Calls.{AtRest, Stays, Faults}
use Rattle.cache_table.proofs.cache.SharedCache.take_bytes_seat.Given as goal

abbrev pub invariant-loop : goal.invariant-loop
invariant-loop g l = (l.seat.table_id ≡ l.initial.seat.table_id) × (l.seat.id ≡ l.initial.seat.id) × AtRest l.self.about l.seat.me × Stays l.initial.seat.me.0 l.seat.me.0 × (l.seat.me.0.hold ≡ Some l.hold) × (l.initial.seat.me.0.region_turns ≤ l.seat.me.0.region_turns) × (length l.out ≡ length l.initial.out) × Faults l.self.about ⊥ l.initial.seat.me.0 l.seat.me.0 × (l.seat.me.0.cache_turns ≡ l.initial.seat.me.0.cache_turns)
