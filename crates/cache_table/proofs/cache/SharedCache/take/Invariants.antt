use Rattle.std.proofs.Common.{◌≡◌}
use Rattle.cache_table.specs.Rule.{times}
use Rattle.cache_table.specs.Calls.{Waited}
use Rattle.cache_table.proofs.cache.SharedCache.take.Given as goal

abbrev pub invariant-loop : goal.invariant-loop
invariant-loop g l = (l.seat.table_id ≡ l.initial.seat.table_id) × (l.seat.id ≡ l.initial.seat.id) × Waited l.initial.seat.me.0 l.seat.me.0 × (l.seat.me.1 ≡ l.initial.seat.me.1) × (times l.at l.seat.me.0.turns ≡ 0)
