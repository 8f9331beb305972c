use Rattle.std.proofs.Common.{◌≡◌}
use Rattle.cache_table.specs.Calls.{aways}
use Rattle.cache_table.proofs.open.put_aways.Given as goal

abbrev pub invariant-loop : goal.invariant-loop
invariant-loop g l = l.slots.items ≡ aways l.counter l.initial.slots.items
