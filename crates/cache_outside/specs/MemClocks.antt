-- What clauses see of a clock in memory.
use Rattle.std.specs.Prelude.{drop, Some}
use Rattle.cache_outside.specs.Clocks.{ClockView}
use Rattle.cache_outside.specs.declared.mem_clock.MemClock.{MemClock}

abbrev pub clock_view : MemClock → ClockView
clock_view c = record { times = Some (drop c.next c.times.items) }
