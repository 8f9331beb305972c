use Rattle.std.proofs.Common.{◌≡◌, ◌≤◌, ◌-◌, length, take}
use Rattle.cache_outside.specs.Sinks.{behind}
use Rattle.script_run.proofs.written.write_all.Given as goal

abbrev pub invariant-loop-done : goal.invariant-loop-done
invariant-loop-done g l =
    (l.done ≤ length l.text)
    × ((g.K.Sink.view l.fn.sink).faults ≤ (g.K.Sink.view l.sink).faults)
    × ((g.K.Sink.view l.sink).written ≡ behind ((g.K.Sink.view l.fn.sink).written) (take l.done l.text))

abbrev pub decreases-loop-done : goal.decreases-loop-done
decreases-loop-done g l = length l.text - l.done
