use Rattle.std.proofs.Common.{◌≡◌, ◌≤◌, take}
use Rattle.cache_outside.specs.Sinks.{behind}
use Rattle.script_run.specs.Texts.{block_text}
use Rattle.script_run.proofs.written.write_block.Given as goal

abbrev pub invariant-loop-i : goal.invariant-loop-i
invariant-loop-i g l = record {
  later : (g.K.Sink.view l.fn.sink).faults ≤ (g.K.Sink.view l.sink).faults;
  written : (g.K.Sink.view l.sink).written ≡ behind ((g.K.Sink.view l.fn.sink).written) (block_text (take l.i l.block) (take l.i l.replies));
}
