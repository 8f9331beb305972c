-- What clauses see of a sink in memory.
use Rattle.std.specs.Prelude.{Some}
use Rattle.cache_outside.specs.Sinks.{SinkView}
use Rattle.cache_outside.specs.declared.mem_sink.MemSink.{MemSink}

abbrev pub sink_view : MemSink → SinkView
sink_view s = record { faults = s.faults; written = Some s.bytes.items }
