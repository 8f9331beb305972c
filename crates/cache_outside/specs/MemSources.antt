-- What clauses see of a source in memory.
use Rattle.std.specs.Prelude.{Some}
use Rattle.cache_outside.specs.Sources.{SourceView}
use Rattle.cache_outside.specs.declared.memory.MemSource.{MemSource}

abbrev pub source_view : {A : Type 0} {g : _} → MemSource A g → SourceView
source_view s = record { identity = s.number; faults = s.calls.faults; reads = Some s.reads.items }
