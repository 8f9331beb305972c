use Rattle.std.proofs.Common.{◌≡◌, ◌≤◌, ◌+◌, ◌++◌}
use Rattle.std.specs.Prelude.{vec_len, vec_capacity}
use Rattle.std.specs.Vec.Iter.{into_iter_items, into_iter_len}
use Rattle.shared_run.proofs.gather.put_back.Given as goal

abbrev pub invariant-loop-source : goal.invariant-loop-source
invariant-loop-source g l = record {
  items : l.sources.items ++ into_iter_items l.source-iterator ≡ l.fn.sources.items ++ into_iter_items l.fn.others;
  room : vec_len l.sources + into_iter_len l.source-iterator ≤ vec_capacity l.sources;
}
