use Rattle.std.proofs.Common.{◌≡◌, ◌≤◌, ◌-◌, ◌++◌, length, map, take}
use Rattle.doc_bits.specs.Places.{places_of}
use Rattle.shard_search.specs.Answers.{hit}
use Rattle.shard_search.proofs.searching.show.Given as goal

abbrev pub invariant-loop-doc : goal.invariant-loop-doc
invariant-loop-doc l = record {
  few : length l.list ≤ l.size;
  shown : l.list ++ take (l.size - length l.list) (map (hit l.segment) l.doc-iterator) ≡ l.fn.list ++ take (l.size - length l.fn.list) (map (hit l.segment) (places_of l.set));
}
