use Rattle.std.proofs.Common.{◌≡◌, ◌+◌, List, length, drop, map, None}
use Rattle.std.specs.Prelude.{IsTrue, ◌&&◌}
use Rattle.doc_bits.specs.Places.{zip_with, and_not}
use Rattle.directory_input.specs.Files.{GoesOn}
use Rattle.directory_input.specs.Causes.{HasBytesCause}
use Rattle.simpletext_postings.specs.Terms.{FitsText}
use Rattle.simpletext_postings.specs.declared.rows.Row.{Row}
use Rattle.query_lang.specs.Trees.{tree_of, trees_of}
use Rattle.shard_search.specs.Matches.{all_match, some_match, count_match}
use Rattle.shard_search.specs.Hits.{has_in}
use Rattle.shard_search.specs.Sets.{each_of, AreRowsOf}
use Rattle.shard_search.proofs.combining.+matching.Given as goal

abbrev pub invariant-keep_all-loop-query : goal.invariant-keep_all-loop-query
invariant-keep_all-loop-query g l = record {
  goes : GoesOn g.B.FileBytes.goes_by l.fn.bytes l.bytes;
  fits : FitsText (g.B.FileBytes.view l.bytes) l.dictionary;
  cause : HasBytesCause (g.B.FileBytes.view l.fn.bytes) (g.B.FileBytes.view l.bytes) None;
  size : length l.kept ≡ l.docs;
  documents : IsTrue (g.B.FileBytes.view l.fn.bytes).tells → (rows : List Row) → AreRowsOf (g.B.FileBytes.view l.fn.bytes).bytes l.dictionary rows
      → zip_with ◌&&◌ l.kept (each_of (all_match (has_in rows) (trees_of (map tree_of (drop l.query-index l.queries)))) l.docs)
      ≡ zip_with ◌&&◌ l.fn.set (each_of (all_match (has_in rows) (trees_of (map tree_of l.queries))) l.docs);
}

abbrev pub invariant-drop_any-loop-query : goal.invariant-drop_any-loop-query
invariant-drop_any-loop-query g l = record {
  goes : GoesOn g.B.FileBytes.goes_by l.fn.bytes l.bytes;
  fits : FitsText (g.B.FileBytes.view l.bytes) l.dictionary;
  cause : HasBytesCause (g.B.FileBytes.view l.fn.bytes) (g.B.FileBytes.view l.bytes) None;
  size : length l.kept ≡ l.docs;
  documents : IsTrue (g.B.FileBytes.view l.fn.bytes).tells → (rows : List Row) → AreRowsOf (g.B.FileBytes.view l.fn.bytes).bytes l.dictionary rows
      → zip_with and_not l.kept (each_of (some_match (has_in rows) (trees_of (map tree_of (drop l.query-index l.queries)))) l.docs)
      ≡ zip_with and_not l.fn.set (each_of (some_match (has_in rows) (trees_of (map tree_of l.queries))) l.docs);
}

abbrev pub invariant-count_each-loop-query : goal.invariant-count_each-loop-query
invariant-count_each-loop-query g l = record {
  goes : GoesOn g.B.FileBytes.goes_by l.fn.bytes l.bytes;
  cause : HasBytesCause (g.B.FileBytes.view l.fn.bytes) (g.B.FileBytes.view l.bytes) None;
  size : length l.tally.counts ≡ l.docs;
  added : l.tally.added ≡ l.query-index;
  counts : IsTrue (g.B.FileBytes.view l.fn.bytes).tells → (rows : List Row) → AreRowsOf (g.B.FileBytes.view l.fn.bytes).bytes l.dictionary rows
      → zip_with ◌+◌ l.tally.counts (each_of (count_match (has_in rows) (trees_of (map tree_of (drop l.query-index l.queries)))) l.docs)
      ≡ each_of (count_match (has_in rows) (trees_of (map tree_of l.queries))) l.docs;
}
