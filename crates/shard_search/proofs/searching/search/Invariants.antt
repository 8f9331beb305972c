use Rattle.std.proofs.Common.{◌≡◌, ◌≤◌, ◌*◌, min, List, ℕ, drop, length, map, take, None}
use Rattle.std.specs.Prelude.{IsTrue, All}
use Rattle.directory_input.specs.Files.{GoesOn}
use Rattle.directory_input.specs.Causes.{HasBytesCause}
use Rattle.query_lang.specs.Trees.{tree_of}
use Rattle.shard_search.specs.Hits.{hits_from, hits}
use Rattle.shard_search.specs.Answers.{put_hits, pair_of, IsHitOf}
use Rattle.shard_search.specs.Shelves.{ShelfFits, StillKept}
use Rattle.shard_search.proofs.searching.search.Given as goal

abbrev pub invariant-loop-number : goal.invariant-loop-number
invariant-loop-number g l = record {
  goes : GoesOn g.B.FileBytes.goes_by l.fn.bytes l.bytes;
  cause : HasBytesCause (g.B.FileBytes.view l.fn.bytes) (g.B.FileBytes.view l.bytes) None;
  fits : ShelfFits (g.B.FileBytes.view l.bytes) l.shard.segments l.shelf;
  kept : StillKept l.fn.shelf l.shelf;
  small : l.total ≤ l.number * 4294967295;
  shown : length l.list ≡ min l.size l.total;
  within : All (IsHitOf l.shard.segments) l.list;
  hits : IsTrue (g.B.FileBytes.view l.fn.bytes).tells → (hs : List (ℕ × ℕ)) × (l.total ≡ length hs) × (map pair_of l.list ≡ take l.size hs)
      × (put_hits hs (hits_from (g.B.FileBytes.view l.fn.bytes).bytes (tree_of l.query) l.number (drop l.number l.shard.segments)) ≡ hits (g.B.FileBytes.view l.fn.bytes).bytes (tree_of l.query) l.shard.segments);
}
