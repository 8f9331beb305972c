use Rattle.std.proofs.Common.{◌≡◌, ℕ, length}
use Rattle.shard_search.specs.Shelves.{kept_at}
use Rattle.shard_search.proofs.shelf.reach.Given as goal

abbrev pub invariant-loop-place : goal.invariant-loop-place
invariant-loop-place l = record {
  size : length l.places.items ≡ l._place;
  same : (i : ℕ) → kept_at l.places.items i ≡ kept_at l.fn.places.items i;
}
