use Rattle.std.proofs.Common.{◌≡◌, ℕ, length}
use Rattle.script_run.specs.Shelves.{shelf_at}
use Rattle.script_run.proofs.shelves.reach.Given as goal

abbrev pub invariant-loop-place : goal.invariant-loop-place
invariant-loop-place l = record {
  size : length l.shelves.items ≡ l._place;
  same : (i : ℕ) → shelf_at l.shelves.items i ≡ shelf_at l.fn.shelves.items i;
}
