use Rattle.std.proofs.Common.{◌≡◌, length}
use Rattle.std.specs.List.{All}
use Rattle.cache_checks.specs.Checks.{faulty_view}
use Rattle.cache_checks.proofs.samples.frames.Given as goal

abbrev pub invariant-loop-made : goal.invariant-loop-made
invariant-loop-made l = record {
  count : length l.frames.items ≡ l._made;
  sizes : All (λ f. (faulty_view f.frame f.faults).size ≡ l.config.region) l.frames.items;
}
