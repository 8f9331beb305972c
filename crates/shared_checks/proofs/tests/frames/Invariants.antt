use Rattle.std.proofs.Common.{◌≡◌, length}
use Rattle.std.specs.List.{All}
use Rattle.cache_frame.specs.Makers.{frame_of}
use Rattle.shared_checks.proofs.tests.frames.Given as goal

abbrev pub invariant-loop-made : goal.invariant-loop-made
invariant-loop-made l = record {
  count : length l.frames.items ≡ l._made;
  sizes : All (λ f. (frame_of f).size ≡ l.config.region) l.frames.items;
}
