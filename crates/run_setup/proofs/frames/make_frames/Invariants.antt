use Rattle.std.proofs.Common.{◌≡◌, IsTrue, length, ◌≤◌}
use Rattle.std.specs.List.{All}
use Rattle.run_setup.proofs.frames.make_frames.Given as goal

abbrev pub invariant-loop-index : goal.invariant-loop-index
invariant-loop-index g l = record {
  count : length l.frames.items ≡ l.index;
  sizes : All (λ f. (g.M.F.Frame.view f).size ≡ l.config.region) l.frames.items;
  tell : IsTrue (g.M.FrameMaker.view l.fn.maker).tells → All (λ f. IsTrue (g.M.F.Frame.view f).tells) l.frames.items;
  steady : IsTrue (g.M.FrameMaker.view l.fn.maker).steady → All (λ f. IsTrue (g.M.F.Frame.view f).steady) l.frames.items;
  later : (g.M.FrameMaker.view l.fn.maker).faults ≤ (g.M.FrameMaker.view l.maker).faults;
  same_tells : (g.M.FrameMaker.view l.maker).tells ≡ (g.M.FrameMaker.view l.fn.maker).tells;
  same_steady : (g.M.FrameMaker.view l.maker).steady ≡ (g.M.FrameMaker.view l.fn.maker).steady;
}
