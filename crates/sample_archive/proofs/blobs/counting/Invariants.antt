use Rattle.std.proofs.Common.{◌≡◌}
use Rattle.sample_archive.specs.Sample.{counting}
use Rattle.sample_archive.proofs.blobs.counting.Given as goal

abbrev pub invariant-loop-i : goal.invariant-loop-i
invariant-loop-i l = l.text ≡ counting l.i
