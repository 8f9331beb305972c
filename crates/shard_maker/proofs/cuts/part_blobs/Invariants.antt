use Rattle.std.proofs.Common.{◌≡◌}
use Rattle.shard_maker.specs.Cuts.{first_blobs}
use Rattle.shard_maker.proofs.cuts.part_blobs.Given as goal

abbrev pub invariant-loop-k : goal.invariant-loop-k
invariant-loop-k l = l.blobs ≡ first_blobs l.file l.text l.k
