use Rattle.std.proofs.Common.{◌≡◌, ◌≤◌}
use Rattle.std.specs.Prelude.{IsTrue}
use Rattle.blob_parts.proofs.Resolved.{SizedUpTo}
use Rattle.blob_parts.proofs.resolving.size_parts.Given as goal

abbrev pub invariant-loop-k : goal.invariant-loop-k
invariant-loop-k g l =
    (IsTrue g.A.Archive.tells → SizedUpTo g.A.Archive.blobs l.file l.blobs l.k)
    × ((g.S.BlobSource.view l.fn.source).faults ≤ (g.S.BlobSource.view l.source).faults)
    × ((g.S.BlobSource.view l.source).reads ≡ (g.S.BlobSource.view l.fn.source).reads)
    × ((g.S.BlobSource.view l.source).identity ≡ (g.S.BlobSource.view l.fn.source).identity)
