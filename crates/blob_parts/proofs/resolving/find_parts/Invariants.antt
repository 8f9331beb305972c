use Rattle.std.proofs.Common.{◌≡◌, ◌≤◌, length}
use Rattle.std.specs.Prelude.{IsTrue}
use Rattle.blob_parts.proofs.Resolved.{FoundUpTo}
use Rattle.blob_parts.proofs.resolving.find_parts.Given as goal

abbrev pub invariant-loop-k : goal.invariant-loop-k
invariant-loop-k g l =
    (length l.blobs.items ≡ l.k)
    × (IsTrue g.A.Archive.tells → FoundUpTo g.A.Archive.blobs l.file l.k l.blobs.items)
    × ((g.S.BlobSource.view l.fn.source).faults ≤ (g.S.BlobSource.view l.source).faults)
    × ((g.S.BlobSource.view l.source).reads ≡ (g.S.BlobSource.view l.fn.source).reads)
    × ((g.S.BlobSource.view l.source).identity ≡ (g.S.BlobSource.view l.fn.source).identity)
