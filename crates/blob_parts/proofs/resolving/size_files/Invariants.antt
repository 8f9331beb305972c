use Rattle.std.proofs.Common.{◌≡◌, ◌≤◌, drop, map}
use Rattle.std.specs.Prelude.{IsTrue}
use Rattle.blob_parts.specs.Content.{first_of, wrong_in}
use Rattle.blob_parts.specs.Entries.{parts_in}
use Rattle.blob_parts.specs.Resolving.{AllSized}
use Rattle.blob_parts.proofs.resolving.size_files.Given as goal

abbrev pub invariant-loop-i : goal.invariant-loop-i
invariant-loop-i g l =
    (IsTrue g.A.Archive.tells → first_of (wrong_in g.A.Archive.blobs) (drop l.i l.manifest.files) ≡ first_of (wrong_in g.A.Archive.blobs) l.manifest.files)
    × (IsTrue g.A.Archive.tells → AllSized g.A.Archive.blobs l.i l.manifest.files (map parts_in l.entries))
    × ((g.S.BlobSource.view l.fn.source).faults ≤ (g.S.BlobSource.view l.source).faults)
    × ((g.S.BlobSource.view l.source).reads ≡ (g.S.BlobSource.view l.fn.source).reads)
    × ((g.S.BlobSource.view l.source).identity ≡ (g.S.BlobSource.view l.fn.source).identity)
