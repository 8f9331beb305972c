use Rattle.std.proofs.Common.{◌≡◌, ◌≤◌, length, drop, map}
use Rattle.std.specs.Prelude.{IsTrue}
use Rattle.blob_parts.specs.Content.{first_of, missing_in}
use Rattle.blob_parts.specs.Entries.{parts_in}
use Rattle.blob_parts.specs.Resolving.{AreEntries}
use Rattle.blob_parts.proofs.resolving.find_files.Given as goal

abbrev pub invariant-loop-i : goal.invariant-loop-i
invariant-loop-i g l =
    (length l.entries.items ≡ l.i)
    × AreEntries g.A.Archive.tells g.A.Archive.blobs l.manifest.files (map parts_in l.entries.items)
    × (IsTrue g.A.Archive.tells → first_of (missing_in g.A.Archive.blobs) (drop l.i l.manifest.files) ≡ first_of (missing_in g.A.Archive.blobs) l.manifest.files)
    × ((g.S.BlobSource.view l.fn.source).faults ≤ (g.S.BlobSource.view l.source).faults)
    × ((g.S.BlobSource.view l.source).reads ≡ (g.S.BlobSource.view l.fn.source).reads)
    × ((g.S.BlobSource.view l.source).identity ≡ (g.S.BlobSource.view l.fn.source).identity)
