use Rattle.std.proofs.Common.{◌≡◌, ◌≤◌, ◌-◌, length, take}
use Rattle.std.specs.Prelude.{IsTrue}
use Rattle.blob_parts.specs.Content.{content, content_places, slice_of}
use Rattle.blob_parts.specs.Takes.{Took}
use Rattle.blob_parts.proofs.read.read_into.Given as goal

abbrev pub invariant-loop-done : goal.invariant-loop-done
invariant-loop-done g l =
    (l.done ≤ length l.out)
    × ((g.S.BlobSource.view l.fn.source).faults ≤ (g.S.BlobSource.view l.source).faults)
    × ((g.S.BlobSource.view l.source).identity ≡ (g.S.BlobSource.view l.fn.source).identity)
    × (IsTrue g.A.Archive.tells → take l.done l.out ≡ slice_of (content g.A.Archive.blobs l.table.number l.file) l.at l.done)
    × (IsTrue g.A.Archive.tells → Took (g.S.BlobSource.view l.fn.source).reads (g.S.BlobSource.view l.source).reads (slice_of (content_places g.A.Archive.blobs l.table.number l.file) l.at l.done))

abbrev pub decreases-loop-done : goal.decreases-loop-done
decreases-loop-done g l = length l.out - l.done
