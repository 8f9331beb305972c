use Rattle.std.proofs.Common.{◌≡◌, ◌≤◌, ◌-◌, length, take}
use Rattle.std.specs.Prelude.{IsTrue}
use Rattle.cache_outside.specs.Listing.{blob_bytes}
use Rattle.blob_parts.specs.Content.{places, slice_of}
use Rattle.blob_parts.specs.Takes.{Took}
use Rattle.blob_parts.proofs.loading.fill.Given as goal

abbrev pub invariant-loop-done : goal.invariant-loop-done
invariant-loop-done g l =
    (l.done ≤ length l.out)
    × ((g.S.BlobSource.view l.fn.source).faults ≤ (g.S.BlobSource.view l.source).faults)
    × ((g.S.BlobSource.view l.source).identity ≡ (g.S.BlobSource.view l.fn.source).identity)
    × (IsTrue g.A.Archive.tells → take l.done l.out ≡ slice_of (blob_bytes g.A.Archive.blobs l.blob) 0 l.done)
    × Took (g.S.BlobSource.view l.fn.source).reads (g.S.BlobSource.view l.source).reads (places l.blob 0 l.done)

abbrev pub decreases-loop-done : goal.decreases-loop-done
decreases-loop-done g l = length l.out - l.done
