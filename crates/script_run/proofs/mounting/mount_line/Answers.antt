use Rattle.std.proofs.Common.{subst, ℕ, List}
use Rattle.blob_parts.specs.Loads.{asked}
use Rattle.blob_parts.specs.Takes.{Takes}
use Rattle.script_run.proofs.Steps.{manifest_took}
use Rattle.script_run.proofs.mounting.mount_line.Goals as goal

pub returns-in-Ok-clause-took : goal.returns-in-Ok-clause-took
returns-in-Ok-clause-took g c = λ told.
    let read = c.load_mount.ensures.reads told in
    manifest_took g.A.Archive.blobs c.args.manifest.now (g.S.BlobSource.view c.args.source.now) (g.S.BlobSource.view c.load_mount.new.source) c.load_mount.result
    (subst (λ (name : List ℕ). Takes (g.S.BlobSource.view c.args.source.now).reads (g.S.BlobSource.view c.load_mount.new.source).reads (asked g.A.Archive.blobs name) c.load_mount.result) c.as_str.ensures.value read)
