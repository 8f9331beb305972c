use Rattle.std.proofs.Common.{◌∙◌, ◌++◌, ◌∷◌, [], length, ap, subst}
use Rattle.shard_maker.specs.Cuts.{part_blobs}
use Rattle.shard_maker.specs.Made.{made_file, AreMadeBlobs}
use Rattle.shard_maker.proofs.Joined.{joined}
use Rattle.shard_maker.proofs.archive.made_blobs.Goals as goal

pub returns : goal.returns
returns c =
    let bytes = c.as_bytes-bytes.result.now in
    let told = c.in_ok-made_manifest.field-0 in
    let parts = c.in_ok-push.ensures.ok ∙ ap (λ blobs. blobs ++ (c.in_ok-manifest_name.field-0, told) ∷ []) (c.in_ok-blobs.ensures ∙ ap (λ f. part_blobs f bytes) c.in_ok-file.ensures)
    ∙ ap (λ name. part_blobs (made_file (length bytes)) bytes ++ (name, told) ∷ []) c.in_ok-manifest_name.ensures in
    let made : AreMadeBlobs c.args.docs bytes c.push.new.self = record { told = told; manifest = c.in_ok-made_manifest.ensures; parts = parts; joined = joined bytes } in
    subst (λ text. AreMadeBlobs c.args.docs text c.push.new.self) c.as_bytes-bytes.ensures made
