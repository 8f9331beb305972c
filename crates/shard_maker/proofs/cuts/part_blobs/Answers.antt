use Rattle.std.proofs.Common.{◌∙◌, ◌++◌, ◌∷◌, [], sym, ap}
use Rattle.shard_maker.specs.Cuts.{first_blobs}
use Rattle.shard_maker.proofs.Joined.{blobs_more}
use Rattle.shard_maker.proofs.cuts.part_blobs.Goals as goal

pub loop-k-preserved : goal.loop-k-preserved
loop-k-preserved c =
    c.in_ok-push.ensures.ok ∙ ap (λ blobs. blobs ++ (c.in_ok-name.name, c.in_ok-part_text.field-0) ∷ []) c.loop-k.invariant
    ∙ (λ i. first_blobs c.args.file.now c.args.text.now c.loop-k.k ++ (c.in_ok-name.ensures i, c.in_ok-part_text.ensures i) ∷ [])
    ∙ sym (blobs_more c.args.file.now c.args.text.now c.loop-k.k)
