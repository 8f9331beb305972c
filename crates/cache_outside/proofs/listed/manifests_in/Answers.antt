use Rattle.std.proofs.Common.{rules, arith}
use Rattle.byte_text.proofs.Lists.{filter_keeps, filter_skips}
use Rattle.cache_outside.specs.Listing.{is_manifest}
use Rattle.cache_outside.proofs.listed.manifests_in.Goals as goal
use Rattle.cache_outside.proofs.listed.manifests_in.Goals.{then-is_manifest_name, else-is_manifest_name}

pub loop-i-preserved : goal.loop-i-preserved
loop-i-preserved c =
    elim c.if-is_manifest_name.branch [
      | then-is_manifest_name w ↦
          let step = filter_keeps c.args.blobs.now c.loop-i.i _ c.get.ensures is_manifest (search rules) in
          let e = rw step at c.loop-i.invariant.1 in
          (omega arith, rw w.count-is (omega (arith, e)))
      | else-is_manifest_name w ↦
          let step = filter_skips c.args.blobs.now c.loop-i.i _ c.get.ensures is_manifest (search rules) in
          let e = rw step at c.loop-i.invariant.1 in
          (omega arith, rw w.count-is e)
    ]
