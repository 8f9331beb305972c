use Rattle.std.proofs.Common.{◌≡◌, rules, arith, true, false}
use Rattle.byte_text.proofs.Lists.{filter_keeps, filter_skips}
use Rattle.cache_outside.specs.Listing.{is_named, is_manifest}
use Rattle.cache_outside.proofs.listed.number.Goals as goal
use Rattle.cache_outside.proofs.listed.number.Goals.{then-is_manifest_name+else-eq, else-is_manifest_name}

pub returns-then-eq : goal.returns-then-eq
returns-then-eq c =
    let step = filter_keeps c.args.blobs.now c.loop-i.i _ c.get.ensures is_manifest (search rules) in
    let here : is_named c.args.name.now c.get.result.now ≡ true = search rules in
    let e = rw (step, here) at c.loop-i.invariant.1 in
    e

pub loop-i-preserved : goal.loop-i-preserved
loop-i-preserved c =
    elim c.if-is_manifest_name.branch [
      | then-is_manifest_name+else-eq w ↦
          let step = filter_keeps c.args.blobs.now c.loop-i.i _ c.get.ensures is_manifest (search rules) in
          let other : is_named c.args.name.now c.get.result.now ≡ false = search rules in
          let e = rw (step, other) at c.loop-i.invariant.1 in
          (omega arith, rw w.count-is e)
      | else-is_manifest_name w ↦
          let step = filter_skips c.args.blobs.now c.loop-i.i _ c.get.ensures is_manifest (search rules) in
          let e = rw step at c.loop-i.invariant.1 in
          (omega arith, rw w.count-is e)
    ]
