use Rattle.std.proofs.Common.{◌≡◌, List, ℕ, false, drop, ◌+◌, add-one}
use Rattle.std.proofs.lemmas.List.{take_rest}
use Rattle.mount_manifest.specs.Manifest.{is_part_end, ends_with}
use Rattle.mount_manifest.proofs.names.ends_like_a_part.Goals as goal
use Rattle.mount_manifest.proofs.Sound.{ends_later}

pub loop-from-preserved : goal.loop-from-preserved
loop-from-preserved c =
    let bs : List ℕ = c.args.bytes.now in
    let i : ℕ = c.loop-from.from in
    let a = c.is_part_end.ensures in
    let b = c.if-is_part_end.ensures in
    let r = take_rest bs i in
    let fails : is_part_end (drop i bs) ≡ false = cc in
    let later : ends_with is_part_end (drop (i + 1) bs) ≡ ends_with is_part_end bs =
    rw add-one (ends_later is_part_end bs i _ c.loop-from-test.true fails c.loop-from.invariant) in
    later
