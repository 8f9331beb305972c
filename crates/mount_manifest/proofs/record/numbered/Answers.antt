use Rattle.std.proofs.Common.{◌≡◌, ◌++◌, ◌∙◌, ap, refl, arith, List, ℕ}
use Rattle.std.specs.Prelude.{codes}
use Rattle.std.specs.Fmt.{decimal}
use Rattle.mount_manifest.proofs.Digits.{part_is_name}
use Rattle.mount_manifest.proofs.record.numbered.Goals as goal

pub unwrap-requires : goal.unwrap-requires
unwrap-requires c =
    let tail : List ℕ = codes ".part" ++ decimal c.args.k in
    let whole = part_is_name c.args.name.now c.args.k c.as_str-own.ensures.name c.requires (omega arith) in
    let same : c.as_bytes.result.now ≡ c.args.name.now ++ tail =
    c.as_bytes.ensures.value ∙ c.in_ok-text.ensures.ok ∙ ap (λ (r : List ℕ). r ++ tail) c.as_str-own.ensures.value in
    rw (c.in_ok-read.ensures, same, whole) refl
