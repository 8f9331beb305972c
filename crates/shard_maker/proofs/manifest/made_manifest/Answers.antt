use Rattle.std.proofs.Common.{◌≡◌, ◌∙◌, ◌≤◌, refl, ap, arith, false, Some}
use Rattle.std.proofs.lemmas.Str.{IsUtf8-string_bytes}
use Rattle.serde_json.specs.Data.{depth}
use Rattle.serde_json.specs.View.{view}
use Rattle.serde_json.specs.Written.{compact_text, has_float}
use Rattle.shard_maker.proofs.Facts.{manifest_is}
use Rattle.shard_maker.proofs.manifest.made_manifest.Goals as goal

pub returns : goal.returns
returns c =
    let value = c.in_ok-value.ensures in
    let whole : has_float (view c.in_ok-value.value) ≡ false = rw value refl in
    let shallow : depth (view c.in_ok-value.value) ≤ 127 = rw value (omega arith) in
    rw c.text_of.ensures (manifest_is c.args.docs c.args.size _ c.requires.docs c.requires.size (IsUtf8-string_bytes c.in_ok-text.text)
    (c.in_ok-text.ensures.text whole ∙ ap compact_text value) (c.in_ok-text.ensures.reads_back shallow ∙ ap Some value))
