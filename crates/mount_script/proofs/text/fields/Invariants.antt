use Rattle.std.proofs.Common.{◌≡◌, ◌++◌, drop}
use Rattle.std.specs.List.{flat_map}
use Rattle.mount_script.specs.Replies.{field_text, fields_text}
use Rattle.mount_script.proofs.text.fields.Given as goal

abbrev pub invariant-loop-field : goal.invariant-loop-field
invariant-loop-field l = l.text ++ flat_map field_text (drop l.field-index l.fields) ≡ fields_text l.fields
