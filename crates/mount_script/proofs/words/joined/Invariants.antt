use Rattle.std.proofs.Common.{◌≡◌, ◌++◌, drop}
use Rattle.std.specs.List.{flat_map, join_with_byte}
use Rattle.mount_script.specs.Words.{texts}
use Rattle.mount_script.proofs.Joined.{behind_blank}
use Rattle.mount_script.proofs.words.joined.Given as goal

abbrev pub invariant-loop-word : goal.invariant-loop-word
invariant-loop-word l = l.text ++ flat_map behind_blank (texts (drop l.word-index l.rest)) ≡ join_with_byte 32 (texts l.words)
