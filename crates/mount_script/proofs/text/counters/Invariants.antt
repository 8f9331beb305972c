use Rattle.std.proofs.Common.{◌≡◌, ◌++◌, drop}
use Rattle.std.specs.Prelude.{codes, map}
use Rattle.std.specs.List.{flat_map}
use Rattle.mount_script.specs.Replies.{counter_text, counter_of}
use Rattle.mount_script.proofs.text.counters.Given as goal

abbrev pub invariant-loop-word : goal.invariant-loop-word
invariant-loop-word l = l.text ++ flat_map counter_text (map counter_of (drop l.word-index l.counters)) ≡ codes "stats" ++ flat_map counter_text (map counter_of l.counters)
