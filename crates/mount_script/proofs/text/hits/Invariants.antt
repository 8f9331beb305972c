use Rattle.std.proofs.Common.{◌≡◌, ◌++◌, drop}
use Rattle.std.specs.List.{flat_map}
use Rattle.mount_script.specs.Replies.{hit_text, hits_text}
use Rattle.mount_script.proofs.text.hits.Given as goal

abbrev pub invariant-loop-hit : goal.invariant-loop-hit
invariant-loop-hit l = l.text ++ flat_map hit_text (drop l.hit-index l.shown) ≡ hits_text l.fn.total l.shown
