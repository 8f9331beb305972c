use Rattle.std.proofs.Common.{◌≡◌, take}
use Rattle.std.specs.List.{list_any}
use Rattle.script_run.specs.Allowed.{is_memory}
use Rattle.script_run.proofs.alone.wants_memory.Given as goal

abbrev pub invariant-loop-reply : goal.invariant-loop-reply
invariant-loop-reply l = l.found ≡ list_any is_memory (take l.reply-index l.replies)
