-- The statuses of replies and runs, and what is written where the words or the script are not in form.
use Rattle.std.specs.Prelude.{ℕ, List, [], ◌++◌, true, false, codes}
use Rattle.std.specs.Fmt.{decimal}
use Rattle.mount_script.specs.declared.error.ScriptError.{ScriptError}
use Rattle.mount_script.specs.declared.error.ScriptError.TheVariants as script
use Rattle.script_run.specs.declared.ended.Ended.{Ended}
use Rattle.script_run.specs.declared.ended.Ended.TheVariants as ended
use Rattle.mount_script.specs.declared.reply.Reply.{Reply}
use Rattle.mount_script.specs.declared.reply.Reply.TheVariants.{Hits, NoMemory}

-- the status that a reply gives: 0 for hits, 6 for want of memory, 1 for every other
abbrev pub status_of : Reply → ℕ
status_of (Hits total shown) = 0
status_of NoMemory = 6
status_of _ = 1

-- what stands where the words are not in form
abbrev pub usage_text : List ℕ
usage_text = codes "usage\n"

-- what stands where a text is no script; no text is refused for want of memory
abbrev pub error_text : ScriptError → List ℕ
error_text script.TooLong = codes "too long\n"
error_text (script.BadLine line) = codes "line " ++ (decimal line ++ codes "\n")
error_text script.NoMemory = []

-- the status of a run: 1 where a line was `fault` or `gone`, 5 where the sink failed, 6 for want of memory
abbrev pub run_status : Ended → ℕ
run_status (ended.Done false) = 0
run_status (ended.Done true) = 1
run_status ended.SinkFault = 5
run_status ended.NoMemory = 6
