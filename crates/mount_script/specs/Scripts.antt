-- What a text says as a script: its blocks of lines, or why it is none.
use Rattle.std.specs.Prelude.{ℕ, ◌≡◌, ◌+◌, ◌||◌, ◌==◌, List, [], ◌∷◌, length, Bool, nat_lt, Option, Some, None, Result, Ok, Err, if◌then◌else◌, codes}
use Rattle.std.specs.List.{onto_first}
use Rattle.std.specs.Str.{bytes_eq}
use Rattle.mount_script.specs.Blocks.{Entry, divider, one, blocks}
use Rattle.mount_script.specs.Building.{built}
use Rattle.mount_script.specs.Commands.{command_of}
use Rattle.mount_script.specs.declared.blocks.Building.{Building}
use Rattle.mount_script.specs.declared.command.Command.{Command}
use Rattle.mount_script.specs.declared.command.Line.{Line}
use Rattle.mount_script.specs.declared.error.ScriptError.{ScriptError}
use Rattle.mount_script.specs.declared.error.ScriptError.TheVariants.{TooLong, BadLine, NoMemory}

-- a newline ends a line; the last line may lack it
abbrev pub lines_of : List ℕ → List (List ℕ)
lines_of [] = []
lines_of (b ∷ bs) = if b == 10 then [] ∷ lines_of bs else onto_first b (lines_of bs)

abbrev pub put_entry : Entry → Result (List Entry) ScriptError → Result (List Entry) ScriptError
put_entry e (Ok es) = Ok (e ∷ es)
put_entry e (Err b) = Err b

-- a line that is out of form decides, whatever stands behind it
abbrev pub put_line : ℕ → Option Command → Result (List Entry) ScriptError → Result (List Entry) ScriptError
put_line n None rest = Err (BadLine n)
put_line n (Some c) rest = put_entry (one (record { number = n; command = c })) rest

-- the lines from number n on, without the empty ones, or the first that is out of form
abbrev pub entries : ℕ → List (List ℕ) → Result (List Entry) ScriptError
entries n [] = Ok []
entries n (l ∷ ls) =
    if length l == 0 then entries (n + 1) ls
    else if bytes_eq l (codes "--") then put_entry divider (entries (n + 1) ls)
    else put_line n (command_of l) (entries (n + 1) ls)

abbrev pub blocks_of : Result (List Entry) ScriptError → Result (List (List Line)) ScriptError
blocks_of (Ok es) = Ok (blocks [] es)
blocks_of (Err e) = Err e

abbrev pub is_too_long : List ℕ → Bool
is_too_long text = nat_lt 1048576 (length text) || nat_lt 65535 (length (lines_of text))

-- the blocks of a text, each a list of lines; its length is looked at before its lines
abbrev pub script : List ℕ → Result (List (List Line)) ScriptError
script text = if is_too_long text then Err TooLong else blocks_of (entries 1 (lines_of text))

-- an answer of `Script::read`: the text's, or want of memory, which is free
abbrev pub IsScript : Result (List (List Line)) ScriptError → Result (List (List Line)) ScriptError → Type 0
IsScript (Ok s) wanted = wanted ≡ Ok s
IsScript (Err NoMemory) wanted = Unit {0}
IsScript (Err e) wanted = wanted ≡ Err e

-- ---- in the middle of the lines

-- the blocks, where those so far go on with these entries
abbrev pub going_on : Building → Result (List Entry) ScriptError → Result (List (List Line)) ScriptError
going_on b (Ok es) = Ok (built b es)
going_on b (Err e) = Err e

-- line number n is taken: the lines behind it make the same blocks as with it in front
abbrev pub TakesLine : Building → Building → ℕ → List ℕ → Result (Unit {0}) ScriptError → Type 0
TakesLine old new n line (Ok u) = (ls : List (List ℕ)) → going_on old (entries n (line ∷ ls)) ≡ going_on new (entries (n + 1) ls)
TakesLine old new n line (Err NoMemory) = Unit {0}
TakesLine old new n line (Err e) = (ls : List (List ℕ)) → going_on old (entries n (line ∷ ls)) ≡ Err e

-- all lines of a text are taken
abbrev pub TakesLines : List ℕ → Result Building ScriptError → Type 0
TakesLines text (Ok b) = blocks_of (entries 1 (lines_of text)) ≡ Ok (built b [])
TakesLines text (Err NoMemory) = Unit {0}
TakesLines text (Err e) = blocks_of (entries 1 (lines_of text)) ≡ Err e
