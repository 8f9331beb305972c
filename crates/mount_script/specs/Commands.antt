-- What a line asks for, by its words: one function a command, over the words behind its first.
use Rattle.std.specs.Prelude.{ℕ, ◌≡◌, List, [], ◌∷◌, Option, Some, None, option_and_then, option_map, Result, Ok, Err, if◌then◌else◌, codes}
use Rattle.std.specs.List.{join_with_byte}
use Rattle.std.specs.Str.{bytes_eq}
use Rattle.mount_script.specs.Words.{words_of, number_up_to, name_of, mount_name, some_bytes}
use Rattle.mount_script.specs.declared.command.Command.{Command}
use Rattle.mount_script.specs.declared.command.Command.TheVariants.{Mount, Unmount, Clear, Decay, Stats, Search, Fetch, Read}
use Rattle.mount_script.specs.declared.error.Misread.{Misread}
use Rattle.mount_script.specs.declared.error.Misread.TheVariants.{Form, NoMemory}

infixl 10 ◌>>=◌
abbrev pub ◌>>=◌ : {A B : Type 0} → Option A → (A → Option B) → Option B
o >>= f = option_and_then f o

-- `mount NAME MANIFEST`
abbrev pub mount_line : List (List ℕ) → Option Command
mount_line (n ∷ m ∷ []) = do
  name ← mount_name n
  manifest ← name_of m
  Some (Mount name manifest)
mount_line _ = None

-- `unmount NAME` and `clear NAME`
abbrev pub named_line : (List ℕ → Command) → List (List ℕ) → Option Command
named_line command (n ∷ []) = option_map command (mount_name n)
named_line command _ = None

-- `decay` and `stats`
abbrev pub bare_line : Command → List (List ℕ) → Option Command
bare_line command [] = Some command
bare_line command _ = None

-- `search NAME SIZE QUERY`, where the query is the rest of the line
abbrev pub search_line : List (List ℕ) → Option Command
search_line (n ∷ s ∷ rest) = do
  name ← mount_name n
  size ← number_up_to 10000 s
  query ← some_bytes (join_with_byte 32 rest)
  Some (Search name size query)
search_line _ = None

-- `fetch NAME SEGMENT DOC`
abbrev pub fetch_line : List (List ℕ) → Option Command
fetch_line (n ∷ s ∷ d ∷ []) = do
  name ← mount_name n
  segment ← name_of s
  doc ← number_up_to 4294967295 d
  Some (Fetch name segment doc)
fetch_line _ = None

-- `read NAME FILE AT LEN`
abbrev pub read_line : List (List ℕ) → Option Command
read_line (n ∷ f ∷ a ∷ l ∷ []) = do
  name ← mount_name n
  file ← name_of f
  at ← number_up_to 18446744073709551615 a
  len ← number_up_to 1048576 l
  Some (Read name file at len)
read_line _ = None

abbrev pub command_from : List ℕ → List (List ℕ) → Option Command
command_from w ws =
    if bytes_eq w (codes "mount") then mount_line ws
    else if bytes_eq w (codes "unmount") then named_line Unmount ws
    else if bytes_eq w (codes "clear") then named_line Clear ws
    else if bytes_eq w (codes "decay") then bare_line Decay ws
    else if bytes_eq w (codes "stats") then bare_line Stats ws
    else if bytes_eq w (codes "search") then search_line ws
    else if bytes_eq w (codes "fetch") then fetch_line ws
    else if bytes_eq w (codes "read") then read_line ws
    else None

abbrev pub by_words : List (List ℕ) → Option Command
by_words [] = None
by_words (w ∷ ws) = command_from w ws

-- the command of a line, or None where the line is out of form
abbrev pub command_of : List ℕ → Option Command
command_of line = by_words (words_of line)

-- what was read is what the words say; want of memory is free
abbrev pub IsOf : {A : Type 0} → Result A Misread → Option A → Type 0
IsOf (Ok x) wanted = wanted ≡ Some x
IsOf (Err Form) wanted = wanted ≡ None
IsOf (Err NoMemory) wanted = Unit {0}
