-- The lines of a text.
use Rattle.std.specs.Prelude.{ℕ, ◌+◌, ◌==◌, List, [], ◌∷◌, if◌then◌else◌}
use Rattle.text_lines.specs.Escapes.{newline, backslash}

-- a line: its content, and how many bytes of the text it takes
pub record Taken : Type 0 where
  pub content : List ℕ
  pub size : ℕ

-- the lines that end, and what stands after the last of them
pub record Cut : Type 0 where
  pub lines : List Taken
  pub tail : Taken

abbrev pub grown : ℕ → ℕ → Taken → Taken
grown b k line = record { content = b ∷ line.content; size = k + line.size }

-- a byte, which takes k bytes of the text, in front of the first line
abbrev pub in_front_of : ℕ → ℕ → List Taken → Taken → Cut
in_front_of b k [] tail = record { lines = []; tail = grown b k tail }
in_front_of b k (l ∷ ls) tail = record { lines = grown b k l ∷ ls; tail = tail }

abbrev pub in_front : ℕ → ℕ → Cut → Cut
in_front b k cut = in_front_of b k cut.lines cut.tail

abbrev pub ended : Cut → Cut
ended cut = record { lines = record { content = []; size = 1 } ∷ cut.lines; tail = cut.tail }

abbrev pub nothing : Cut
nothing = record { lines = []; tail = record { content = []; size = 0 } }

-- a backslash that is last takes no byte, and stands in the tail
unfoldable pub cut : List ℕ → Cut
cut [] = nothing
cut (x ∷ []) = if x == newline then ended nothing else in_front x 1 nothing
cut (x ∷ y ∷ rest) =
    if x == newline then ended (cut (y ∷ rest))
    else if x == backslash then in_front y 2 (cut rest)
    else in_front x 1 (cut (y ∷ rest))

-- each line with its place
abbrev pub placed : ℕ → List Taken → List (ℕ × List ℕ)
placed at [] = []
placed at (l ∷ ls) = (at, l.content) ∷ placed (at + l.size) ls

abbrev pub lines : List ℕ → List (ℕ × List ℕ)
lines text = placed 0 (cut text).lines
