-- The lines of a text from a place inside a line on.
use Rattle.std.specs.Prelude.{ℕ, ◌≡◌, ◌<◌, ◌+◌, Bool, true, false, List, [], ◌∷◌, ◌++◌, length, drop}
use Rattle.text_lines.specs.Escapes.{backslash}
use Rattle.text_lines.specs.Lines.{Taken, Cut, cut}

abbrev pub taken : List ℕ → ℕ → Taken
taken content size = record { content = content; size = size }

-- a line in front of the other lines
abbrev pub then_lines : Taken → Cut → Cut
then_lines l c = record { lines = l ∷ c.lines; tail = c.tail }

-- content that takes so many bytes of the text, in front of what the first line has
abbrev pub front_of : List ℕ → ℕ → List Taken → Taken → Cut
front_of content size [] tail = record { lines = []; tail = taken (content ++ tail.content) (size + tail.size) }
front_of content size (l ∷ ls) tail = then_lines (taken (content ++ l.content) (size + l.size)) (record { lines = ls; tail = tail })

abbrev pub front : List ℕ → ℕ → Cut → Cut
front content size c = front_of content size c.lines c.tail

-- the lines from here on, where a backslash (which is counted before) does or does not stand before these bytes
abbrev pub cut_after : Bool → List ℕ → Cut
cut_after false bytes = cut bytes
cut_after true [] = record { lines = []; tail = taken (backslash ∷ []) 0 }
cut_after true (x ∷ bytes) = front (x ∷ []) 1 (cut bytes)

-- how many bytes the first line takes: one that ends, or what stands after the last end
abbrev pub first_size_of : List Taken → Taken → ℕ
first_size_of [] tail = tail.size
first_size_of (l ∷ ls) tail = l.size

abbrev pub first_size : Cut → ℕ
first_size c = first_size_of c.lines c.tail

-- from content before these bytes to content now, with so many bytes more: the line has ended, or goes on
abbrev pub Lands : (ended slash_before slash_now : Bool) → (before now : List ℕ) → (used : ℕ) → (bytes left : List ℕ) → Type 0
Lands true slash_before slash_now before now used bytes left =
    (k : ℕ) → front before k (cut_after slash_before bytes) ≡ then_lines (taken now (k + used)) (cut left)
Lands false slash_before slash_now before now used bytes left =
    (k : ℕ) → front before k (cut_after slash_before bytes) ≡ front now (k + used) (cut_after slash_now left)

-- the content of the first line of these bytes, with fewer than 32, and the newline behind it stands among them
pub record IsNear (content bytes : List ℕ) : Type 0 where
  pub few : length content < 32
  pub inside : length content < length bytes
  pub lands : (u : List ℕ) → Lands true false false [] content (length content + 1) (bytes ++ u) (drop (length content + 1) bytes ++ u)
