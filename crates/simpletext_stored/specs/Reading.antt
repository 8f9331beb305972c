-- A text read line by line, where the lines before say which lines may stand next.
use Rattle.std.specs.Prelude.{ℕ, ◌≡◌, ◌≤◌, ◌+◌, ◌==◌, ◌&&◌, List, [], ◌∷◌, ◌++◌, Bool, true, IsTrue, nat_lt, Result, Ok, Err, if◌then◌else◌}
use Rattle.text_lines.specs.Lines.{Taken, cut}

-- lines that are allowed, in order: the place where each begins, its form and its content
abbrev pub Lines : Type 0 → Type 0
Lines F = List (ℕ × F × List ℕ)

abbrev pub in_front : {F : Type 0} → (ℕ × F × List ℕ) → Result (Lines F) ℕ → Result (Lines F) ℕ
in_front line (Ok lines) = Ok (line ∷ lines)
in_front line (Err at) = Err at

-- The lines from a place on, after lines of the forms in `past`, the newest first; or the place of the first that is
-- not allowed there. A line has at most 16777216 bytes with its newline. Where a line is needed and none follows, the
-- place is that of the text's end; what no newline ends is a line that is not allowed.
abbrev pub lines_after : {F : Type 0} → (List ℕ → F) → (List F → F → Bool) → (List F → Bool) → List F → ℕ → List Taken → Taken → Result (Lines F) ℕ
lines_after form allowed may_end past at [] tail = if (tail.size == 0) && may_end past then Ok [] else Err at
lines_after form allowed may_end past at (l ∷ ls) tail =
    if nat_lt 16777216 l.size then Err at
    else if allowed past (form l.content)
    then in_front (at, form l.content, l.content) (lines_after form allowed may_end (form l.content ∷ past) (at + l.size) ls tail)
    else Err at

abbrev pub lines_of : {F : Type 0} → (List ℕ → F) → (List F → F → Bool) → (List F → Bool) → List ℕ → Result (Lines F) ℕ
lines_of form allowed may_end text = lines_after form allowed may_end [] 0 (cut text).lines (cut text).tail

abbrev pub map_ok : {A B : Type 0} → (A → B) → Result A ℕ → Result B ℕ
map_ok f (Ok x) = Ok (f x)
map_ok f (Err at) = Err at

-- ---- what is kept of the lines: a state that holds lines, their forms (the newest first), up to the place where the
-- next one begins

-- the answer says whether a line of this content may stand behind these, and then the new state holds it too
pub record Takes {F S : Type 0} (form : List ℕ → F) (allowed : List F → F → Bool) (holds : List F → Lines F → ℕ → S → Type 0)
    (past : List F) (kept : Lines F) (at : ℕ) (content : List ℕ) (new : S) (answer : Bool) : Type 0 where
  pub same : answer ≡ allowed past (form content)
  pub after : answer ≡ true → (now : ℕ) → at ≤ now → holds (form content ∷ past) (kept ++ (at, form content, content) ∷ []) now new

-- the state holds all lines of a text of so many bytes, which may end there; where the bytes are told, they are those
-- that the text says
pub record Holds {F S : Type 0} (may_end : List F → Bool) (holds : List F → Lines F → ℕ → S → Type 0)
    (tells : Bool) (said : Result (Lines F) ℕ) (size : ℕ) (state : S) : Type 0 where
  pub past : List F
  pub kept : Lines F
  pub held : holds past kept size state
  pub ends : may_end past ≡ true
  pub lines : IsTrue tells → said ≡ Ok kept
