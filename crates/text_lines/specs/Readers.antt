-- A reader of lines, and what its next line is.
use Rattle.std.specs.Prelude.{ℕ, ◌≡◌, ◌<◌, ◌≤◌, ◌+◌, ◌-◌, Bool, true, false, IsTrue, List, [], ◌∷◌, ◌++◌, length, drop, min, Option, Some, None, Result, Ok, Err}
use Rattle.directory_input.specs.Reads.{Read, one_read, slice_of}
use Rattle.directory_input.specs.Files.{FilesView}
use Rattle.directory_input.specs.Windows.{Window, FitsFile, window_bytes, moved_to}
use Rattle.directory_input.specs.declared.files.BytesError.{BytesError}
use Rattle.text_lines.specs.Lines.{cut}
use Rattle.text_lines.specs.Walks.{taken, then_lines, first_size, Lands}
use Rattle.text_lines.specs.declared.reader.Line.{Line}
use Rattle.text_lines.specs.declared.reader.LineError.{LineError}
use Rattle.text_lines.specs.declared.steps.Step.{Step}
use Rattle.text_lines.specs.declared.reader.LineError.TheVariants.{Unended, TooLong, Bytes}

-- the greatest number of bytes of a line, its end counted
abbrev pub line_limit : ℕ
line_limit = 16777216

-- how many bytes are read at once
abbrev pub piece_size : ℕ
piece_size = 65536

-- an input that stands where the next line begins, and the bytes behind that place that were read ahead
pub record Reading : Type 0 where
  pub input : Window
  pub ahead : List ℕ

-- a reader that has left so many of the bytes read ahead behind
abbrev pub skip_of : Reading → ℕ → Reading
skip_of r n = record { input = moved_to (r.input.position + n) r.input; ahead = drop n r.ahead }

-- the bytes of an input from its position on
abbrev pub rest : (ℕ → List ℕ) → Window → List ℕ
rest bytes w = drop w.position (window_bytes bytes w)

-- what was read ahead are the bytes of these files at that place
pub record FitsBytes (files : FilesView) (r : Reading) : Type 0 where
  pub file : FitsFile files r.input
  pub inside : r.input.position + length r.ahead ≤ r.input.size
  pub ahead : IsTrue files.tells
      → r.ahead ++ drop (r.input.position + length r.ahead) (window_bytes files.bytes r.input) ≡ rest files.bytes r.input

-- whether bytes are read ahead; where none are, the input has ended
abbrev pub HasMore : Bool → Reading → Type 0
HasMore true r = 0 < length r.ahead
HasMore false r = (r.ahead ≡ []) × (r.input.position ≡ r.input.size)

-- a read of a whole piece, or of all that the input (which begins there, in that file, and has so many bytes) still has
abbrev pub IsPiece : (file start size : ℕ) → Read → Type 0
IsPiece file start size r =
    (r.file ≡ file) × (start ≤ r.at) × (r.at < start + size) × (r.size ≡ min piece_size (start + size - r.at))

abbrev pub ArePieces : (file start size : ℕ) → List Read → Type 0
ArePieces file start size [] = Unit {0}
ArePieces file start size (r ∷ rs) = IsPiece file start size r × ArePieces file start size rs

-- the later state comes from the earlier one by reads of pieces of the input
pub record ReadsPieces {S : Type 0} (goes_by : List Read → S → S → Type 0) (w : Window) (before now : S) : Type 0 where
  pub reads : List Read
  pub pieces : ArePieces w.file w.start w.size reads
  pub by : goes_by reads before now

-- a refusal for a text whose next line begins here: the line is too long, or the text ends in it
abbrev pub Refuses : LineError → List ℕ → Type 0
Refuses (TooLong p) text = line_limit < first_size (cut text)
Refuses (Unended p) text = ((cut text).lines ≡ []) × (0 < first_size (cut text)) × (first_size (cut text) ≤ line_limit)
Refuses (Bytes e) text = Unit {0}

-- the answer for a text whose next line begins at the place `at`: with these bytes from there on before the call, and
-- those from the place `now` on after it
abbrev pub GivesLine : Result (Option Line) LineError → (before after : List ℕ) → (at now : ℕ) → Type 0
GivesLine (Ok None) before after at now = before ≡ []
GivesLine (Ok (Some line)) before after at now =
    (cut before ≡ then_lines (taken line.content (now - at)) (cut after)) × (now - at ≤ line_limit)
GivesLine (Err e) before after at now = Refuses e before

-- the same of files whose bytes are told, where the input stood before the call and stands after it
abbrev pub ReadsLine : FilesView → Result (Option Line) LineError → (before now : Window) → Type 0
ReadsLine files result before now =
    IsTrue files.tells → GivesLine result (rest files.bytes before) (rest files.bytes now) before.position now.position

-- a refusal names the place where the line begins
abbrev pub Names : ℕ → LineError → Type 0
Names at (TooLong p) = p ≡ at
Names at (Unended p) = p ≡ at
Names at (Bytes e) = Unit {0}

-- a line begins where the reader stood, which stands behind it then; where there is none, the input has ended; after a
-- refusal it stands where it stood
abbrev pub Places : Result (Option Line) LineError → (at now end : ℕ) → Type 0
Places (Ok None) at now end = (now ≡ at) × (at ≡ end)
Places (Ok (Some line)) at now end = (line.at ≡ at) × (at < now) × (now ≤ end)
Places (Err e) at now end = Names at e × (now ≡ at)

-- how far the reader came through a line; a refusal names the place where that begins
abbrev pub Came : Result Bool LineError → (at now end : ℕ) → Type 0
Came (Ok false) at now end = (now ≡ at) × (at ≡ end)
Came (Ok true) at now end = (at < now) × (now ≤ end)
Came (Err e) at now end = Names at e

-- one step through a line: how far the reader came, and, where there was no step, that the input has ended
abbrev pub Moved : Result (Option Step) LineError → (before now : Window) → Type 0
Moved (Ok (Some s)) before now = (0 < s.used) × (before.position + s.used ≤ before.size) × (now ≡ moved_to (before.position + s.used) before)
Moved (Ok None) before now = (now ≡ before) × (before.position ≡ before.size)
Moved (Err e) before now = now ≡ before

-- one step through a line, from content before it to content now: its bytes
abbrev pub Steps : Result (Option Step) LineError → (slash : Bool) → (before now : List ℕ) → (bytes left : List ℕ) → Type 0
Steps (Ok (Some s)) slash before now bytes left = Lands s.ended slash s.slash before now s.used bytes left
Steps (Ok None) slash before now bytes left = bytes ≡ []
Steps (Err e) slash before now bytes left = Unit {0}

abbrev pub line_of : ℕ → List ℕ → Line
line_of at content = record { at = at; content = content }

-- what is lent is the content of the line that begins where the reader stands, and a newline stands behind it
abbrev pub LendsLine : FilesView → Reading → List ℕ → Type 0
LendsLine files r content =
    ReadsLine files (Ok (Some (line_of r.input.position content))) r.input (moved_to (r.input.position + (length content + 1)) r.input)

-- so many bytes of an input of these files, from its position on, where they are told
abbrev pub bytes_ahead : FilesView → Window → ℕ → List ℕ
bytes_ahead files w size = slice_of w.position size (window_bytes files.bytes w)

-- a read of a piece at the position of an input, into so much room
abbrev pub piece_of : Window → ℕ → List Read
piece_of w room = one_read w.file (w.start + w.position) (min room (w.size - w.position))

-- the answer of a call that puts the line into a place of the caller's
abbrev pub line_answer : Result Bool LineError → Line → Result (Option Line) LineError
line_answer (Ok true) line = Ok (Some line)
line_answer (Ok false) line = Ok None
line_answer (Err e) line = Err e

-- the refusal of the bytes that a refusal is
abbrev pub error_refusal : LineError → Option BytesError
error_refusal (Bytes e) = Some e
error_refusal (Unended at) = None
error_refusal (TooLong at) = None

-- the refusal of the bytes that an answer is
abbrev pub line_refusal : {T : Type 0} → Result T LineError → Option BytesError
line_refusal (Ok x) = None
line_refusal (Err e) = error_refusal e

-- a refusal of the bytes, and none of the line
abbrev pub IsOfBytes : LineError → Type 0
IsOfBytes (Bytes e) = Unit {0}
IsOfBytes (Unended at) = ⊥
IsOfBytes (TooLong at) = ⊥

-- what a reader keeps: the buffer is as long as a piece or the input, the bytes from `from` to `till` of it are read
-- ahead, and the input stands behind them
pub record IsBuffered (input : Window) (place room from till : ℕ) : Type 0 where
  pub room_is : room ≡ min piece_size input.size
  pub order : from ≤ till
  pub held : till ≤ room
  pub stands : input.position ≡ place + (till - from)
  pub ends : input.position ≤ input.size
  pub small : input.size < 18446744073709551616
