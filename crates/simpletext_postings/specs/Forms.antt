-- The form of a line of a postings text.
use Rattle.std.specs.Prelude.{ℕ, List}

-- what a line says, by its content
pub data Form : Type 0 where
  Field : List ℕ → Form
  Term : List ℕ → Form
  Doc : ℕ → Form
  Freq : ℕ → Form
  Pos : ℕ → Form
  StartOffset : Form
  EndOffset : Form
  Payload : Form
  End : Form
  Checksum : Form
  -- four blanks, and then none of the forms
  Indented : Form
  Unknown : Form
