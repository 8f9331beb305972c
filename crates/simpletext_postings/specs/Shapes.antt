-- The shape of a line, and its form.
use Rattle.std.specs.Prelude.{ℕ, ◌≤◌, List, length, drop}
use Rattle.simpletext_postings.specs.Forms.{Form}
use Rattle.simpletext_postings.specs.Forms as form
use Rattle.simpletext_postings.specs.declared.shape.Shape.{Shape}
use Rattle.simpletext_postings.specs.declared.shape.Shape.TheVariants.{Field, Term, Doc, Freq, Pos, StartOffset, EndOffset, Payload, End, Checksum, Indented, Unknown}

-- the form of a line of that shape with that content
abbrev pub form_with : Shape → List ℕ → Form
form_with Field s = form.Field (drop 6 s)
form_with Term s = form.Term (drop 7 s)
form_with (Doc n) s = form.Doc n
form_with (Freq n) s = form.Freq n
form_with (Pos n) s = form.Pos n
form_with StartOffset s = form.StartOffset
form_with EndOffset s = form.EndOffset
form_with Payload s = form.Payload
form_with End s = form.End
form_with Checksum s = form.Checksum
form_with Indented s = form.Indented
form_with Unknown s = form.Unknown

-- a line with a name is at least as long as what stands before the name
abbrev pub HasName : Shape → List ℕ → Type 0
HasName Field s = 6 ≤ length s
HasName Term s = 7 ≤ length s
HasName _ s = Unit {0}
