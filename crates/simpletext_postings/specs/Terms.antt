-- The terms of a postings text, where the text has their entries, and the postings of a field and a term.
use Rattle.std.specs.Prelude.{ℕ, ◌≡◌, ◌+◌, ◌-◌, ◌&&◌, Bool, true, false, IsTrue, List, [], ◌∷◌, ◌++◌, map, filter, Option, Some, None, Result, Ok, Err, if◌then◌else◌}
use Rattle.std.specs.Str.{bytes_eq}
use Rattle.directory_input.specs.Reads.{Read}
use Rattle.directory_input.specs.Files.{FilesView}
use Rattle.directory_input.specs.Windows.{Window, FitsFile, window_bytes, part_of}
use Rattle.text_lines.specs.Lines.{Taken, cut}
use Rattle.text_lines.specs.Readers.{ReadsPieces}
use Rattle.text_lines.specs.declared.errors.TextError.{TextError}
use Rattle.text_lines.specs.declared.errors.TextError.TheVariants.{Bad, Bytes}
use Rattle.simpletext_postings.specs.Postings.{form_of, postings}
use Rattle.simpletext_postings.specs.Rows.{is_of}
use Rattle.simpletext_postings.specs.Forms.{Form}
use Rattle.simpletext_postings.specs.Forms.{Field, Term, End}
use Rattle.simpletext_postings.specs.declared.rows.Row.{Row}
use Rattle.simpletext_postings.specs.declared.posting.Posting.{Posting}

-- ---- the postings of a field and a term

abbrev pub posting_of : Row → Posting
posting_of r = record { doc = r.doc; positions = r.positions }

-- the (document, positions) of the rows of a field and a term, in order
abbrev pub postings_with : List ℕ → List ℕ → List Row → List Posting
postings_with field term rows = map posting_of (filter (is_of field term) rows)

abbrev pub posting_doc : Posting → ℕ
posting_doc p = p.doc

-- ---- the terms of a text

-- a term of a field, and the places between which the text has its entries: behind its line, and where the next line
-- of a term or a field, or `END`, begins
pub record TermEntry : Type 0 where
  pub field : List ℕ
  pub term : List ℕ
  pub from : ℕ
  pub to : ℕ

-- a line that no longer belongs to the entries of a term
abbrev pub ends_entries : Form → Bool
ends_entries (Field f) = true
ends_entries (Term t) = true
ends_entries End = true
ends_entries _ = false

-- where the entries of a term end whose lines begin at a place
abbrev pub entries_end : ℕ → List Taken → ℕ
entries_end at [] = at
entries_end at (l ∷ ls) = if ends_entries (form_of l.content) then at else entries_end (at + l.size) ls

abbrev pub field_after : List ℕ → Form → List ℕ
field_after field (Field f) = f
field_after field _ = field

-- the term that a line of a field begins, behind which these lines stand
abbrev pub term_at : List ℕ → Form → ℕ → List Taken → List TermEntry
term_at field (Term t) at ls = record { field = field; term = t; from = at; to = entries_end at ls } ∷ []
term_at field _ at ls = []

-- the terms of the lines from a place on, where a field stands before them
abbrev pub terms_after : List ℕ → ℕ → List Taken → List TermEntry
terms_after field at [] = []
terms_after field at (l ∷ ls) =
    term_at field (form_of l.content) (at + l.size) ls ++ terms_after (field_after field (form_of l.content)) (at + l.size) ls

-- the terms of a postings text, in order
abbrev pub terms_of : List ℕ → List TermEntry
terms_of text = terms_after [] 0 (cut text).lines

-- ---- a dictionary

-- the number of documents, the input of the whole text (at its position 0), and the terms
pub record TermTable : Type 0 where
  pub docs : ℕ
  pub input : Window
  pub terms : List TermEntry

abbrev pub is_entry : List ℕ → List ℕ → TermEntry → Bool
is_entry field term e = bytes_eq e.field field && bytes_eq e.term term

-- the entry of a field and a term
abbrev pub entry_of : List ℕ → List ℕ → List TermEntry → Option TermEntry
entry_of field term [] = None
entry_of field term (e ∷ es) = if is_entry field term e then Some e else entry_of field term es

-- the part of the text that has the entries of a term
abbrev pub entry_window : Window → TermEntry → Window
entry_window w e = part_of w e.from (e.to - e.from)

-- the table is that of a text, which a postings file may have
pub record IsTableOf (t : TermTable) (text : List ℕ) : Type 0 where
  pub rows : (rows : List Row) × (postings text t.docs ≡ Ok rows)
  pub terms : t.terms ≡ terms_of text

-- a dictionary fits files whose text, where it is told, it was made of
pub record FitsText (files : FilesView) (t : TermTable) : Type 0 where
  pub file : FitsFile files t.input
  pub table : IsTrue files.tells → IsTableOf t (window_bytes files.bytes t.input)

-- ---- answers

-- an answer for a text that has these rows, or whose first bad line begins at that place
abbrev pub Opens : {T : Type 0} → Result T TextError → Result (List Row) ℕ → Type 0
Opens (Ok x) said = (rows : List Row) × (said ≡ Ok rows)
Opens (Err (Bad at)) said = said ≡ Err at
Opens (Err (Bytes e)) said = Unit {0}

-- a refusal of the bytes, and none of the text
abbrev pub IsOfBytes : TextError → Type 0
IsOfBytes (Bytes e) = Unit {0}
IsOfBytes (Bad at) = ⊥

-- the later state comes from the earlier one by reads of the entries of a term alone, and by none where there is none
abbrev pub ReadsEntries : {S : Type 0} → (List Read → S → S → Type 0) → Window → Option TermEntry → S → S → Type 0
ReadsEntries goes_by w None before now = now ≡ before
ReadsEntries goes_by w (Some e) before now = ReadsPieces goes_by (entry_window w e) before now

-- where the entries of a term begin and end
abbrev pub entry_places : TermEntry → ℕ × ℕ
entry_places e = (e.from, e.to)
