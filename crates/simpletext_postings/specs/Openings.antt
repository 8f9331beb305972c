-- What a reader of a postings text keeps of the lines so far.
use Rattle.std.specs.Prelude.{ℕ, ◌≡◌, ◌+◌, ◌≤◌, ◌&&◌, ◌||◌, ◌==◌, Bool, true, false, List, [], ◌∷◌, ◌++◌, length, map, get_or, nat_lt, Option, Some, None, option_map, if◌then◌else◌}
use Rattle.std.specs.List.{list_all}
use Rattle.simpletext_postings.specs.Postings.{fields, last_field, last_term, last_doc, last_position, position_count, frequency, at_start, at_field_or_term, at_term, at_doc, at_freq, at_pos, at_start_offset, at_end_offset, at_end, at_checksum, ends_position, ends_entry, is_allowed, is_passed}
use Rattle.simpletext_postings.specs.Terms.{TermEntry}
use Rattle.simpletext_postings.specs.Places.{NumberedTerm, numbered, lies_in, lengths, named, is_place, is_before, rise, differ}
use Rattle.simpletext_postings.specs.Shapes.{form_with}
use Rattle.simpletext_postings.specs.Forms.{Form}
use Rattle.simpletext_postings.specs.Forms.{Field, Term, End, Checksum}
use Rattle.simpletext_postings.specs.declared.shape.Shape.{Shape}
use Rattle.simpletext_postings.specs.declared.shape.Shape.TheVariants as shape
use Rattle.simpletext_postings.specs.declared.table.LastLine.{LastLine}
use Rattle.simpletext_postings.specs.declared.table.LastLine.TheVariants as last
use Rattle.simpletext_postings.specs.declared.table.TableState.{TableState}
use Rattle.simpletext_postings.specs.declared.places.Place.{Place}
use Rattle.simpletext_postings.specs.declared.opening.Opening.{Opening}

-- ---- names aside

abbrev pub is_start : LastLine → Bool
is_start last.Start = true
is_start _ = false

abbrev pub is_name : LastLine → Bool
is_name last.Field = true
is_name last.Term = true
is_name _ = false

abbrev pub is_term : LastLine → Bool
is_term last.Term = true
is_term _ = false

abbrev pub is_doc : LastLine → Bool
is_doc last.Doc = true
is_doc _ = false

abbrev pub is_freq : LastLine → Bool
is_freq last.Freq = true
is_freq _ = false

abbrev pub is_pos : LastLine → Bool
is_pos last.Pos = true
is_pos _ = false

abbrev pub is_start_offset : LastLine → Bool
is_start_offset last.StartOffset = true
is_start_offset _ = false

abbrev pub is_end_offset : LastLine → Bool
is_end_offset last.EndOffset = true
is_end_offset _ = false

abbrev pub is_end : LastLine → Bool
is_end last.End = true
is_end _ = false

abbrev pub is_checksum_line : LastLine → Bool
is_checksum_line last.Checksum = true
is_checksum_line _ = false

abbrev pub is_whole : LastLine → Bool
is_whole last.Pos = true
is_whole last.EndOffset = true
is_whole last.Payload = true
is_whole _ = false

abbrev pub is_entry : LastLine → Bool
is_entry last.Doc = true
is_entry last.Freq = true
is_entry _ = false

abbrev pub ends_of : TableState → Bool
ends_of s = is_entry s.last || (is_whole s.last && (s.count == s.frequency))

-- a state after the lines of `past`
pub record IsTableState (past : List Form) (s : TableState) : Type 0 where
  pub doc : s.doc ≡ last_doc past
  pub frequency : s.frequency ≡ frequency past
  pub count : s.count ≡ position_count past
  pub position : s.position ≡ last_position past
  pub starts : is_start s.last ≡ at_start past
  pub names : is_name s.last ≡ at_field_or_term past
  pub terms : is_term s.last ≡ at_term past
  pub docs : is_doc s.last ≡ at_doc past
  pub freqs : is_freq s.last ≡ at_freq past
  pub positions : is_pos s.last ≡ at_pos past
  pub start_offsets : is_start_offset s.last ≡ at_start_offset past
  pub end_offsets : is_end_offset s.last ≡ at_end_offset past
  pub wholes : is_whole s.last ≡ ends_position past
  pub entries : ends_of s ≡ ends_entry past
  pub ends : is_end s.last ≡ at_end past
  pub checksums : is_checksum_line s.last ≡ at_checksum past

-- the answer says whether the form is allowed, and then the state is that after it
pub record Moves (docs : ℕ) (past : List Form) (form : Form) (new : TableState) (answer : Bool) : Type 0 where
  pub same : answer ≡ is_allowed docs past form
  pub after : answer ≡ true → IsTableState (form ∷ past) new

-- the same of a line that begins neither a field nor a term
abbrev pub MovesBy : ℕ → List Form → Shape → List ℕ → TableState → Bool → Type 0
MovesBy docs past shape.Field s new answer = Unit {0}
MovesBy docs past shape.Term s new answer = Unit {0}
MovesBy docs past other s new answer = Moves docs past (form_with other s) new answer

-- ---- fields and terms

-- a field has begun, and the text has not ended
abbrev pub is_within : List Form → Bool
is_within [] = false
is_within (End ∷ past) = false
is_within (Checksum ∷ past) = false
is_within (_ ∷ past) = true

-- the terms whose entries have ended
abbrev pub terms_read : Opening → List NumberedTerm
terms_read o = map (numbered o.names.items) o.places.items

-- the last term
abbrev pub term_read : Opening → Option NumberedTerm
term_read o = option_map (numbered o.names.items) o.term

abbrev pub place_term : Option NumberedTerm → Option (List ℕ)
place_term None = None
place_term (Some p) = Some p.term

pub record IsInField (past : List Form) (o : Opening) : Type 0 where
  pub number : o.field + 1 ≡ length o.fields.items
  pub name : get_or o.fields.items o.field [] ≡ last_field past
  pub term : place_term (term_read o) ≡ last_term past

pub record IsOpeningOf (past : List Form) (o : Opening) : Type 0 where
  pub state : IsTableState past o.state
  pub fields : o.fields.items ≡ fields past
  pub within : is_within past ≡ true → IsInField past o
  pub outside : is_within past ≡ false → term_read o ≡ None

-- the last term, whose entries end at a place
abbrev pub open_term : List (List ℕ) → Option NumberedTerm → ℕ → List TermEntry
open_term fields None end = []
open_term fields (Some p) end = record { field = get_or fields p.field []; term = p.term; from = p.from; to = end } ∷ []

-- the terms so far, where the entries of the last one end at a place
abbrev pub terms_with : Opening → ℕ → List TermEntry
terms_with o end = map (named o.fields.items) (terms_read o) ++ open_term o.fields.items (term_read o) end

-- the terms after a line that begins at one place and ends before another
abbrev pub AddsTerms : List Form → Form → (at behind : ℕ) → (old new : Opening) → Type 0
AddsTerms past (Term t) at behind old new =
    (end : ℕ) → terms_with new end ≡ terms_with old at ++ record { field = last_field past; term = t; from = behind; to = end } ∷ []
AddsTerms past (Field f) at behind old new = (end : ℕ) → terms_with new end ≡ terms_with old at
AddsTerms past End at behind old new = (end : ℕ) → terms_with new end ≡ terms_with old at
AddsTerms past _ at behind old new = (end : ℕ) → terms_with new end ≡ terms_with old end

-- ---- what is kept of the places

abbrev pub is_earlier : ℕ → NumberedTerm → Bool
is_earlier fields p = nat_lt (p.field + 1) fields

abbrev pub KeepsLast : (at fields : ℕ) → List NumberedTerm → Option NumberedTerm → Type 0
KeepsLast at fields places None = list_all (is_earlier fields) places ≡ true
KeepsLast at fields places (Some q) = (q.field + 1 ≡ fields) × (q.from ≤ at) × (list_all (λ p. is_before p q) places ≡ true)

pub record IsKept (past : List Form) (at : ℕ) (o : Opening) : Type 0 where
  pub inside : list_all (is_place at (length o.fields.items)) (terms_read o) ≡ true
  pub rising : rise (terms_read o) ≡ true
  pub different : differ o.fields.items ≡ true
  pub last : is_within past ≡ true → KeepsLast at (length o.fields.items) (terms_read o) (term_read o)

-- the forms that stand before the next line
abbrev pub past_after : List Form → Form → List Form
past_after past form = if is_passed past form then past else form ∷ past

-- the answer says whether a line may stand here; then the state and the terms are those after it
pub record Takes (docs : ℕ) (past : List Form) (form : Form) (at behind : ℕ) (old new : Opening) (answer : Bool) : Type 0 where
  pub same : answer ≡ (is_passed past form || is_allowed docs past form)
  pub after : answer ≡ true → IsOpeningOf (past_after past form) new
  pub kept : answer ≡ true → at ≤ behind → IsKept past at old → IsKept (past_after past form) behind new
  pub terms : answer ≡ true → IsKept past at old → AddsTerms past form at behind old new

abbrev pub option_places : Option Place → List Place
option_places None = []
option_places (Some p) = p ∷ []

-- each term lies among the names, which are the bytes of the terms and no others
pub record AreNamed (names : ℕ) (places : List Place) : Type 0 where
  pub lie : list_all (lies_in names) places ≡ true
  pub whole : lengths places ≡ names

abbrev pub IsNamed : Opening → Type 0
IsNamed o = AreNamed (length o.names.items) (o.places.items ++ option_places o.term)

-- the entries of the last term end at a place
abbrev pub closed_at : ℕ → Option NumberedTerm → List NumberedTerm
closed_at at None = []
closed_at at (Some p) = record p { to = at } ∷ []

pub record Closes (at : ℕ) (old new : Opening) : Type 0 where
  pub docs : new.docs ≡ old.docs
  pub fields : new.fields.items ≡ old.fields.items
  pub field : new.field ≡ old.field
  pub state : new.state ≡ old.state
  pub names : new.names.items ≡ old.names.items
  pub term : new.term ≡ None
  pub places : terms_read new ≡ terms_read old ++ closed_at at (term_read old)
