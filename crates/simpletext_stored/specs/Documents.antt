-- Reading the lines of one document.
use Rattle.std.specs.Prelude.{ℕ, ◌≡◌, ◌++◌, Bool, true, List, [], ◌∷◌, Some}
use Rattle.simpletext_stored.specs.Reading.{Lines}
use Rattle.simpletext_stored.specs.Stored.{form_of, last}
use Rattle.simpletext_stored.specs.Steps.{is_own, all_fields}
use Rattle.simpletext_stored.specs.declared.field.Kind.TheVariants.{Str}
use Rattle.simpletext_stored.specs.declared.document.Document.{Document}
use Rattle.simpletext_stored.specs.declared.field.StoredField.{StoredField}
use Rattle.simpletext_stored.specs.declared.form.Form.{Form}

-- the fields of the lines so far and of those that come
abbrev pub fields_with : Document → Lines Form → List StoredField
fields_with d later = d.fields.items ++ all_fields d.name d.kind later

-- the answer says whether a line of this content is allowed, and then the document has it
pub record StepsOn (doc : ℕ) (past : List Form) (content : List ℕ) (old new : Document) (answer : Bool) : Type 0 where
  pub same : answer ≡ is_own doc past (form_of content)
  pub last_is : answer ≡ true → new.last ≡ Some (form_of content)
  pub fields : answer ≡ true → (at : ℕ) (later : Lines Form) → fields_with old ((at, form_of content, content) ∷ later) ≡ fields_with new later

-- what is held of the lines in `kept`
pub record HoldsDocument (past : List Form) (kept : Lines Form) (document : Document) : Type 0 where
  pub last_is : document.last ≡ last past
  pub fields : (later : Lines Form) → all_fields [] Str (kept ++ later) ≡ fields_with document later
