-- Members of a JSON object, by their form.
use Rattle.std.specs.Prelude.{ℕ, List, [], ◌∷◌, Option, Some, None, option_and_then, option_map, if◌then◌else◌, is_some}
use Rattle.std.specs.List.{list_all}
use Rattle.std.specs.Str.{is_utf8}
use Rattle.serde_json.specs.Data.{Data, null, Items, no_items, item}
use Rattle.serde_json.specs.Read.{read}
use Rattle.serde_json.specs.Find.{get, as_number, as_u64, as_str, as_array, as_object}
use Rattle.byte_text.specs.Names.{is_name}

-- the JSON value that bytes are; bytes that are no UTF-8 are none
abbrev pub json_of : List ℕ → Option Data
json_of bytes = if is_utf8 bytes then read bytes else None

-- a whole number: a JSON number that is read as an integer of 64 bits without sign, so without fraction or exponent
abbrev pub whole_of : Data → Option ℕ
whole_of d = option_and_then as_u64 (as_number d)

-- these bytes, where they are a name
abbrev pub name_bytes : List ℕ → Option (List ℕ)
name_bytes bytes = if is_name bytes then Some bytes else None

-- a JSON string that is a name
abbrev pub name_of : Data → Option (List ℕ)
name_of d = option_and_then name_bytes (as_str d)

abbrev pub whole_at : List ℕ → Data → Option ℕ
whole_at key d = option_and_then whole_of (get key d)

abbrev pub name_at : List ℕ → Data → Option (List ℕ)
name_at key d = option_and_then name_of (get key d)

-- a value that may be missing or null, which both are `Some None`
abbrev pub optional : {A : Type 0} → (Data → Option A) → Option Data → Option (Option A)
optional form None = Some None
optional form (Some null) = Some None
optional form (Some d) = option_map Some (form d)

abbrev pub list_of : Items → List Data
list_of no_items = []
list_of (item d ds) = d ∷ list_of ds

-- an array
abbrev pub list_at : List ℕ → Data → Option (List Data)
list_at key d = option_map list_of (option_and_then as_array (get key d))

abbrev pub objects : List Data → Option (List Data)
objects ds = if list_all (λ d. is_some (as_object d)) ds then Some ds else None

-- an array whose items all are objects
abbrev pub objects_at : List ℕ → Data → Option (List Data)
objects_at key d = option_and_then objects (list_at key d)
