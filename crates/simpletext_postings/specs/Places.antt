-- The places of the terms, as a dictionary keeps them: a field is a number there, and a term lies among the names.
use Rattle.std.specs.Prelude.{ℕ, ◌≡◌, ◌==◌, ◌&&◌, ◌||◌, ◌+◌, Bool, true, not, List, [], ◌∷◌, length, map, filter, get_or, nat_lt, nat_le, Vec, vec_capacity}
use Rattle.directory_input.specs.Reads.{slice_of}
use Rattle.std.specs.Str.{bytes_eq}
use Rattle.std.specs.Ordering.{nat_cmp, is_lt}
use Rattle.std.specs.Cmp.Lexicographic.{slice_cmp}
use Rattle.std.specs.List.{list_all, list_any}
use Rattle.simpletext_postings.specs.Terms.{TermEntry}
use Rattle.simpletext_postings.specs.declared.places.Place.{Place}

-- ---- where a term lies

-- the bytes of a term, among the names of all
abbrev pub name_of : List ℕ → Place → List ℕ
name_of names p = slice_of p.start p.length names

-- among so many bytes of names
abbrev pub lies_in : ℕ → Place → Bool
lies_in n p = nat_le (p.start + p.length) n

-- how many bytes the terms have together
abbrev pub lengths : List Place → ℕ
lengths [] = 0
lengths (p ∷ ps) = p.length + lengths ps

-- ---- the terms that places stand for

-- a term with the number of its field, and the places between which the text has its entries
pub record NumberedTerm : Type 0 where
  pub field : ℕ
  pub term : List ℕ
  pub from : ℕ
  pub to : ℕ

abbrev pub numbered : List ℕ → Place → NumberedTerm
numbered names p = record { field = p.field; term = name_of names p; from = p.from; to = p.to }

-- the entry with the name of its field
abbrev pub named : List (List ℕ) → NumberedTerm → TermEntry
named fields p = record { field = get_or fields p.field []; term = p.term; from = p.from; to = p.to }

-- a term in a text of so many bytes, of one of so many fields
abbrev pub is_place : ℕ → ℕ → NumberedTerm → Bool
is_place size fields p = nat_lt p.field fields && nat_le p.from p.to && nat_le p.to size

-- a term of an earlier field, or a term of the field that is lower by bytes
abbrev pub is_before : NumberedTerm → NumberedTerm → Bool
is_before p q = nat_lt p.field q.field || ((p.field == q.field) && is_lt (slice_cmp nat_cmp p.term q.term))

abbrev pub rise : List NumberedTerm → Bool
rise [] = true
rise (p ∷ ps) = list_all (is_before p) ps && rise ps

-- a term that stands before a term of a field
abbrev pub is_under : ℕ → List ℕ → NumberedTerm → Bool
is_under field term p = nat_lt p.field field || ((p.field == field) && is_lt (slice_cmp nat_cmp p.term term))

-- how many terms stand before a term of a field
abbrev pub count_under : ℕ → List ℕ → List NumberedTerm → ℕ
count_under field term ps = length (filter (is_under field term) ps)

-- names that differ
abbrev pub differ : List (List ℕ) → Bool
differ [] = true
differ (f ∷ fs) = not (list_any (bytes_eq f) fs) && differ fs

-- ---- what a dictionary keeps

-- a block that has room for just what is in it
abbrev pub IsExact : {X Z : Type 0} → Vec X Z → Type 0
IsExact v = vec_capacity v ≡ length v.items

-- the places of terms that rise, in a text of so many bytes; the names are the bytes of the terms and no others
pub record ArePlaces (size : ℕ) (fields : List (List ℕ)) (names : List ℕ) (places : List Place) : Type 0 where
  pub lie : list_all (lies_in (length names)) places ≡ true
  pub whole : lengths places ≡ length names
  pub inside : list_all (is_place size (length fields)) (map (numbered names) places) ≡ true
  pub rising : rise (map (numbered names) places) ≡ true
  pub different : differ fields ≡ true
