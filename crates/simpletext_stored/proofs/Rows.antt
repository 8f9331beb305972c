-- Worked texts of stored fields and of live documents, computed by the definitions.
use Rattle.std.proofs.Common.{◌≡◌, [], ◌∷◌, Ok, Err, refl}
use Rattle.std.specs.Prelude.{codes}
use Rattle.text_lines.specs.Lines.{cut}
use Rattle.simpletext_stored.specs.Stored as stored_text
use Rattle.simpletext_stored.specs.Stored.{stored, stored_places}
use Rattle.simpletext_stored.specs.Live as live_text
use Rattle.simpletext_stored.specs.Live.{live}
use Rattle.simpletext_stored.specs.declared.field.Kind.TheVariants.{Str, Binary, Int, Long, Float, Double}

-- three documents, the first with a title
pub whole : stored (codes "doc 0\n  field 0\n    name title\n    type string\n    value red fox\ndoc 1\ndoc 2\nEND\nchecksum 00000000000000000000\n") 3 ≡ Ok ((record { name = codes "title"; kind = Str; value = codes "red fox" } ∷ []) ∷ [] ∷ [] ∷ [])
unfolding cut stored_text.form_of
whole = refl

-- where their lines begin, and the end
pub places : stored_places (codes "doc 0\n  field 0\n    name title\n    type string\n    value red fox\ndoc 1\ndoc 2\nEND\nchecksum 00000000000000000000\n") 3 ≡ Ok (0 ∷ 65 ∷ 71 ∷ 77 ∷ [])
unfolding cut stored_text.form_of
places = refl

-- a document number left out
pub number_left_out : stored (codes "doc 0\n  field 0\n    name title\n    type string\n    value red fox\ndoc 2\ndoc 2\nEND\nchecksum 00000000000000000000\n") 3 ≡ Err 65
unfolding cut stored_text.form_of
number_left_out = refl

-- a document number twice
pub number_again : stored (codes "doc 0\n  field 0\n    name title\n    type string\n    value red fox\ndoc 0\ndoc 2\nEND\nchecksum 00000000000000000000\n") 3 ≡ Err 65
unfolding cut stored_text.form_of
number_again = refl

-- more documents than the segment has
pub document_at_the_count : stored (codes "doc 0\n  field 0\n    name title\n    type string\n    value red fox\ndoc 1\ndoc 2\nEND\nchecksum 00000000000000000000\n") 2 ≡ Err 71
unfolding cut stored_text.form_of
document_at_the_count = refl

-- fewer documents than the segment has
pub too_few_documents : stored (codes "doc 0\n  field 0\n    name title\n    type string\n    value red fox\ndoc 1\ndoc 2\nEND\nchecksum 00000000000000000000\n") 4 ≡ Err 77
unfolding cut stored_text.form_of
too_few_documents = refl

-- the text ends where a line is needed
pub ends_before_end : stored (codes "doc 0\n  field 0\n    name title\n    type string\n    value red fox\ndoc 1\ndoc 2\n") 3 ≡ Err 77
unfolding cut stored_text.form_of
ends_before_end = refl

-- the checksum line does not end
pub checksum_cut_off : stored (codes "doc 0\n  field 0\n    name title\n    type string\n    value red fox\ndoc 1\ndoc 2\nEND\nchecksum 00000000000000000000") 3 ≡ Err 81
unfolding cut stored_text.form_of
checksum_cut_off = refl

-- bytes behind the checksum line
pub behind_the_checksum : stored (codes "doc 0\n  field 0\n    name title\n    type string\n    value red fox\ndoc 1\ndoc 2\nEND\nchecksum 00000000000000000000\n\n") 3 ≡ Err 111
unfolding cut stored_text.form_of
behind_the_checksum = refl

-- an unfinished line behind the checksum line
pub tail_behind_the_checksum : stored (codes "doc 0\n  field 0\n    name title\n    type string\n    value red fox\ndoc 1\ndoc 2\nEND\nchecksum 00000000000000000000\nx") 3 ≡ Err 111
unfolding cut stored_text.form_of
tail_behind_the_checksum = refl

-- a field without its type
pub no_type : stored (codes "doc 0\n  field 0\n    name title\n    value red fox\ndoc 1\ndoc 2\nEND\nchecksum 00000000000000000000\n") 3 ≡ Err 31
unfolding cut stored_text.form_of
no_type = refl

-- a field without its name
pub no_name : stored (codes "doc 0\n  field 0\n    type string\n    value red fox\ndoc 1\ndoc 2\nEND\nchecksum 00000000000000000000\n") 3 ≡ Err 16
unfolding cut stored_text.form_of
no_name = refl

-- a field without its value
pub no_value : stored (codes "doc 0\n  field 0\n    name title\n    type string\ndoc 1\ndoc 2\nEND\nchecksum 00000000000000000000\n") 3 ≡ Err 47
unfolding cut stored_text.form_of
no_value = refl

-- a type of no kind
pub no_kind : stored (codes "doc 0\n  field 0\n    name title\n    type text\n    value red fox\ndoc 1\ndoc 2\nEND\nchecksum 00000000000000000000\n") 3 ≡ Err 31
unfolding cut stored_text.form_of
no_kind = refl

-- a name without its field
pub no_field : stored (codes "doc 0\n    name title\n    type string\n    value red fox\ndoc 1\ndoc 2\nEND\nchecksum 00000000000000000000\n") 3 ≡ Err 6
unfolding cut stored_text.form_of
no_field = refl

-- a field without its number
pub field_without_number : stored (codes "doc 0\n  field \n    name title\n    type string\n    value red fox\ndoc 1\ndoc 2\nEND\nchecksum 00000000000000000000\n") 3 ≡ Err 6
unfolding cut stored_text.form_of
field_without_number = refl

-- a field before any document
pub field_first : stored (codes "  field 0\ndoc 0\n  field 0\n    name title\n    type string\n    value red fox\ndoc 1\ndoc 2\nEND\nchecksum 00000000000000000000\n") 3 ≡ Err 0
unfolding cut stored_text.form_of
field_first = refl

-- no documents
pub no_documents : stored (codes "END\nchecksum 00000000000000000000\n") 0 ≡ Ok ([])
unfolding cut stored_text.form_of
no_documents = refl

-- a checksum line without END
pub no_end : stored (codes "checksum 00000000000000000000\n") 0 ≡ Err 0
unfolding cut stored_text.form_of
no_end = refl

-- two fields of one number, and a value of no bytes
pub two_fields : stored (codes "doc 0\n  field 07\n    name a\n    type int\n    value 1\n  field 7\n    name b\n    type double\n    value \nEND\nchecksum 00000000000000000000\n") 1 ≡ Ok ((record { name = codes "a"; kind = Int; value = codes "1" } ∷ record { name = codes "b"; kind = Double; value = codes "" } ∷ []) ∷ [])
unfolding cut stored_text.form_of
two_fields = refl

-- newlines and a backslash in a name and a value
pub escaped : stored (codes "doc 0\n  field 0\n    name a\\\nb\n    type binary\n    value END\\\nEND\\\\\nEND\nchecksum 00000000000000000000\n") 1 ≡ Ok ((record { name = codes "a\nb"; kind = Binary; value = codes "END\nEND\\" } ∷ []) ∷ [])
unfolding cut stored_text.form_of
escaped = refl

-- long and float values
pub long_and_float : stored (codes "doc 0\n  field 0\n    name n\n    type long\n    value 1\n  field 1\n    name n\n    type float\n    value 1.5\nEND\nchecksum 00000000000000000000\n") 1 ≡ Ok ((record { name = codes "n"; kind = Long; value = codes "1" } ∷ record { name = codes "n"; kind = Float; value = codes "1.5" } ∷ []) ∷ [])
unfolding cut stored_text.form_of
long_and_float = refl

-- a checksum of 19 digits
pub short_checksum : stored (codes "doc 0\nEND\nchecksum 0000000000000000000\n") 1 ≡ Err 10
unfolding cut stored_text.form_of
short_checksum = refl

-- a number of 11 digits
pub number_too_long : stored (codes "doc 00000000000\nEND\nchecksum 00000000000000000000\n") 1 ≡ Err 0
unfolding cut stored_text.form_of
number_too_long = refl

-- documents 0 and 2
pub live_two : live (codes "size 3\n  doc 0\n  doc 2\nEND\nchecksum 00000000000000000000\n") 3 ≡ Ok (0 ∷ 2 ∷ [])
unfolding cut live_text.form_of
live_two = refl

-- another size than the number of documents
pub size_differs : live (codes "size 4\n  doc 0\n  doc 2\nEND\nchecksum 00000000000000000000\n") 3 ≡ Err 0
unfolding cut live_text.form_of
size_differs = refl

-- a live document twice
pub live_again : live (codes "size 3\n  doc 0\n  doc 0\nEND\nchecksum 00000000000000000000\n") 3 ≡ Err 15
unfolding cut live_text.form_of
live_again = refl

-- live documents that fall
pub live_falls : live (codes "size 3\n  doc 2\n  doc 1\nEND\nchecksum 00000000000000000000\n") 3 ≡ Err 15
unfolding cut live_text.form_of
live_falls = refl

-- a live document at the count
pub live_at_the_count : live (codes "size 3\n  doc 0\n  doc 3\nEND\nchecksum 00000000000000000000\n") 3 ≡ Err 15
unfolding cut live_text.form_of
live_at_the_count = refl

-- a text of live documents that ends where a line is needed
pub live_ends_early : live (codes "size 3\n  doc 0\n  doc 2\n") 3 ≡ Err 23
unfolding cut live_text.form_of
live_ends_early = refl

-- live documents without their size
pub no_size : live (codes "  doc 0\nEND\nchecksum 00000000000000000000\n") 3 ≡ Err 0
unfolding cut live_text.form_of
no_size = refl

-- the size twice
pub size_again : live (codes "size 3\nsize 3\nEND\nchecksum 00000000000000000000\n") 3 ≡ Err 7
unfolding cut live_text.form_of
size_again = refl

-- no live documents
pub no_live : live (codes "size 0\nEND\nchecksum 00000000000000000000\n") 0 ≡ Ok ([])
unfolding cut live_text.form_of
no_live = refl

-- bytes behind the checksum line of live documents
pub behind_the_live_checksum : live (codes "size 3\n  doc 0\n  doc 2\nEND\nchecksum 00000000000000000000\n\n") 3 ≡ Err 57
unfolding cut live_text.form_of
behind_the_live_checksum = refl

-- a number above 2147483647
pub number_too_large : live (codes "size 2147483648\nEND\nchecksum 00000000000000000000\n") 2147483648 ≡ Err 0
unfolding cut live_text.form_of
number_too_large = refl

-- the greatest number
pub greatest_number : live (codes "size 2147483647\n  doc 2147483646\nEND\nchecksum 00000000000000000000\n") 2147483647 ≡ Ok (2147483646 ∷ [])
unfolding cut live_text.form_of
greatest_number = refl
