-- Worked postings texts, computed by the definitions.
use Rattle.std.proofs.Common.{◌≡◌, [], ◌∷◌, Ok, Err, refl}
use Rattle.std.specs.Prelude.{codes}
use Rattle.text_lines.specs.Lines.{cut}
use Rattle.simpletext_postings.specs.Postings.{postings, form_of, indented_form}

-- the whole text
pub whole : postings (codes "field body\n  term fox\n    doc 0\n      freq 1\n      pos 1\n    doc 2\n      freq 1\n      pos 0\n  term red\n    doc 0\n      freq 1\n      pos 0\nEND\nchecksum 00000000000000000000\n") 3 ≡ Ok (record { field = codes "body"; term = codes "fox"; doc = 0; positions = 1 ∷ [] } ∷ record { field = codes "body"; term = codes "fox"; doc = 2; positions = 0 ∷ [] } ∷ record { field = codes "body"; term = codes "red"; doc = 0; positions = 0 ∷ [] } ∷ [])
unfolding cut form_of indented_form
whole = refl

-- the file ends where END is needed
pub ends_before_end : postings (codes "field body\n  term fox\n    doc 0\n      freq 1\n      pos 1\n    doc 2\n      freq 1\n      pos 0\n  term red\n    doc 0\n      freq 1\n      pos 0\n") 3 ≡ Err 138
unfolding cut form_of indented_form
ends_before_end = refl

-- the file ends inside a line
pub cut_in_a_line : postings (codes "field body\n  term fox\n    doc 0\n      freq 1\n      pos 1\n    doc 2\n      freq 1\n      pos 0\n  term r") 3 ≡ Err 92
unfolding cut form_of indented_form
cut_in_a_line = refl

-- a document twice
pub document_again : postings (codes "field body\n  term fox\n    doc 0\n      freq 1\n      pos 1\n    doc 0\n      freq 1\n      pos 0\n  term red\n    doc 0\n      freq 1\n      pos 0\nEND\nchecksum 00000000000000000000\n") 3 ≡ Err 57
unfolding cut form_of indented_form
document_again = refl

-- a document that is not below the number of documents
pub document_at_the_count : postings (codes "field body\n  term fox\n    doc 0\n      freq 1\n      pos 1\n    doc 3\n      freq 1\n      pos 0\n  term red\n    doc 0\n      freq 1\n      pos 0\nEND\nchecksum 00000000000000000000\n") 3 ≡ Err 57
unfolding cut form_of indented_form
document_at_the_count = refl

-- fewer positions than the frequency
pub too_few_positions : postings (codes "field body\n  term fox\n    doc 0\n      freq 2\n      pos 1\n    doc 2\n      freq 1\n      pos 0\n  term red\n    doc 0\n      freq 1\n      pos 0\nEND\nchecksum 00000000000000000000\n") 3 ≡ Err 57
unfolding cut form_of indented_form
too_few_positions = refl

-- a line that is passed over
pub passed_over : postings (codes "field body\n  term fox\n    doc 0\n      freq 1\n      pos 1\n    doc 2\n      freq 1\n      pos 0\n  term red\n    doc 0\n      freq 1\n      pos 0\n    skipList \nEND\nchecksum 00000000000000000000\n") 3 ≡ Ok (record { field = codes "body"; term = codes "fox"; doc = 0; positions = 1 ∷ [] } ∷ record { field = codes "body"; term = codes "fox"; doc = 2; positions = 0 ∷ [] } ∷ record { field = codes "body"; term = codes "red"; doc = 0; positions = 0 ∷ [] } ∷ [])
unfolding cut form_of indented_form
passed_over = refl

-- a newline in a term
pub escaped_newline : postings (codes "field f\n  term a\\\nb\n    doc 0\nEND\nchecksum 00000000000000000000\n") 1 ≡ Ok (record { field = codes "f"; term = 97 ∷ 10 ∷ 98 ∷ []; doc = 0; positions = [] } ∷ [])
unfolding cut form_of indented_form
escaped_newline = refl

-- `END` in a term, after an escaped newline
pub escaped_end : postings (codes "field f\n  term a\\\nEND\n    doc 0\nEND\nchecksum 00000000000000000000\n") 1 ≡ Ok (record { field = codes "f"; term = 97 ∷ 10 ∷ 69 ∷ 78 ∷ 68 ∷ []; doc = 0; positions = [] } ∷ [])
unfolding cut form_of indented_form
escaped_end = refl

-- frequencies without positions
pub frequencies_alone : postings (codes "field body\n  term fox\n    doc 0\n      freq 1\n    doc 2\n      freq 1\n  term red\n    doc 0\n      freq 1\nEND\nchecksum 00000000000000000000\n") 3 ≡ Ok (record { field = codes "body"; term = codes "fox"; doc = 0; positions = [] } ∷ record { field = codes "body"; term = codes "fox"; doc = 2; positions = [] } ∷ record { field = codes "body"; term = codes "red"; doc = 0; positions = [] } ∷ [])
unfolding cut form_of indented_form
frequencies_alone = refl

-- offsets and payloads are not kept
pub offsets_and_payloads : postings (codes "field f\n  term a\n    doc 0\n      freq 2\n      pos 3\n      startOffset 1\n      endOffset 2\n        payload x\n      pos 3\n        payload \nEND\nchecksum 00000000000000000000\n") 1 ≡ Ok (record { field = codes "f"; term = codes "a"; doc = 0; positions = 3 ∷ 3 ∷ [] } ∷ [])
unfolding cut form_of indented_form
offsets_and_payloads = refl

-- a startOffset line needs its endOffset line
pub no_end_offset : postings (codes "field f\n  term a\n    doc 0\n      freq 1\n      pos 3\n      startOffset 1\nEND\nchecksum 00000000000000000000\n") 1 ≡ Err 72
unfolding cut form_of indented_form
no_end_offset = refl

-- a payload line is not right after a startOffset line
pub payload_after_start_offset : postings (codes "field f\n  term a\n    doc 0\n      freq 1\n      pos 3\n      startOffset 1\n        payload x\nEND\nchecksum 00000000000000000000\n") 1 ≡ Err 72
unfolding cut form_of indented_form
payload_after_start_offset = refl

-- an endOffset line needs its startOffset line
pub no_start_offset : postings (codes "field f\n  term a\n    doc 0\n      freq 1\n      pos 3\n      endOffset 1\nEND\nchecksum 00000000000000000000\n") 1 ≡ Err 52
unfolding cut form_of indented_form
no_start_offset = refl

-- a payload line needs a position
pub payload_before_position : postings (codes "field f\n  term a\n    doc 0\n      freq 1\n        payload x\nEND\nchecksum 00000000000000000000\n") 1 ≡ Err 40
unfolding cut form_of indented_form
payload_before_position = refl

-- a position below the one before
pub positions_fall : postings (codes "field f\n  term a\n    doc 0\n      freq 2\n      pos 3\n      pos 2\nEND\nchecksum 00000000000000000000\n") 1 ≡ Err 52
unfolding cut form_of indented_form
positions_fall = refl

-- more positions than the frequency
pub too_many_positions : postings (codes "field f\n  term a\n    doc 0\n      freq 1\n      pos 3\n      pos 3\nEND\nchecksum 00000000000000000000\n") 1 ≡ Err 52
unfolding cut form_of indented_form
too_many_positions = refl

-- a position needs the frequency
pub position_without_frequency : postings (codes "field f\n  term a\n    doc 0\n      pos 3\nEND\nchecksum 00000000000000000000\n") 1 ≡ Err 27
unfolding cut form_of indented_form
position_without_frequency = refl

-- a frequency of 0
pub frequency_of_nothing : postings (codes "field f\n  term a\n    doc 0\n      freq 0\nEND\nchecksum 00000000000000000000\n") 1 ≡ Err 27
unfolding cut form_of indented_form
frequency_of_nothing = refl

-- a term below the one before
pub terms_fall : postings (codes "field f\n  term b\n    doc 0\n  term a\n    doc 0\nEND\nchecksum 00000000000000000000\n") 1 ≡ Err 27
unfolding cut form_of indented_form
terms_fall = refl

-- a term twice
pub term_again : postings (codes "field f\n  term b\n    doc 0\n  term b\n    doc 0\nEND\nchecksum 00000000000000000000\n") 1 ≡ Err 27
unfolding cut form_of indented_form
term_again = refl

-- terms begin anew in each field
pub terms_by_field : postings (codes "field f\n  term b\n    doc 0\nfield e\n  term a\n    doc 0\nEND\nchecksum 00000000000000000000\n") 1 ≡ Ok (record { field = codes "f"; term = codes "b"; doc = 0; positions = [] } ∷ record { field = codes "e"; term = codes "a"; doc = 0; positions = [] } ∷ [])
unfolding cut form_of indented_form
terms_by_field = refl

-- a field twice
pub field_again : postings (codes "field f\nfield g\nfield f\nEND\nchecksum 00000000000000000000\n") 1 ≡ Err 16
unfolding cut form_of indented_form
field_again = refl

-- a field and terms without documents
pub nothing_in_them : postings (codes "field f\n  term a\n  term b\nEND\nchecksum 00000000000000000000\n") 0 ≡ Ok ([])
unfolding cut form_of indented_form
nothing_in_them = refl

-- no line is passed over before a field's first term
pub passed_before_a_term : postings (codes "field f\n    skipList \n  term a\nEND\nchecksum 00000000000000000000\n") 1 ≡ Err 8
unfolding cut form_of indented_form
passed_before_a_term = refl

-- a line that is passed over does not count
pub passed_between : postings (codes "field f\n  term a\n    doc 0\n    x\n      freq 1\n    y\n      pos 0\n     \nEND\nchecksum 00000000000000000000\n") 1 ≡ Ok (record { field = codes "f"; term = codes "a"; doc = 0; positions = 0 ∷ [] } ∷ [])
unfolding cut form_of indented_form
passed_between = refl

-- no line is passed over after END
pub passed_after_end : postings (codes "field f\n  term a\n    doc 0\nEND\n    x\nchecksum 00000000000000000000\n") 1 ≡ Err 31
unfolding cut form_of indented_form
passed_after_end = refl

-- a form without its number is not passed over
pub no_number : postings (codes "field f\n  term a\n    doc x\nEND\nchecksum 00000000000000000000\n") 1 ≡ Err 17
unfolding cut form_of indented_form
no_number = refl

-- a number above 2147483647
pub number_too_large : postings (codes "field f\n  term a\n    doc 2147483648\nEND\nchecksum 00000000000000000000\n") 4000000000 ≡ Err 17
unfolding cut form_of indented_form
number_too_large = refl

-- the greatest number
pub greatest_number : postings (codes "field f\n  term a\n    doc 2147483647\nEND\nchecksum 00000000000000000000\n") 4000000000 ≡ Ok (record { field = codes "f"; term = codes "a"; doc = 2147483647; positions = [] } ∷ [])
unfolding cut form_of indented_form
greatest_number = refl

-- ten digits, with leading zeros
pub leading_zeros : postings (codes "field f\n  term a\n    doc 0000000007\nEND\nchecksum 00000000000000000000\n") 8 ≡ Ok (record { field = codes "f"; term = codes "a"; doc = 7; positions = [] } ∷ [])
unfolding cut form_of indented_form
leading_zeros = refl

-- eleven digits
pub eleven_digits : postings (codes "field f\n  term a\n    doc 00000000007\nEND\nchecksum 00000000000000000000\n") 8 ≡ Err 17
unfolding cut form_of indented_form
eleven_digits = refl

-- no digit
pub no_digits : postings (codes "field f\n  term a\n    doc \nEND\nchecksum 00000000000000000000\n") 8 ≡ Err 17
unfolding cut form_of indented_form
no_digits = refl

-- no field at all
pub empty_postings : postings (codes "END\nchecksum 00000000000000000000\n") 0 ≡ Ok ([])
unfolding cut form_of indented_form
empty_postings = refl

-- an empty file
pub empty_file : postings (codes "") 0 ≡ Err 0
unfolding cut form_of indented_form
empty_file = refl

-- a line behind the checksum line
pub bytes_behind : postings (codes "field body\n  term fox\n    doc 0\n      freq 1\n      pos 1\n    doc 2\n      freq 1\n      pos 0\n  term red\n    doc 0\n      freq 1\n      pos 0\nEND\nchecksum 00000000000000000000\nEND\n") 3 ≡ Err 172
unfolding cut form_of indented_form
bytes_behind = refl

-- a byte behind the checksum line
pub byte_behind : postings (codes "field body\n  term fox\n    doc 0\n      freq 1\n      pos 1\n    doc 2\n      freq 1\n      pos 0\n  term red\n    doc 0\n      freq 1\n      pos 0\nEND\nchecksum 00000000000000000000\nx") 3 ≡ Err 172
unfolding cut form_of indented_form
byte_behind = refl

-- the checksum line without its newline
pub checksum_cut_off : postings (codes "field body\n  term fox\n    doc 0\n      freq 1\n      pos 1\n    doc 2\n      freq 1\n      pos 0\n  term red\n    doc 0\n      freq 1\n      pos 0\nEND\nchecksum 00000000000000000000") 3 ≡ Err 142
unfolding cut form_of indented_form
checksum_cut_off = refl

-- the checksum line needs END before it
pub no_end : postings (codes "field f\n  term a\n    doc 0\nchecksum 00000000000000000000\n") 1 ≡ Err 27
unfolding cut form_of indented_form
no_end = refl

-- 19 digits
pub short_checksum : postings (codes "END\nchecksum 0000000000000000000\n") 1 ≡ Err 4
unfolding cut form_of indented_form
short_checksum = refl

-- no field after END
pub field_after_end : postings (codes "END\nfield f\nchecksum 00000000000000000000\n") 1 ≡ Err 4
unfolding cut form_of indented_form
field_after_end = refl

-- a backslash that is last
pub backslash_last : postings (codes "field f\nEND\\") 1 ≡ Err 8
unfolding cut form_of indented_form
backslash_last = refl
