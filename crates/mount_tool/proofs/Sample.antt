-- What `term` gives, computed from the definitions: for the sample archive, and for small archives of their own.
use Rattle.std.proofs.Common.{◌≡◌, [], ◌∷◌, refl}
use Rattle.std.specs.Prelude.{codes}
use Rattle.std.specs.Str.{is_utf8, chars}
use Rattle.std.specs.Fmt.{digits}
use Rattle.serde_json.proofs.OnLiterals.{serde_json_on_literals}
use Rattle.sample_archive.specs.Sample.{sample, counting, manifest_y}
use Rattle.mount_tool.specs.Terms.{term_reply}
use Rattle.mount_script.specs.declared.reply.Reply.TheVariants.{Hits, Refused}
use Rattle.mount_manifest.specs.Manifest.{file_facts, segment_facts, shaped, file_limits, placed, checked}
use Rattle.text_lines.specs.Lines.{cut}
use Rattle.simpletext_postings.specs.Postings.{form_of, indented_form}
use Rattle.simpletext_stored.specs.Live as live_text

-- without positions
pub fox_in_w : term_reply sample (record { manifest = codes "mount-w"; field = codes "body"; term = codes "fox" }) ≡ Hits 2 ((codes "_0", 0) ∷ (codes "_0", 2) ∷ [])
unfolding sample file_facts segment_facts shaped file_limits placed checked cut form_of indented_form live_text.form_of digits is_utf8 chars serde_json_on_literals
fox_in_w = refl

-- another term
pub red_in_w : term_reply sample (record { manifest = codes "mount-w"; field = codes "body"; term = codes "red" }) ≡ Hits 1 ((codes "_0", 0) ∷ [])
unfolding sample file_facts segment_facts shaped file_limits placed checked cut form_of indented_form live_text.form_of digits is_utf8 chars serde_json_on_literals
red_in_w = refl

-- a term that is not there
pub blue_in_w : term_reply sample (record { manifest = codes "mount-w"; field = codes "body"; term = codes "blue" }) ≡ Hits 0 []
unfolding sample file_facts segment_facts shaped file_limits placed checked cut form_of indented_form live_text.form_of digits is_utf8 chars serde_json_on_literals
blue_in_w = refl

-- a field that is not there
pub fox_in_head : term_reply sample (record { manifest = codes "mount-w"; field = codes "head"; term = codes "fox" }) ≡ Hits 0 []
unfolding sample file_facts segment_facts shaped file_limits placed checked cut form_of indented_form live_text.form_of digits is_utf8 chars serde_json_on_literals
fox_in_head = refl

-- with positions, in two parts
pub fox_in_x : term_reply sample (record { manifest = codes "mount-x"; field = codes "body"; term = codes "fox" }) ≡ Hits 2 ((codes "_0", 0) ∷ (codes "_0", 2) ∷ [])
unfolding sample file_facts segment_facts shaped file_limits placed checked cut form_of indented_form live_text.form_of digits is_utf8 chars serde_json_on_literals
fox_in_x = refl

-- no segment
pub no_segment_in_y : term_reply sample (record { manifest = codes "mount-y"; field = codes "body"; term = codes "fox" }) ≡ Hits 0 []
unfolding sample file_facts segment_facts shaped file_limits placed checked cut form_of indented_form live_text.form_of digits is_utf8 chars serde_json_on_literals
no_segment_in_y = refl

-- documents 0 and 2 are live
pub fox_in_z : term_reply sample (record { manifest = codes "mount-z"; field = codes "body"; term = codes "fox" }) ≡ Hits 2 ((codes "_0", 0) ∷ (codes "_0", 2) ∷ [])
unfolding sample file_facts segment_facts shaped file_limits placed checked cut form_of indented_form live_text.form_of digits is_utf8 chars serde_json_on_literals
fox_in_z = refl

-- no manifest of this name
pub no_such_manifest : term_reply sample (record { manifest = codes "mount-q"; field = codes "body"; term = codes "fox" }) ≡ Refused (codes "refused missing")
unfolding sample file_facts segment_facts shaped file_limits placed checked cut form_of indented_form live_text.form_of digits is_utf8 chars serde_json_on_literals
no_such_manifest = refl

-- the text ends where a line is needed
pub ends_before_end : term_reply ((codes "__a", codes "field body\n  term fox\n    doc 0\n      freq 1\n      pos 1\n    doc 2\n      freq 1\n      pos 0\n  term red\n    doc 0\n      freq 1\n      pos 0\n") ∷ (codes "mount-a", codes "{\"version\":1,\"files\":[{\"name\":\"__a\",\"physical_name\":\"_0.pst\",\"length\":138}],\"segments\":[{\"name\":\"_0\",\"docs\":3,\"postings\":\"_0.pst\"}]}") ∷ []) (record { manifest = codes "mount-a"; field = codes "body"; term = codes "fox" }) ≡ Refused (codes "bad shard _0.pst 138")
unfolding sample file_facts segment_facts shaped file_limits placed checked cut form_of indented_form live_text.form_of digits is_utf8 chars serde_json_on_literals
ends_before_end = refl

-- the text ends in a line
pub ends_in_a_line : term_reply ((codes "__a", codes "field body\n  term fox\n    doc 0\n      freq 1\n      pos 1\n    doc 2\n      freq 1\n      pos 0\n  term r") ∷ (codes "mount-a", codes "{\"version\":1,\"files\":[{\"name\":\"__a\",\"physical_name\":\"_0.pst\",\"length\":100}],\"segments\":[{\"name\":\"_0\",\"docs\":3,\"postings\":\"_0.pst\"}]}") ∷ []) (record { manifest = codes "mount-a"; field = codes "body"; term = codes "fox" }) ≡ Refused (codes "bad shard _0.pst 92")
unfolding sample file_facts segment_facts shaped file_limits placed checked cut form_of indented_form live_text.form_of digits is_utf8 chars serde_json_on_literals
ends_in_a_line = refl

-- a document twice
pub document_again : term_reply ((codes "__a", codes "field body\n  term fox\n    doc 0\n      freq 1\n      pos 1\n    doc 0\n      freq 1\n      pos 0\n  term red\n    doc 0\n      freq 1\n      pos 0\nEND\nchecksum 00000000000000000000\n") ∷ (codes "mount-a", codes "{\"version\":1,\"files\":[{\"name\":\"__a\",\"physical_name\":\"_0.pst\",\"length\":172}],\"segments\":[{\"name\":\"_0\",\"docs\":3,\"postings\":\"_0.pst\"}]}") ∷ []) (record { manifest = codes "mount-a"; field = codes "body"; term = codes "fox" }) ≡ Refused (codes "bad shard _0.pst 57")
unfolding sample file_facts segment_facts shaped file_limits placed checked cut form_of indented_form live_text.form_of digits is_utf8 chars serde_json_on_literals
document_again = refl

-- a document at the count
pub document_at_the_count : term_reply ((codes "__a", codes "field body\n  term fox\n    doc 0\n      freq 1\n      pos 1\n    doc 3\n      freq 1\n      pos 0\n  term red\n    doc 0\n      freq 1\n      pos 0\nEND\nchecksum 00000000000000000000\n") ∷ (codes "mount-a", codes "{\"version\":1,\"files\":[{\"name\":\"__a\",\"physical_name\":\"_0.pst\",\"length\":172}],\"segments\":[{\"name\":\"_0\",\"docs\":3,\"postings\":\"_0.pst\"}]}") ∷ []) (record { manifest = codes "mount-a"; field = codes "body"; term = codes "fox" }) ≡ Refused (codes "bad shard _0.pst 57")
unfolding sample file_facts segment_facts shaped file_limits placed checked cut form_of indented_form live_text.form_of digits is_utf8 chars serde_json_on_literals
document_at_the_count = refl

-- a frequency above the positions
pub frequency_too_high : term_reply ((codes "__a", codes "field body\n  term fox\n    doc 0\n      freq 2\n      pos 1\n    doc 2\n      freq 1\n      pos 0\n  term red\n    doc 0\n      freq 1\n      pos 0\nEND\nchecksum 00000000000000000000\n") ∷ (codes "mount-a", codes "{\"version\":1,\"files\":[{\"name\":\"__a\",\"physical_name\":\"_0.pst\",\"length\":172}],\"segments\":[{\"name\":\"_0\",\"docs\":3,\"postings\":\"_0.pst\"}]}") ∷ []) (record { manifest = codes "mount-a"; field = codes "body"; term = codes "fox" }) ≡ Refused (codes "bad shard _0.pst 57")
unfolding sample file_facts segment_facts shaped file_limits placed checked cut form_of indented_form live_text.form_of digits is_utf8 chars serde_json_on_literals
frequency_too_high = refl

-- a line that is passed over
pub skip_list : term_reply ((codes "__a", codes "field body\n  term fox\n    doc 0\n      freq 1\n      pos 1\n    doc 2\n      freq 1\n      pos 0\n  term red\n    doc 0\n      freq 1\n      pos 0\n    skipList \nEND\nchecksum 00000000000000000000\n") ∷ (codes "mount-a", codes "{\"version\":1,\"files\":[{\"name\":\"__a\",\"physical_name\":\"_0.pst\",\"length\":186}],\"segments\":[{\"name\":\"_0\",\"docs\":3,\"postings\":\"_0.pst\"}]}") ∷ []) (record { manifest = codes "mount-a"; field = codes "body"; term = codes "fox" }) ≡ Hits 2 ((codes "_0", 0) ∷ (codes "_0", 2) ∷ [])
unfolding sample file_facts segment_facts shaped file_limits placed checked cut form_of indented_form live_text.form_of digits is_utf8 chars serde_json_on_literals
skip_list = refl

-- a newline in a term
pub newline_in_a_term : term_reply ((codes "__a", codes "field f\n  term a\\\nb\n    doc 0\nEND\nchecksum 00000000000000000000\n") ∷ (codes "mount-a", codes "{\"version\":1,\"files\":[{\"name\":\"__a\",\"physical_name\":\"_0.pst\",\"length\":64}],\"segments\":[{\"name\":\"_0\",\"docs\":1,\"postings\":\"_0.pst\"}]}") ∷ []) (record { manifest = codes "mount-a"; field = codes "f"; term = codes "a\nb" }) ≡ Hits 1 ((codes "_0", 0) ∷ [])
unfolding sample file_facts segment_facts shaped file_limits placed checked cut form_of indented_form live_text.form_of digits is_utf8 chars serde_json_on_literals
newline_in_a_term = refl

-- document 0 is not live
pub dead_document : term_reply ((codes "__a", codes "field body\n  term fox\n    doc 0\n      freq 1\n      pos 1\n    doc 2\n      freq 1\n      pos 0\n  term red\n    doc 0\n      freq 1\n      pos 0\nEND\nchecksum 00000000000000000000\n") ∷ (codes "__d", codes "size 3\n  doc 2\nEND\nchecksum 00000000000000000000\n") ∷ (codes "mount-a", codes "{\"version\":1,\"files\":[{\"name\":\"__a\",\"physical_name\":\"_0.pst\",\"length\":172},{\"name\":\"__d\",\"physical_name\":\"_0_1.liv\",\"length\":49}],\"segments\":[{\"name\":\"_0\",\"docs\":3,\"postings\":\"_0.pst\",\"live\":\"_0_1.liv\"}]}") ∷ []) (record { manifest = codes "mount-a"; field = codes "body"; term = codes "fox" }) ≡ Hits 1 ((codes "_0", 2) ∷ [])
unfolding sample file_facts segment_facts shaped file_limits placed checked cut form_of indented_form live_text.form_of digits is_utf8 chars serde_json_on_literals
dead_document = refl

-- a bad text of live documents
pub bad_live : term_reply ((codes "__a", codes "field body\n  term fox\n    doc 0\n      freq 1\n      pos 1\n    doc 2\n      freq 1\n      pos 0\n  term red\n    doc 0\n      freq 1\n      pos 0\nEND\nchecksum 00000000000000000000\n") ∷ (codes "__d", codes "size 4\n  doc 0\n  doc 2\nEND\nchecksum 00000000000000000000\n") ∷ (codes "mount-a", codes "{\"version\":1,\"files\":[{\"name\":\"__a\",\"physical_name\":\"_0.pst\",\"length\":172},{\"name\":\"__d\",\"physical_name\":\"_0_1.liv\",\"length\":57}],\"segments\":[{\"name\":\"_0\",\"docs\":3,\"postings\":\"_0.pst\",\"live\":\"_0_1.liv\"}]}") ∷ []) (record { manifest = codes "mount-a"; field = codes "body"; term = codes "fox" }) ≡ Refused (codes "bad shard _0_1.liv 0")
unfolding sample file_facts segment_facts shaped file_limits placed checked cut form_of indented_form live_text.form_of digits is_utf8 chars serde_json_on_literals
bad_live = refl

-- the postings are read before the live documents
pub postings_first : term_reply ((codes "__a", codes "field body\n  term fox\n    doc 0\n      freq 1\n      pos 1\n    doc 2\n      freq 1\n      pos 0\n  term red\n    doc 0\n      freq 1\n      pos 0\n") ∷ (codes "__d", codes "size 4\n  doc 0\n  doc 2\nEND\nchecksum 00000000000000000000\n") ∷ (codes "mount-a", codes "{\"version\":1,\"files\":[{\"name\":\"__a\",\"physical_name\":\"_0.pst\",\"length\":138},{\"name\":\"__d\",\"physical_name\":\"_0_1.liv\",\"length\":57}],\"segments\":[{\"name\":\"_0\",\"docs\":3,\"postings\":\"_0.pst\",\"live\":\"_0_1.liv\"}]}") ∷ []) (record { manifest = codes "mount-a"; field = codes "body"; term = codes "fox" }) ≡ Refused (codes "bad shard _0.pst 138")
unfolding sample file_facts segment_facts shaped file_limits placed checked cut form_of indented_form live_text.form_of digits is_utf8 chars serde_json_on_literals
postings_first = refl

-- a bad second segment
pub bad_second : term_reply ((codes "__a", codes "field body\n  term fox\n    doc 0\n      freq 1\n      pos 1\n    doc 2\n      freq 1\n      pos 0\n  term red\n    doc 0\n      freq 1\n      pos 0\nEND\nchecksum 00000000000000000000\n") ∷ (codes "__b", codes "field body\n  term fox\n    doc 0\n      freq 1\n      pos 1\n    doc 2\n      freq 1\n      pos 0\n  term red\n    doc 0\n      freq 1\n      pos 0\n") ∷ (codes "mount-a", codes "{\"version\":1,\"files\":[{\"name\":\"__a\",\"physical_name\":\"_0.pst\",\"length\":172},{\"name\":\"__b\",\"physical_name\":\"_1.pst\",\"length\":138}],\"segments\":[{\"name\":\"_0\",\"docs\":3,\"postings\":\"_0.pst\"},{\"name\":\"_1\",\"docs\":3,\"postings\":\"_1.pst\"}]}") ∷ []) (record { manifest = codes "mount-a"; field = codes "body"; term = codes "fox" }) ≡ Refused (codes "bad shard _1.pst 138")
unfolding sample file_facts segment_facts shaped file_limits placed checked cut form_of indented_form live_text.form_of digits is_utf8 chars serde_json_on_literals
bad_second = refl

-- two segments
pub two_segments : term_reply ((codes "__a", codes "field body\n  term fox\n    doc 0\n      freq 1\n      pos 1\n    doc 2\n      freq 1\n      pos 0\n  term red\n    doc 0\n      freq 1\n      pos 0\nEND\nchecksum 00000000000000000000\n") ∷ (codes "mount-a", codes "{\"version\":1,\"files\":[{\"name\":\"__a\",\"physical_name\":\"_0.pst\",\"length\":172}],\"segments\":[{\"name\":\"_0\",\"docs\":3,\"postings\":\"_0.pst\"},{\"name\":\"_1\",\"docs\":3,\"postings\":\"_0.pst\"}]}") ∷ []) (record { manifest = codes "mount-a"; field = codes "body"; term = codes "fox" }) ≡ Hits 4 ((codes "_0", 0) ∷ (codes "_0", 2) ∷ (codes "_1", 0) ∷ (codes "_1", 2) ∷ [])
unfolding sample file_facts segment_facts shaped file_limits placed checked cut form_of indented_form live_text.form_of digits is_utf8 chars serde_json_on_literals
two_segments = refl

-- no JSON
pub no_json : term_reply ((codes "mount-a", codes "{") ∷ []) (record { manifest = codes "mount-a"; field = codes "body"; term = codes "fox" }) ≡ Refused (codes "refused json")
unfolding sample file_facts segment_facts shaped file_limits placed checked cut form_of indented_form live_text.form_of digits is_utf8 chars serde_json_on_literals
no_json = refl

-- a file without its length
pub no_length : term_reply ((codes "mount-a", codes "{\"version\":1,\"files\":[{\"name\":\"__a\",\"physical_name\":\"f\"}],\"segments\":[]}") ∷ []) (record { manifest = codes "mount-a"; field = codes "body"; term = codes "fox" }) ≡ Refused (codes "refused shape length")
unfolding sample file_facts segment_facts shaped file_limits placed checked cut form_of indented_form live_text.form_of digits is_utf8 chars serde_json_on_literals
no_length = refl

-- a length above the limit
pub too_long : term_reply ((codes "mount-a", codes "{\"version\":1,\"files\":[{\"name\":\"__a\",\"physical_name\":\"f\",\"length\":1099511623681}],\"segments\":[]}") ∷ []) (record { manifest = codes "mount-a"; field = codes "body"; term = codes "fox" }) ≡ Refused (codes "refused limit length")
unfolding sample file_facts segment_facts shaped file_limits placed checked cut form_of indented_form live_text.form_of digits is_utf8 chars serde_json_on_literals
too_long = refl

-- a physical name twice
pub name_twice : term_reply ((codes "mount-a", codes "{\"version\":1,\"files\":[{\"name\":\"__a\",\"physical_name\":\"f\",\"length\":0},{\"name\":\"__b\",\"physical_name\":\"f\",\"length\":0}],\"segments\":[]}") ∷ []) (record { manifest = codes "mount-a"; field = codes "body"; term = codes "fox" }) ≡ Refused (codes "refused double f")
unfolding sample file_facts segment_facts shaped file_limits placed checked cut form_of indented_form live_text.form_of digits is_utf8 chars serde_json_on_literals
name_twice = refl

-- a file that is not there
pub no_file : term_reply ((codes "mount-a", codes "{\"version\":1,\"files\":[{\"name\":\"__a\",\"physical_name\":\"f\",\"length\":0}],\"segments\":[{\"name\":\"_0\",\"docs\":3,\"postings\":\"g\"}]}") ∷ []) (record { manifest = codes "mount-a"; field = codes "body"; term = codes "fox" }) ≡ Refused (codes "refused nofile g")
unfolding sample file_facts segment_facts shaped file_limits placed checked cut form_of indented_form live_text.form_of digits is_utf8 chars serde_json_on_literals
no_file = refl

-- a part that is missing
pub no_part : term_reply ((codes "__a.part0", codes "field body\n  term fox\n    doc 0\n      freq 1\n      pos 1\n    doc 2\n      freq 1\n      pos 0\n  term r") ∷ (codes "mount-x", codes "{\"version\":1,\"files\":[{\"name\":\"__a\",\"physical_name\":\"_0.pst\",\"length\":172,\"part_size\":100}],\"segments\":[{\"name\":\"_0\",\"docs\":3,\"postings\":\"_0.pst\"}]}") ∷ []) (record { manifest = codes "mount-x"; field = codes "body"; term = codes "fox" }) ≡ Refused (codes "refused part __a.part1")
unfolding sample file_facts segment_facts shaped file_limits placed checked cut form_of indented_form live_text.form_of digits is_utf8 chars serde_json_on_literals
no_part = refl

-- a part of another size
pub other_size : term_reply ((codes "__a.part0", codes "field body\n  term fox\n    doc 0\n      freq 1\n      pos 1\n    doc 2\n      freq 1\n      pos 0\n  term r") ∷ (codes "__a.part1", codes "ed\n    doc 0\n      freq 1\n      pos 0\nEND\nchecksum 00000000000000000000") ∷ (codes "mount-x", codes "{\"version\":1,\"files\":[{\"name\":\"__a\",\"physical_name\":\"_0.pst\",\"length\":172,\"part_size\":100}],\"segments\":[{\"name\":\"_0\",\"docs\":3,\"postings\":\"_0.pst\"}]}") ∷ []) (record { manifest = codes "mount-x"; field = codes "body"; term = codes "fox" }) ≡ Refused (codes "refused size __a.part1")
unfolding sample file_facts segment_facts shaped file_limits placed checked cut form_of indented_form live_text.form_of digits is_utf8 chars serde_json_on_literals
other_size = refl

-- a blob of 9999 bytes where 10000 are wanted
pub one_byte_less : term_reply ((codes "__b", counting 9999) ∷ (codes "mount-y", manifest_y) ∷ []) (record { manifest = codes "mount-y"; field = codes "body"; term = codes "fox" }) ≡ Refused (codes "refused size __b")
unfolding sample file_facts segment_facts shaped file_limits placed checked cut form_of indented_form live_text.form_of digits is_utf8 chars serde_json_on_literals
one_byte_less = refl
