-- Worked searches and fetches, computed by the definitions.
use Rattle.std.proofs.Common.{◌≡◌, ℕ, zero, suc, List, [], ◌∷◌, Some, None, Ok, Err, refl}
use Rattle.std.specs.Prelude.{codes}
use Rattle.text_lines.specs.Lines.{cut}
use Rattle.mount_manifest.specs.declared.record.Segment.{Segment}
use Rattle.simpletext_postings.specs.Postings.{form_of, indented_form}
use Rattle.simpletext_stored.specs.Stored as stored_text
use Rattle.simpletext_stored.specs.Live as live_text
use Rattle.simpletext_stored.specs.declared.field.Kind.TheVariants.{Str}
use Rattle.query_lang.specs.Trees.{Tree, match_all, term, compound, no_trees, tree}
use Rattle.shard_search.specs.Hits.{hits, document}

-- the postings of three documents, the stored fields of the first, and the first and the last of them as live
unfoldable pub files : ℕ → List ℕ
files zero = codes "field body\n  term fox\n    doc 0\n      freq 1\n      pos 1\n    doc 2\n      freq 1\n      pos 0\n  term red\n    doc 0\n      freq 1\n      pos 0\nEND\nchecksum 00000000000000000000\n"
files (suc zero) = codes "doc 0\n  field 0\n    name title\n    type string\n    value red fox\ndoc 1\ndoc 2\nEND\nchecksum 00000000000000000000\n"
files (suc (suc n)) = codes "size 3\n  doc 0\n  doc 2\nEND\nchecksum 00000000000000000000\n"

abbrev all_live : Segment
all_live = record { name = codes "_0"; docs = 3; postings = 0; stored = None; live = None }

abbrev some_live : Segment
some_live = record { name = codes "_0"; docs = 3; postings = 0; stored = Some 1; live = Some 2 }

-- its postings are a text of live documents, and its live documents one of stored fields
abbrev both_bad : Segment
both_bad = record { name = codes "_1"; docs = 3; postings = 2; stored = Some 1; live = Some 1 }

abbrev fox : Tree
fox = term (codes "body") (codes "fox")

abbrev red : Tree
red = term (codes "body") (codes "red")

pub of_a_term : hits files fox (all_live ∷ []) ≡ Ok ((0, 0) ∷ (0, 2) ∷ [])
unfolding files cut form_of indented_form
of_a_term = refl

pub of_another_field : hits files (term (codes "none") (codes "fox")) (all_live ∷ []) ≡ Ok []
unfolding files cut form_of indented_form
of_another_field = refl

pub of_must_not : hits files (compound no_trees no_trees no_trees (tree red no_trees) None) (all_live ∷ []) ≡ Ok ((0, 1) ∷ (0, 2) ∷ [])
unfolding files cut form_of indented_form
of_must_not = refl

pub of_must_not_live : hits files (compound no_trees no_trees no_trees (tree red no_trees) None) (some_live ∷ []) ≡ Ok ((0, 2) ∷ [])
unfolding files cut form_of indented_form live_text.form_of
of_must_not_live = refl

pub of_an_empty_bool : hits files (compound no_trees no_trees no_trees no_trees None) (all_live ∷ []) ≡ Ok ((0, 0) ∷ (0, 1) ∷ (0, 2) ∷ [])
unfolding files cut form_of indented_form
of_an_empty_bool = refl

pub of_two : hits files (compound no_trees no_trees (tree fox (tree red no_trees)) no_trees (Some 2)) (all_live ∷ []) ≡ Ok ((0, 0) ∷ [])
unfolding files cut form_of indented_form
of_two = refl

pub of_three : hits files (compound no_trees no_trees (tree fox (tree red no_trees)) no_trees (Some 3)) (all_live ∷ []) ≡ Ok []
unfolding files cut form_of indented_form
of_three = refl

-- a clause at two places is counted twice
pub of_one_twice : hits files (compound no_trees no_trees (tree fox (tree fox no_trees)) no_trees (Some 2)) (all_live ∷ []) ≡ Ok ((0, 0) ∷ (0, 2) ∷ [])
unfolding files cut form_of indented_form
of_one_twice = refl

-- without a minimum, one of `should` is enough, and beside `must` none is needed
pub of_should : hits files (compound no_trees no_trees (tree red no_trees) no_trees None) (all_live ∷ []) ≡ Ok ((0, 0) ∷ [])
unfolding files cut form_of indented_form
of_should = refl

pub of_should_beside_must : hits files (compound (tree fox no_trees) no_trees (tree red no_trees) no_trees None) (all_live ∷ []) ≡ Ok ((0, 0) ∷ (0, 2) ∷ [])
unfolding files cut form_of indented_form
of_should_beside_must = refl

-- of the second segment the postings are bad, before its live documents
pub of_a_bad_segment : hits files match_all (some_live ∷ both_bad ∷ []) ≡ Err (record { file = 2; at = 0 })
unfolding files cut form_of indented_form live_text.form_of
of_a_bad_segment = refl

pub of_a_live_document : document files 1 some_live 0 ≡ Ok (Some (record { name = codes "title"; kind = Str; value = codes "red fox" } ∷ []))
unfolding files cut stored_text.form_of live_text.form_of
of_a_live_document = refl

pub of_a_dead_document : document files 1 some_live 1 ≡ Ok None
unfolding files cut stored_text.form_of live_text.form_of
of_a_dead_document = refl

pub of_no_document : document files 1 some_live 3 ≡ Ok None
unfolding files cut stored_text.form_of live_text.form_of
of_no_document = refl

-- a document that is not live, where the stored fields are bad
pub of_bad_stored_fields : document files 2 some_live 1 ≡ Err (record { file = 2; at = 0 })
unfolding files cut stored_text.form_of live_text.form_of
of_bad_stored_fields = refl
