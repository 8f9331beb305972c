-- Worked rows of queries.
use Rattle.std.proofs.Common.{◌≡◌, refl, Some, None}
use Rattle.std.specs.Prelude.{codes, Ok, Err}
use Rattle.std.specs.Str.{is_utf8, chars}
use Rattle.serde_json.proofs.OnLiterals.{serde_json_on_literals}
use Rattle.query_lang.specs.Trees.{match_all, term, compound, no_trees, tree}
use Rattle.serde_json.specs.Written.{compact_text}
use Rattle.query_lang.specs.Printing.{data_of}
use Rattle.query_lang.specs.Reading.{query}
use Rattle.query_lang.specs.declared.error.QueryError.TheVariants.{NotJson, Shape}

pub must_not_alone : query (codes "{\"bool\":{\"must_not\":{\"term\":{\"body\":\"red\"}}}}") ≡ Ok (compound no_trees no_trees no_trees (tree (term (codes "body") (codes "red")) no_trees) None)
unfolding is_utf8 chars serde_json_on_literals
must_not_alone = refl

pub empty_bool : query (codes "{\"bool\":{}}") ≡ Ok (compound no_trees no_trees no_trees no_trees None)
unfolding is_utf8 chars serde_json_on_literals
empty_bool = refl

pub should_of_two : query (codes "{\"bool\":{\"should\":[{\"term\":{\"body\":\"fox\"}},{\"term\":{\"body\":{\"value\":\"red\"}}}],\"minimum_should_match\":2}}")
    ≡ Ok (compound no_trees no_trees (tree (term (codes "body") (codes "fox")) (tree (term (codes "body") (codes "red")) no_trees)) no_trees (Some 2))
unfolding is_utf8 chars serde_json_on_literals
should_of_two = refl

pub number_value : query (codes "{\"term\":{\"body\":5}}") ≡ Err Shape
unfolding is_utf8 chars serde_json_on_literals
number_value = refl

pub two_members : query (codes "{\"match_all\":{},\"term\":{\"a\":\"b\"}}") ≡ Err Shape
unfolding is_utf8 chars serde_json_on_literals
two_members = refl

pub minimum_form : query (codes "{\"bool\":{\"minimum_should_match\":1.0}}") ≡ Err Shape
unfolding is_utf8 chars serde_json_on_literals
minimum_form = refl

pub nothing_there : query (codes "") ≡ Err NotJson
unfolding is_utf8 chars serde_json_on_literals
nothing_there = refl

pub printed_term : compact_text (data_of (term (codes "body") (codes "fox"))) ≡ codes "{\"term\":{\"body\":\"fox\"}}"
unfolding is_utf8 chars serde_json_on_literals
printed_term = refl

pub printed_bool : compact_text (data_of (compound no_trees no_trees no_trees (tree match_all no_trees) None)) ≡ codes "{\"bool\":{\"must_not\":[{\"match_all\":{}}]}}"
unfolding is_utf8 chars serde_json_on_literals
printed_bool = refl

pub bool_of_array : query (codes "{\"bool\":[]}") ≡ Err Shape
unfolding is_utf8 chars serde_json_on_literals
bool_of_array = refl

pub term_of_nothing : query (codes "{\"term\":{}}") ≡ Err Shape
unfolding is_utf8 chars serde_json_on_literals
term_of_nothing = refl

pub term_of_two : query (codes "{\"term\":{\"a\":\"b\",\"c\":\"d\"}}") ≡ Err Shape
unfolding is_utf8 chars serde_json_on_literals
term_of_two = refl

pub minimum_below_0 : query (codes "{\"bool\":{\"minimum_should_match\":-1}}") ≡ Err Shape
unfolding is_utf8 chars serde_json_on_literals
minimum_below_0 = refl

pub minimum_of_a_half : query (codes "{\"bool\":{\"minimum_should_match\":1.5}}") ≡ Err Shape
unfolding is_utf8 chars serde_json_on_literals
minimum_of_a_half = refl
