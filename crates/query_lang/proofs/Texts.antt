-- Queries whose fields and values are UTF-8.
use Rattle.std.proofs.Common.{ℕ, List, [], ◌∷◌, ◌++◌, Bool, true, false, refl}
use Rattle.std.specs.Cmp.{first_so, second_so}
use Rattle.std.specs.Prelude.{map, IsTrue, IsUtf8, ◌&&◌}
use Rattle.std.proofs.lemmas.Bool.{false≢true}
use Rattle.std.proofs.lemmas.Str.{is_utf8-from_IsUtf8}
use Rattle.query_lang.specs.declared.query.Query.{Query}
use Rattle.query_lang.specs.Trees.{term, tree_of, trees_of, is_text, are_text}

pub both_true : (a b : Bool) → IsTrue a → IsTrue b → IsTrue (a && b)
both_true true b h g = g
both_true false b h g = absurd (false≢true h)

pub term_is_text : (field value : List ℕ) → IsUtf8 field → IsUtf8 value → IsTrue (is_text (term field value))
term_is_text field value f v = rw (is_utf8-from_IsUtf8 field f, is_utf8-from_IsUtf8 value v)

pub one_more_text : (all : List Query) (q : Query) → IsTrue (are_text (trees_of (map tree_of all))) → IsTrue (is_text (tree_of q)) → IsTrue (are_text (trees_of (map tree_of (all ++ q ∷ []))))
one_more_text [] q h g = both_true (is_text (tree_of q)) true g refl
one_more_text (p ∷ all) q h g =
    both_true (is_text (tree_of p)) _ (first_so (is_text (tree_of p)) _ h) (one_more_text all q (second_so (is_text (tree_of p)) _ h) g)
