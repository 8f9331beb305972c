-- A query as a tree: its forms, with lists in place of the code's, and lists of bytes in place of texts.
use Rattle.std.specs.Prelude.{ℕ, ◌+◌, ◌&&◌, List, [], ◌∷◌, Bool, true, max, Option, IsTrue, IfSome, map}
use Rattle.std.specs.Str.{is_utf8}
use Rattle.query_lang.specs.declared.query.Query.{Query, fold-Query}
use Rattle.query_lang.specs.declared.query.Query.TheOpen.{Query-F}

-- `compound` has the clauses of a `bool`: must, filter, should, must_not and the minimum
mutual
  pub data Tree : Type 0 where
    match_all : Tree
    term : List ℕ → List ℕ → Tree
    compound : Trees → Trees → Trees → Trees → Option ℕ → Tree

  pub data Trees : Type 0 where
    no_trees : Trees
    tree : Tree → Trees → Trees

abbrev pub trees_of : List Tree → Trees
trees_of [] = no_trees
trees_of (q ∷ qs) = tree q (trees_of qs)

-- one level of a query, with each query inside already seen as its tree
abbrev pub tree_step : Query-F Tree → Tree
tree_step Query-F.MatchAll = match_all
tree_step (Query-F.Term field value) = term field value
tree_step (Query-F.Bool must filter should must_not minimum) = compound (trees_of must) (trees_of filter) (trees_of should) (trees_of must_not) minimum

-- the tree of a query
abbrev pub tree_of : Query → Tree
tree_of = fold-Query Tree tree_step

-- how deep a query nests: 0 where it is no `bool`, else one more than the greatest of its clauses, and 1 without any
abbrev mutual
  pub depth : Tree → ℕ
  depth match_all = 0
  depth (term field value) = 0
  depth (compound must filter should must_not minimum) = max (max (deepest must) (deepest filter)) (max (deepest should) (deepest must_not)) + 1

  pub deepest : Trees → ℕ
  deepest no_trees = 0
  deepest (tree q qs) = max (depth q) (deepest qs)

-- its fields and values are UTF-8
abbrev mutual
  pub is_text : Tree → Bool
  is_text match_all = true
  is_text (term field value) = is_utf8 field && is_utf8 value
  is_text (compound must filter should must_not minimum) = (are_text must && are_text filter) && (are_text should && are_text must_not)

  pub are_text : Trees → Bool
  are_text no_trees = true
  are_text (tree q qs) = is_text q && are_text qs

-- the query or the queries that were read, where there are any, are UTF-8
abbrev pub IsTextOf : Option Query → Type 0
IsTextOf o = IfSome o (λ q. IsTrue (is_text (tree_of q)))

abbrev pub AreTexts : Option (List Query) → Type 0
AreTexts o = IfSome o (λ qs. IsTrue (are_text (trees_of (map tree_of qs))))
