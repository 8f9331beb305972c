-- What a query matches.
use Rattle.std.specs.Prelude.{ℕ, ◌+◌, ◌&&◌, ◌||◌, List, Bool, true, false, not, nat_le, Option, Some, None, if◌then◌else◌}
use Rattle.query_lang.specs.Trees.{Tree, match_all, term, compound, Trees, no_trees, tree}

abbrev pub is_empty : Trees → Bool
is_empty no_trees = true
is_empty (tree q qs) = false

-- how many queries of `should` have to match: the minimum where it is given; else 1 where only `should` asks for something
abbrev pub needed : Trees → Trees → Trees → Option ℕ → ℕ
needed must filter should (Some m) = m
needed must filter should None = if not (is_empty should) && is_empty must && is_empty filter then 1 else 0

-- `has f v d` says whether document d has the term v in the field f
abbrev mutual
  -- whether a query matches a document
  pub matches : (List ℕ → List ℕ → ℕ → Bool) → Tree → ℕ → Bool
  matches has match_all d = true
  matches has (term field value) d = has field value d
  matches has (compound must filter should must_not minimum) d =
      all_match has must d && all_match has filter d && not (some_match has must_not d) && nat_le (needed must filter should minimum) (count_match has should d)

  pub all_match : (List ℕ → List ℕ → ℕ → Bool) → Trees → ℕ → Bool
  all_match has no_trees d = true
  all_match has (tree q qs) d = matches has q d && all_match has qs d

  pub some_match : (List ℕ → List ℕ → ℕ → Bool) → Trees → ℕ → Bool
  some_match has no_trees d = false
  some_match has (tree q qs) d = matches has q d || some_match has qs d

  -- each query is counted once per place in the list
  pub count_match : (List ℕ → List ℕ → ℕ → Bool) → Trees → ℕ → ℕ
  count_match has no_trees d = 0
  count_match has (tree q qs) d = (if matches has q d then 1 else 0) + count_match has qs d
