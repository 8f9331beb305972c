use Rattle.std.proofs.Common.{◌≡◌, map, min, max, ◌^◌, ◌-◌, drop}
use Rattle.query_lang.specs.Trees.{deepest, tree_of, trees_of}
use Rattle.query_lang.proofs.reading.+depths.Given as goal

abbrev pub invariant-deepest-loop-query : goal.invariant-deepest-loop-query
invariant-deepest-loop-query l =
    max l.most (min (deepest (trees_of (map tree_of (drop l.query-index l.queries)))) (2 ^ 64 - 1)) ≡ min (deepest (trees_of (map tree_of l.queries))) (2 ^ 64 - 1)
