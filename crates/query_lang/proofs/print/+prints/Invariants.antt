use Rattle.std.proofs.Common.{◌≡◌, map, drop}
use Rattle.std.specs.Prelude.{IsTrue}
use Rattle.serde_json.specs.View.{items_view}
use Rattle.query_lang.specs.Trees.{tree_of, trees_of, are_text}
use Rattle.query_lang.specs.Printing.{datas_of, items_then}
use Rattle.query_lang.proofs.print.+prints.Given as goal

abbrev pub invariant-values_of-loop-query : goal.invariant-values_of-loop-query
invariant-values_of-loop-query l =
    IsTrue (are_text (trees_of (map tree_of (drop l.query-index l.queries))))
    × (items_then (items_view l.values.items) (datas_of (trees_of (map tree_of (drop l.query-index l.queries)))) ≡ datas_of (trees_of (map tree_of l.queries)))
