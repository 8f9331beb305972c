use Rattle.std.proofs.Common.{◌≡◌, map, option_map, drop, ◌+◌, ◌*◌, ◌<◌}
use Rattle.std.specs.Prelude.{IsTrue}
use Rattle.serde_json.specs.Data.{depth, items_depth, members_depth}
use Rattle.serde_json.specs.View.{view, items_view, members_view}
use Rattle.query_lang.specs.Trees.{tree_of, trees_of, is_text, are_text}
use Rattle.query_lang.specs.Reading.{forms, put_front, parts_after, parts_of, compound_of, bool_form}
use Rattle.query_lang.proofs.reading.+reads.Given as goal

abbrev pub decreases-form : goal.decreases-form
decreases-form l = 3 * depth (view l.value.now) + 1

abbrev pub decreases-bool_query : goal.decreases-bool_query
decreases-bool_query l = 3 * depth (view l.value.now)

abbrev pub decreases-clause_list : goal.decreases-clause_list
decreases-clause_list l = 3 * depth (view l.value.now) + 2

abbrev pub decreases-forms : goal.decreases-forms
decreases-forms l = 3 * items_depth (items_view l.values.now) + 2

abbrev pub invariant-bool_query-loop-key : goal.invariant-bool_query-loop-key
invariant-bool_query-loop-key l = record {
  deep : members_depth (members_view l.key-iterator) < depth (view l.value);
  form : option_map compound_of (parts_after (parts_of l.parts) (members_view l.key-iterator)) ≡ bool_form (view l.value);
  text : IsTrue (is_text (compound_of (parts_of l.parts)));
}

abbrev pub invariant-forms-loop-value : goal.invariant-forms-loop-value
invariant-forms-loop-value l = record {
  form : put_front (map tree_of l.all) (forms (items_view (drop l.value-index l.values))) ≡ forms (items_view l.values);
  text : IsTrue (are_text (trees_of (map tree_of l.all)));
}
