-- The JSON value that a query is printed as: terms in the short form, clause lists as arrays, empty lists and a missing minimum left out.
use Rattle.std.specs.Prelude.{ℕ, List, Option, Some, None, codes}
use Rattle.serde_json.specs.Data.{Data, unsigned, number, string, array, object, Items, no_items, item, Members, no_members, member, put}
use Rattle.query_lang.specs.Trees.{Tree, match_all, term, compound, Trees, no_trees, tree}

abbrev pub single : List ℕ → Data → Data
single k d = object (member k d no_members)

-- an empty list is left out
abbrev pub put_list : List ℕ → Items → Members → Members
put_list k no_items ms = ms
put_list k (item d ds) ms = put k (array (item d ds)) ms

-- a missing minimum is left out
abbrev pub put_number : List ℕ → Option ℕ → Members → Members
put_number k None ms = ms
put_number k (Some n) ms = put k (number (unsigned n)) ms

-- `put` keeps an object's members in the order of their keys
abbrev mutual
  pub data_of : Tree → Data
  data_of match_all = single (codes "match_all") (object no_members)
  data_of (term field value) = single (codes "term") (single field (string value))
  data_of (compound must filter should must_not minimum) = single (codes "bool") (object
      (put_list (codes "filter") (datas_of filter) (put_number (codes "minimum_should_match") minimum (put_list (codes "must") (datas_of must)
      (put_list (codes "must_not") (datas_of must_not) (put_list (codes "should") (datas_of should) no_members))))))

  pub datas_of : Trees → Items
  datas_of no_trees = no_items
  datas_of (tree q qs) = item (data_of q) (datas_of qs)

-- these items in front
abbrev pub items_then : Items → Items → Items
items_then no_items more = more
items_then (item d ds) more = item d (items_then ds more)
