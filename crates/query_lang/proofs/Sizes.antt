-- What is printed has no float, and nests little deeper than the query.
use Rattle.std.proofs.Common.{List, ◌≡◌, ℕ, ◌+◌, ◌*◌, ◌≤◌, Some, None, Option, refl, arith, false}
use Rattle.std.specs.Prelude.{codes}
use Rattle.serde_json.specs.Data.{unsigned, number, array, Items, no_items, item, Members, no_members, depth, items_depth, members_depth}
use Rattle.serde_json.specs.Written.{has_float, items_have_float, members_have_float}
use Rattle.query_lang.specs.Trees.{Tree, match_all, term, compound, Trees, no_trees, tree}
use Rattle.query_lang.specs.Trees as query
use Rattle.query_lang.specs.Printing.{data_of, datas_of, put_list, put_number}
use Rattle.query_lang.proofs.Printed.{IsBefore, put_in_front, m1, m2, m3, m4, f1, f2, f3, f4}

pub list_float : (k : List ℕ) (ds : Items) (ms : Members) → IsBefore k ms → items_have_float ds ≡ false → members_have_float ms ≡ false → members_have_float (put_list k ds ms) ≡ false
list_float k no_items ms h a b = b
list_float k (item d ds) ms h a b = rw (put_in_front k (array (item d ds)) ms h, a, b)

pub number_float : (k : List ℕ) (n : Option ℕ) (ms : Members) → IsBefore k ms → members_have_float ms ≡ false → members_have_float (put_number k n ms) ≡ false
number_float k None ms h b = b
number_float k (Some n) ms h b = rw (put_in_front k (number (unsigned n)) ms h, b)

pub list_depth : (k : List ℕ) (ds : Items) (ms : Members) (n : ℕ) → IsBefore k ms → items_depth ds + 1 ≤ n → members_depth ms ≤ n → members_depth (put_list k ds ms) ≤ n
list_depth k no_items ms n h a b = b
list_depth k (item d ds) ms n h a b = rw (put_in_front k (array (item d ds)) ms h) (omega (arith, a, b))

pub number_depth : (k : List ℕ) (m : Option ℕ) (ms : Members) (n : ℕ) → IsBefore k ms → members_depth ms ≤ n → members_depth (put_number k m ms) ≤ n
number_depth k None ms n h b = b
number_depth k (Some m) ms n h b = rw (put_in_front k (number (unsigned m)) ms h) (omega (arith, b))

mutual
  pub data_float : (q : Tree) → has_float (data_of q) ≡ false
  data_float match_all = refl
  data_float (term field value) = refl
  data_float (compound must filter should must_not minimum) = rw (
      list_float (codes "filter") (datas_of filter) (m1 must filter should must_not minimum) (f1 must filter should must_not minimum) (datas_float filter)
      (number_float (codes "minimum_should_match") minimum (m2 must filter should must_not minimum) (f2 must filter should must_not minimum)
      (list_float (codes "must") (datas_of must) (m3 must filter should must_not minimum) (f3 must filter should must_not minimum) (datas_float must)
      (list_float (codes "must_not") (datas_of must_not) (m4 must filter should must_not minimum) (f4 must filter should must_not minimum) (datas_float must_not)
      (list_float (codes "should") (datas_of should) no_members (tt {0}) (datas_float should) refl)))))

  pub datas_float : (qs : Trees) → items_have_float (datas_of qs) ≡ false
  datas_float no_trees = refl
  datas_float (tree q qs) = rw (data_float q, datas_float qs)

mutual
  pub data_depth : (q : Tree) → depth (data_of q) ≤ 3 * query.depth q + 2
  data_depth match_all = omega arith
  data_depth (term field value) = omega arith
  data_depth (compound must filter should must_not minimum) =
      let n = 3 * query.depth (compound must filter should must_not minimum) in
      let a = datas_depth must in let b = datas_depth filter in let c = datas_depth should in let d = datas_depth must_not in
      let e : members_depth (put_list (codes "filter") (datas_of filter) (m1 must filter should must_not minimum)) ≤ n =
      list_depth (codes "filter") (datas_of filter) (m1 must filter should must_not minimum) n (f1 must filter should must_not minimum) (omega (arith, b))
      (number_depth (codes "minimum_should_match") minimum (m2 must filter should must_not minimum) n (f2 must filter should must_not minimum)
      (list_depth (codes "must") (datas_of must) (m3 must filter should must_not minimum) n (f3 must filter should must_not minimum) (omega (arith, a))
      (list_depth (codes "must_not") (datas_of must_not) (m4 must filter should must_not minimum) n (f4 must filter should must_not minimum) (omega (arith, d))
      (list_depth (codes "should") (datas_of should) no_members n (tt {0}) (omega (arith, c)) (omega arith))))) in
      omega (arith, e)

  pub datas_depth : (qs : Trees) → items_depth (datas_of qs) ≤ 3 * query.deepest qs + 2
  datas_depth no_trees = omega arith
  datas_depth (tree q qs) = omega (arith, data_depth q, datas_depth qs)
