-- Reading what was printed gives the query again.
use Rattle.std.proofs.Common.{◌≡◌, ℕ, List, [], ◌∷◌, Some, None, Option, refl, ap, sym, ◌∙◌, Less}
use Rattle.std.specs.Prelude.{codes, option_map}
use Rattle.std.specs.Ordering.{nat_cmp}
use Rattle.std.specs.Cmp.Lexicographic.{slice_cmp}
use Rattle.serde_json.specs.Data.{Data, unsigned, number, array, Items, no_items, item, Members, no_members, member, put}
use Rattle.query_lang.specs.Trees.{Tree, match_all, term, compound, Trees, no_trees, tree, trees_of}
use Rattle.query_lang.specs.Reading.{Parts, no_parts, with_member, parts_after, forms, form, compound_of}
use Rattle.query_lang.specs.Printing.{data_of, datas_of, put_list, put_number}

-- the key stands before all of these
abbrev pub IsBefore : List ℕ → Members → Type 0
IsBefore k no_members = Unit {0}
IsBefore k (member l d ms) = slice_cmp nat_cmp k l ≡ Less

pub put_in_front : (k : List ℕ) (d : Data) (ms : Members) → IsBefore k ms → put k d ms ≡ member k d ms
put_in_front k d no_members h = refl
put_in_front k d (member l e ms) h = rw h

pub before_list : (k l : List ℕ) (ds : Items) (ms : Members) → slice_cmp nat_cmp k l ≡ Less → IsBefore k ms → IsBefore l ms → IsBefore k (put_list l ds ms)
before_list k l no_items ms less here there = here
before_list k l (item d ds) ms less here there = rw (put_in_front l (array (item d ds)) ms there) less

pub before_number : (k l : List ℕ) (n : Option ℕ) (ms : Members) → slice_cmp nat_cmp k l ≡ Less → IsBefore k ms → IsBefore l ms → IsBefore k (put_number l n ms)
before_number k l None ms less here there = here
before_number k l (Some n) ms less here there = rw (put_in_front l (number (unsigned n)) ms there) less

module _ (k : List ℕ) (set : Parts → List Tree → Parts) (sets : (c : Parts) (qs : List Tree) (n : Option ℕ) → with_member c k (Some qs) n ≡ Some (set c qs)) where
  pub list_read : (c : Parts) (ds : Items) (qs : List Tree) (ms : Members) → IsBefore k ms → set c [] ≡ c → forms ds ≡ Some qs → parts_after c (put_list k ds ms) ≡ parts_after (set c qs) ms
  list_read c no_items qs ms h none is = let e : [] ≡ qs = cc in ap (λ x. parts_after x ms) (sym none ∙ ap (set c) e)
  list_read c (item d ds) qs ms h none is = rw (put_in_front k (array (item d ds)) ms h, is, sets c qs None)

pub number_read : (c : Parts) (n : Option ℕ) (ms : Members) → IsBefore (codes "minimum_should_match") ms → c.minimum ≡ None → parts_after c (put_number (codes "minimum_should_match") n ms) ≡ parts_after (record c { minimum = n }) ms
number_read c None ms h e = ap (λ m. parts_after (record c { minimum = m }) ms) e
number_read c (Some n) ms h e = rw (put_in_front (codes "minimum_should_match") (number (unsigned n)) ms h)

abbrev pub list_of : Trees → List Tree
list_of no_trees = []
list_of (tree q qs) = q ∷ list_of qs

pub trees_of-list_of : (qs : Trees) → trees_of (list_of qs) ≡ qs
trees_of-list_of no_trees = refl
trees_of-list_of (tree q qs) = ap (tree q) (trees_of-list_of qs)

module _ (must filter should must_not : Trees) (minimum : Option ℕ) where
  abbrev pub m4 : Members
  m4 = put_list (codes "should") (datas_of should) no_members

  abbrev pub m3 : Members
  m3 = put_list (codes "must_not") (datas_of must_not) m4

  abbrev pub m2 : Members
  m2 = put_list (codes "must") (datas_of must) m3

  abbrev pub m1 : Members
  m1 = put_number (codes "minimum_should_match") minimum m2

  pub f4 : IsBefore (codes "must_not") m4
  f4 = before_list (codes "must_not") (codes "should") (datas_of should) no_members refl (tt {0}) (tt {0})

  pub f3 : IsBefore (codes "must") m3
  f3 = before_list (codes "must") (codes "must_not") (datas_of must_not) m4 refl (before_list (codes "must") (codes "should") (datas_of should) no_members refl (tt {0}) (tt {0})) f4

  pub f2 : IsBefore (codes "minimum_should_match") m2
  f2 = before_list (codes "minimum_should_match") (codes "must") (datas_of must) m3 refl
      (before_list (codes "minimum_should_match") (codes "must_not") (datas_of must_not) m4 refl
      (before_list (codes "minimum_should_match") (codes "should") (datas_of should) no_members refl (tt {0}) (tt {0})) f4) f3

  pub f1 : IsBefore (codes "filter") m1
  f1 = before_number (codes "filter") (codes "minimum_should_match") minimum m2 refl
      (before_list (codes "filter") (codes "must") (datas_of must) m3 refl
      (before_list (codes "filter") (codes "must_not") (datas_of must_not) m4 refl
      (before_list (codes "filter") (codes "should") (datas_of should) no_members refl (tt {0}) (tt {0})) f4) f3) f2

  abbrev all : Parts
  all = record { must = list_of must; filter = list_of filter; should = list_of should; must_not = list_of must_not; minimum = minimum }

  module _ (a : forms (datas_of must) ≡ Some (list_of must)) (b : forms (datas_of filter) ≡ Some (list_of filter))
      (c : forms (datas_of should) ≡ Some (list_of should)) (d : forms (datas_of must_not) ≡ Some (list_of must_not)) where
    pub members_read : parts_after no_parts (put_list (codes "filter") (datas_of filter) m1) ≡ Some all
    members_read =
        list_read (codes "filter") (λ x qs. record x { filter = qs }) (λ x qs n. refl) no_parts (datas_of filter) (list_of filter) m1 f1 refl b
        ∙ number_read (record no_parts { filter = list_of filter }) minimum m2 f2 refl
        ∙ list_read (codes "must") (λ x qs. record x { must = qs }) (λ x qs n. refl) (record no_parts { filter = list_of filter; minimum = minimum }) (datas_of must) (list_of must) m3 f3 refl a
        ∙ list_read (codes "must_not") (λ x qs. record x { must_not = qs }) (λ x qs n. refl) (record no_parts { filter = list_of filter; minimum = minimum; must = list_of must }) (datas_of must_not) (list_of must_not) m4 f4 refl d
        ∙ list_read (codes "should") (λ x qs. record x { should = qs }) (λ x qs n. refl) (record no_parts { filter = list_of filter; minimum = minimum; must = list_of must; must_not = list_of must_not }) (datas_of should) (list_of should) no_members (tt {0}) refl c

    pub compound_read : form (data_of (compound must filter should must_not minimum)) ≡ Some (compound must filter should must_not minimum)
    compound_read =
        ap (option_map compound_of) members_read
        ∙ ap Some (rw (trees_of-list_of must, trees_of-list_of filter, trees_of-list_of should, trees_of-list_of must_not))

mutual
  pub printed_is_read : (q : Tree) → form (data_of q) ≡ Some q
  printed_is_read match_all = refl
  printed_is_read (term field value) = refl
  printed_is_read (compound must filter should must_not minimum) =
      compound_read must filter should must_not minimum (all_read must) (all_read filter) (all_read should) (all_read must_not)

  pub all_read : (qs : Trees) → forms (datas_of qs) ≡ Some (list_of qs)
  all_read no_trees = refl
  all_read (tree q qs) = rw (printed_is_read q, all_read qs)
