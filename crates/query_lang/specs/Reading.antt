-- The query that a text is.
use Rattle.std.specs.Prelude.{ℕ, ◌≡◌, List, [], ◌∷◌, ◌++◌, map, nat_le, Option, Some, None, option_map, option_and_then, Result, Ok, Err, if◌then◌else◌, codes}
use Rattle.std.specs.Str.{bytes_eq}
use Rattle.serde_json.specs.Data.{Data, string, array, object, Items, no_items, item, Members, no_members, member}
use Rattle.serde_json.specs.Find.{as_str}
use Rattle.serde_json.specs.View.{view}
use Rattle.serde_json.specs.declared.value.Value.{Value}
use Rattle.mount_manifest.specs.Json.{json_of, whole_of}
use Rattle.query_lang.specs.Trees.{Tree, match_all, term, compound, trees_of, tree_of, depth}
use Rattle.query_lang.specs.declared.query.Query.{Query}
use Rattle.query_lang.specs.declared.members.BoolParts.{BoolParts}
use Rattle.query_lang.specs.declared.error.QueryError.{QueryError}
use Rattle.query_lang.specs.declared.error.QueryError.TheVariants.{NotJson, Shape, Depth, NoMemory}

-- ---- the forms

-- {}
abbrev pub empty_form : Data → Option Tree
empty_form (object no_members) = Some match_all
empty_form _ = None

-- "v" and {"value":"v"}
abbrev pub value_text : Data → Option (List ℕ)
value_text (string v) = Some v
value_text (object (member k d no_members)) = if bytes_eq k (codes "value") then as_str d else None
value_text _ = None

-- {F:"v"} and {F:{"value":"v"}}
abbrev pub term_form : Data → Option Tree
term_form (object (member field d no_members)) = option_map (term field) (value_text d)
term_form _ = None

-- what the members of a `bool` say that were read so far
pub record Parts : Type 0 where
  pub must : List Tree
  pub filter : List Tree
  pub should : List Tree
  pub must_not : List Tree
  pub minimum : Option ℕ

abbrev pub no_parts : Parts
no_parts = record { must = []; filter = []; should = []; must_not = []; minimum = None }

-- the member of this key, which is a clause list or a whole number, put in; None where it is not of its key's form
abbrev pub with_member : Parts → List ℕ → Option (List Tree) → Option ℕ → Option Parts
with_member p k qs n =
    if bytes_eq k (codes "must") then option_map (λ x. record p { must = x }) qs
    else if bytes_eq k (codes "filter") then option_map (λ x. record p { filter = x }) qs
    else if bytes_eq k (codes "should") then option_map (λ x. record p { should = x }) qs
    else if bytes_eq k (codes "must_not") then option_map (λ x. record p { must_not = x }) qs
    else if bytes_eq k (codes "minimum_should_match") then option_map (λ x. record p { minimum = Some x }) n
    else None

abbrev pub compound_of : Parts → Tree
compound_of p = compound (trees_of p.must) (trees_of p.filter) (trees_of p.should) (trees_of p.must_not) p.minimum

abbrev pub one_tree : Option Tree → Option (List Tree)
one_tree None = None
one_tree (Some q) = Some (q ∷ [])

abbrev pub more_trees : Option Tree → Option (List Tree) → Option (List Tree)
more_trees None rest = None
more_trees (Some q) None = None
more_trees (Some q) (Some qs) = Some (q ∷ qs)

abbrev pub first_of : Option (List Tree) → Option (List Tree) → Option (List Tree)
first_of None other = other
first_of (Some qs) other = Some qs

-- the query in an object whose one member has this key
abbrev pub named_form : List ℕ → Data → Option Tree → Option Tree
named_form k d as_bool =
    if bytes_eq k (codes "match_all") then empty_form d
    else if bytes_eq k (codes "term") then term_form d
    else if bytes_eq k (codes "bool") then as_bool
    else None

abbrev mutual
  -- the query that a value is: an object of exactly one member
  pub form : Data → Option Tree
  form (object (member k d no_members)) = named_form k d (bool_form d)
  form _ = None

  pub bool_form : Data → Option Tree
  bool_form (object ms) = option_map compound_of (parts_after no_parts ms)
  bool_form _ = None

  -- a clause list is an array of queries, or one query
  pub parts_after : Parts → Members → Option Parts
  parts_after p no_members = Some p
  parts_after p (member k d ms) = option_and_then (λ x. parts_after x ms) (with_member p k (first_of (list_form d) (one_tree (form d))) (whole_of d))

  pub list_form : Data → Option (List Tree)
  list_form (array ds) = forms ds
  list_form _ = None

  pub forms : Items → Option (List Tree)
  forms no_items = Some []
  forms (item d ds) = more_trees (form d) (forms ds)

-- ---- the text

abbrev pub shallow : Option Tree → Result Tree QueryError
shallow None = Err Shape
shallow (Some q) = if nat_le (depth q) 32 then Ok q else Err Depth

abbrev pub query_from : Option Data → Result Tree QueryError
query_from None = Err NotJson
query_from (Some d) = shallow (form d)

-- the query that a text is, or the first refusal
abbrev pub query : List ℕ → Result Tree QueryError
query text = query_from (json_of text)

-- ---- what the code's functions give

-- want of memory may come at any time, and every other answer is the one that the text gives
abbrev pub IsRead : Result Query QueryError → Result Tree QueryError → Type 0
IsRead (Ok q) wanted = wanted ≡ Ok (tree_of q)
IsRead (Err NoMemory) wanted = Unit {0}
IsRead (Err e) wanted = wanted ≡ Err e

abbrev pub IsJson : Result Value QueryError → Option Data → Type 0
IsJson (Ok v) wanted = wanted ≡ Some (view v)
IsJson (Err NoMemory) wanted = Unit {0}
IsJson (Err NotJson) wanted = wanted ≡ None
IsJson (Err e) wanted = ⊥

abbrev pub parts_of : BoolParts → Parts
parts_of p = record { must = map tree_of p.must; filter = map tree_of p.filter; should = map tree_of p.should; must_not = map tree_of p.must_not; minimum = p.minimum }

-- the member of an object of one member
abbrev pub only : Data → Option (List ℕ × Data)
only (object (member k d no_members)) = Some (k, d)
only _ = None

abbrev pub form_of_only : Option (List ℕ × Data) → Option Tree
form_of_only None = None
form_of_only (Some p) = named_form p.0 p.1 (bool_form p.1)

-- the queries read before, in front of the rest
abbrev pub put_front : List Tree → Option (List Tree) → Option (List Tree)
put_front front None = None
put_front front (Some rest) = Some (front ++ rest)
