-- The forms of a query, as the code tells them apart.
use Rattle.std.proofs.Common.{◌≡◌, ℕ, List, [], ◌∷◌, ◌++◌, Some, None, Option, refl, ap, sym, ◌∙◌, Bool, true, false, drop, ◌+◌}
use Rattle.std.specs.Prelude.{map, slice_get, codes}
use Rattle.std.specs.Str.{bytes_eq}
use Rattle.std.proofs.lemmas.Slice.Eq.{bytes_eq-Decides}
use Rattle.byte_text.proofs.Lists.{drop_get}
use Rattle.serde_json.specs.View.{view, items_view}
use Rattle.serde_json.specs.declared.value.Value.{Value}
use Rattle.query_lang.specs.declared.query.Query.{Query}
use Rattle.std.proofs.lemmas.List.{append_assoc, map-append}
use Rattle.serde_json.specs.Data.{Data, null, boolean, number, string, array, object, no_members, member}
use Rattle.query_lang.specs.Trees.{Tree, tree_of}
use Rattle.query_lang.specs.Reading.{only, form, form_of_only, put_front, more_trees, forms, named_form}

pub form_is : (d : Data) → form d ≡ form_of_only (only d)
form_is null = refl
form_is (boolean b) = refl
form_is (number n) = refl
form_is (string s) = refl
form_is (array ds) = refl
form_is (object no_members) = refl
form_is (object (member k d no_members)) = refl
form_is (object (member k d (member l e ms))) = refl

pub put_front_twice : (xs ys : List Tree) (o : Option (List Tree)) → put_front xs (put_front ys o) ≡ put_front (xs ++ ys) o
put_front_twice xs ys None = refl
put_front_twice xs ys (Some zs) = ap Some (sym (append_assoc xs ys zs))

pub more_is : (q : Tree) (o : Option (List Tree)) → more_trees (Some q) o ≡ put_front (q ∷ []) o
more_is q None = refl
more_is q (Some qs) = refl

pub not_bytes : (xs ys : List ℕ) → ¬ (xs ≡ ys) → bytes_eq xs ys ≡ false
not_bytes xs ys h = by_cases (bytes_eq xs ys) refl
  where
    by_cases : (b : Bool) → bytes_eq xs ys ≡ b → bytes_eq xs ys ≡ false
    by_cases true e = absurd (h ((bytes_eq-Decides xs ys).0 e))
    by_cases false e = e

pub not_named : (k : List ℕ) (d : Data) (x : Option Tree) → ¬ (k ≡ codes "match_all") → ¬ (k ≡ codes "term") → ¬ (k ≡ codes "bool") → named_form k d x ≡ None
not_named k d x a b c = rw (not_bytes k (codes "match_all") a, not_bytes k (codes "term") b, not_bytes k (codes "bool") c)

pub one_more : (vs : List Value) (i : ℕ) (v : Value) (all : List Query) (q : Query) (wanted : Option (List Tree))
    → slice_get vs i ≡ Some v → form (view v) ≡ Some (tree_of q)
    → put_front (map tree_of all) (forms (items_view (drop i vs))) ≡ wanted
    → put_front (map tree_of (all ++ q ∷ [])) (forms (items_view (drop (i + 1) vs))) ≡ wanted
one_more vs i v all q wanted at is before =
    ap (λ xs. put_front xs (forms (items_view (drop (i + 1) vs)))) (map-append tree_of all (q ∷ []))
    ∙ sym (put_front_twice (map tree_of all) (tree_of q ∷ []) (forms (items_view (drop (i + 1) vs))))
    ∙ ap (put_front (map tree_of all)) (sym (more_is (tree_of q) (forms (items_view (drop (i + 1) vs)))))
    ∙ ap (λ o. put_front (map tree_of all) (more_trees o (forms (items_view (drop (i + 1) vs))))) (sym is)
    ∙ ap (λ xs. put_front (map tree_of all) (forms (items_view xs))) (sym (drop_get vs i v at))
    ∙ before
