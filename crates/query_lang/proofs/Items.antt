-- Items behind items.
use Rattle.std.proofs.Common.{◌≡◌, ℕ, List, [], ◌∷◌, ◌++◌, ◌+◌, ◌<◌, Some, refl, ap, sym, ◌∙◌, length, Bool, true, false, drop, get_or}
use Rattle.std.specs.Prelude.{map, IsTrue, IsUtf8, ◌&&◌}
use Rattle.std.specs.Str.{is_utf8}
use Rattle.std.proofs.lemmas.Bool.{false≢true}
use Rattle.std.proofs.lemmas.Str.{IsUtf8-from_is_utf8}
use Rattle.std.proofs.lemmas.Option.{slice_get-get_or}
use Rattle.byte_text.proofs.Lists.{drop_get}
use Rattle.serde_json.specs.Data.{array, Items, no_items, item, Members, put}
use Rattle.serde_json.specs.View.{view, items_view}
use Rattle.serde_json.specs.declared.value.Value.{Value}
use Rattle.query_lang.specs.declared.query.Query.{Query}
use Rattle.query_lang.specs.Trees.{Tree, Trees, tree_of, trees_of, is_text, are_text}
use Rattle.query_lang.specs.Printing.{data_of, datas_of, items_then, put_list}

pub is_valid : (bytes : List ℕ) → IsTrue (is_utf8 bytes) → IsUtf8 bytes
is_valid bytes h = IsUtf8-from_is_utf8 bytes h

pub put_some : (k : List ℕ) (vs : List Value) (ms : Members) → ¬ (length vs ≡ 0) → put_list k (items_view vs) ms ≡ put k (array (items_view vs)) ms
put_some k [] ms h = absurd (h refl)
put_some k (v ∷ vs) ms h = refl

pub nothing_then : (vs : List Value) → items_then (items_view vs) no_items ≡ items_view vs
nothing_then [] = refl
nothing_then (v ∷ vs) = ap (item (view v)) (nothing_then vs)

pub push_then : (vs : List Value) (v : Value) (more : Items) → items_then (items_view (vs ++ v ∷ [])) more ≡ items_then (items_view vs) (item (view v) more)
push_then [] v more = refl
push_then (w ∷ vs) v more = ap (item (view w)) (push_then vs v more)

pub rest_is_text : (q : Tree) (qs : Trees) → IsTrue (is_text q && are_text qs) → IsTrue (are_text qs)
rest_is_text q qs h = by_cases (is_text q) refl
  where
    by_cases : (b : Bool) → is_text q ≡ b → IsTrue (are_text qs)
    by_cases true e = rw e at h
    by_cases false e = let f : false ≡ true = rw e at h in absurd (false≢true f)

pub one_printed : (queries : List Query) (i : ℕ) (q : Query) (vs : List Value) (v : Value) (whole : Items) → i < length queries → q ≡ get_or queries i q → view v ≡ data_of (tree_of q)
    → IsTrue (are_text (trees_of (map tree_of (drop i queries)))) × (items_then (items_view vs) (datas_of (trees_of (map tree_of (drop i queries)))) ≡ whole)
    → IsTrue (are_text (trees_of (map tree_of (drop (i + 1) queries)))) × (items_then (items_view (vs ++ v ∷ [])) (datas_of (trees_of (map tree_of (drop (i + 1) queries)))) ≡ whole)
one_printed queries i q vs v whole within at is h =
    let rest = drop_get queries i q (slice_get-get_or queries i q within ∙ ap Some (sym at)) in (
      rest_is_text (tree_of q) (trees_of (map tree_of (drop (i + 1) queries))) (rw rest at h.0),
      push_then vs v (datas_of (trees_of (map tree_of (drop (i + 1) queries))))
          ∙ ap (λ d. items_then (items_view vs) (item d (datas_of (trees_of (map tree_of (drop (i + 1) queries)))))) is
          ∙ ap (λ qs. items_then (items_view vs) (datas_of (trees_of (map tree_of qs)))) (sym rest)
          ∙ h.1,
    )
