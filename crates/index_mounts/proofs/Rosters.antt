-- The mounts of a roster, as a map and as the list that clauses see.
use Rattle.std.proofs.Common.{◌≡◌, ◌∙◌, refl, sym, ap, ℕ, List, [], ◌∷◌, map, Bool, true, false, cond}
use Rattle.std.specs.Prelude.{Option, Some, None, option_map}
use Rattle.std.specs.Borrow.{Bor}
use Rattle.std.specs.Str.{bytes_eq}
use Rattle.std.specs.Ordering.{nat_cmp, match_ordering}
use Rattle.std.specs.Cmp.Lexicographic.{slice_cmp, texts_ties}
use Rattle.std.specs.declared.cmp.Ordering.{Ordering}
use Rattle.std.specs.declared.cmp.Ordering.TheVariants.{Less, Equal, Greater}
use Rattle.std.specs.Map.{lookup, remove_entry, keys_of}
use Rattle.std.specs.Option.{option_copied}
use Rattle.std.specs.BTreeMap.{insert_entry, is_at}
use Rattle.std.proofs.lemmas.Map.Made.{lookup-map_values}

-- a name is that of an entry where the order says that they are equal
pub same_test : (name : List ℕ) → is_at (slice_cmp nat_cmp name) ≡ bytes_eq name
same_test name = λ i other. sym (texts_ties name other) i

module _ {X Y : Type 0} (view : X → Y) where
  abbrev pub seen : List (List ℕ × X) → List (List ℕ × Y)
  seen es = map (λ e. (e.0, view e.1)) es

  pub lookup_seen : (name : List ℕ) (es : List (List ℕ × X)) → lookup (bytes_eq name) (seen es) ≡ option_map view (lookup (is_at (slice_cmp nat_cmp name)) es)
  lookup_seen name es = lookup-map_values view (bytes_eq name) es ∙ ap (λ test. option_map view (lookup test es)) (sym (same_test name))

  insert_by : (k : List ℕ) (v : X) (e : List ℕ × X) (es : List (List ℕ × X)) (order : Ordering) → seen (insert_entry (slice_cmp nat_cmp) es k v) ≡ insert_entry (slice_cmp nat_cmp) (seen es) k (view v)
      → seen (match_ordering order ((k, v) ∷ e ∷ es) ((e.0, v) ∷ es) (e ∷ insert_entry (slice_cmp nat_cmp) es k v)) ≡ match_ordering order ((k, view v) ∷ (e.0, view e.1) ∷ seen es) ((e.0, view v) ∷ seen es) ((e.0, view e.1) ∷ insert_entry (slice_cmp nat_cmp) (seen es) k (view v))
  insert_by k v e es Less h = refl
  insert_by k v e es Equal h = refl
  insert_by k v e es Greater h = ap (λ xs. (e.0, view e.1) ∷ xs) h

  pub insert_seen : (es : List (List ℕ × X)) (k : List ℕ) (v : X) → seen (insert_entry (slice_cmp nat_cmp) es k v) ≡ insert_entry (slice_cmp nat_cmp) (seen es) k (view v)
  insert_seen [] k v = refl
  insert_seen (e ∷ es) k v = insert_by k v e es (slice_cmp nat_cmp k e.0) (insert_seen es k v)

  remove_by : (e : List ℕ × X) (es rest : List (List ℕ × X)) (ys : List (List ℕ × Y)) (found : Bool) → seen rest ≡ ys → seen (cond found es (e ∷ rest)) ≡ cond found (seen es) ((e.0, view e.1) ∷ ys)
  remove_by e es rest ys true h = refl
  remove_by e es rest ys false h = ap (λ xs. (e.0, view e.1) ∷ xs) h

  remove_in : (test : List ℕ → Bool) (es : List (List ℕ × X)) → seen (remove_entry test es) ≡ remove_entry test (seen es)
  remove_in test [] = refl
  remove_in test (e ∷ es) = remove_by e es (remove_entry test es) (remove_entry test (seen es)) (test e.0) (remove_in test es)

  pub remove_seen : (name : List ℕ) (es : List (List ℕ × X)) → seen (remove_entry (is_at (slice_cmp nat_cmp name)) es) ≡ remove_entry (bytes_eq name) (seen es)
  remove_seen name es = remove_in (is_at (slice_cmp nat_cmp name)) es ∙ ap (λ test. remove_entry test (seen es)) (same_test name)

  pub keys_seen : (es : List (List ℕ × X)) → keys_of (seen es) ≡ keys_of es
  keys_seen [] = refl
  keys_seen (e ∷ es) = ap (λ ks. e.0 ∷ ks) (keys_seen es)

  pub seen_copied : (o : Option (Bor X)) → option_map (λ m. view m.now) o ≡ option_map view (option_copied o)
  seen_copied None = refl
  seen_copied (Some m) = refl

  map_cond : (b : Bool) (w v : Option X) → option_map view (cond b w v) ≡ cond b (option_map view w) (option_map view v)
  map_cond true w v = refl
  map_cond false w v = refl

  -- a look-up after a change of the map at one name
  pub update_seen : (name other : List ℕ) (es now : List (List ℕ × X)) (w : Option X)
      → lookup (is_at (slice_cmp nat_cmp other)) now ≡ cond (is_at (slice_cmp nat_cmp name) other) w (lookup (is_at (slice_cmp nat_cmp other)) es)
      → lookup (bytes_eq other) (seen now) ≡ cond (bytes_eq name other) (option_map view w) (lookup (bytes_eq other) (seen es))
  update_seen name other es now w h =
      lookup_seen other now ∙ ap (option_map view) h ∙ map_cond (is_at (slice_cmp nat_cmp name) other) w (lookup (is_at (slice_cmp nat_cmp other)) es)
      ∙ ap (λ test. cond (test other) (option_map view w) (option_map view (lookup (is_at (slice_cmp nat_cmp other)) es))) (same_test name)
      ∙ ap (λ found. cond (bytes_eq name other) (option_map view w) found) (sym (lookup_seen other es))
