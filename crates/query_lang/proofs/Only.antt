-- The member of an object of one member.
use Rattle.std.proofs.Common.{◌≡◌, ℕ, List, [], ◌∷◌, Some, None, Option, refl, ap, length, arith, zero, suc}
use Rattle.std.proofs.Math.Nat.{le-max_left, le-max_right}
use Rattle.std.specs.Prelude.{slice_get, String, string_bytes, option_map, ◌≤◌}
use Rattle.std.specs.Option.{option_map_or}
use Rattle.std.specs.declared.alloc.Global.{Global}
use Rattle.serde_json.specs.Data.{Data, null, boolean, number, string, array, object, Members, depth, items_depth}
use Rattle.serde_json.specs.Find.{as_object}
use Rattle.serde_json.specs.View.{view, members_view, items_view}
use Rattle.serde_json.specs.declared.value.Value.{Value}
use Rattle.query_lang.specs.Reading.{only, empty_form}
use Rattle.query_lang.specs.Trees.{Tree, match_all}

abbrev pub only_in : Option Members → Option (List ℕ × Data)
only_in None = None
only_in (Some ms) = only (object ms)

pub only_is : (d : Data) → only d ≡ only_in (as_object d)
only_is null = refl
only_is (boolean b) = refl
only_is (number n) = refl
only_is (string s) = refl
only_is (array ds) = refl
only_is (object ms) = refl

pub not_one : (es : List (String Global × Value)) → ¬ (length es ≡ 1) → only_in (Some (members_view es)) ≡ None
not_one [] h = refl
not_one (e ∷ []) h = absurd (h refl)
not_one (e ∷ f ∷ es) h = refl

pub one : (es : List (String Global × Value)) (k : String Global) (v : Value) → length es ≡ 1 → slice_get es 0 ≡ Some (k, v) → only_in (Some (members_view es)) ≡ Some (string_bytes k, view v)
one [] k v n g = Prim.grind arith
one (e ∷ []) k v n g = ap (λ (o : Option (String Global × Value)). option_map (λ p. (string_bytes p.0, view p.1)) o) g
one (e ∷ f ∷ es) k v n g = Prim.grind arith

abbrev pub empty_in : Option Members → Option Tree
empty_in None = None
empty_in (Some ms) = empty_form (object ms)

pub empty_is : (d : Data) → empty_form d ≡ empty_in (as_object d)
empty_is null = refl
empty_is (boolean b) = refl
empty_is (number n) = refl
empty_is (string s) = refl
empty_is (array ds) = refl
empty_is (object ms) = refl

pub no_entries : (es : List (String Global × Value)) → length es ≡ 0 → empty_in (Some (members_view es)) ≡ Some match_all
no_entries [] n = refl
no_entries (e ∷ es) n = Prim.grind arith

pub some_entries : (es : List (String Global × Value)) → ¬ (length es ≡ 0) → empty_in (Some (members_view es)) ≡ None
some_entries [] n = absurd (n refl)
some_entries (e ∷ es) n = refl

pub depth_below : (vs : List Value) (i : ℕ) (v : Value) → slice_get vs i ≡ Some v → depth (view v) ≤ items_depth (items_view vs)
depth_below [] i v g = Prim.grind arith
depth_below (w ∷ vs) zero v g = omega (arith, le-max_left (depth (view w)) (items_depth (items_view vs)), ap (λ (o : Option Value). option_map_or (λ u. depth (view u)) o 0) g)
depth_below (w ∷ vs) (suc i) v g = omega (arith, le-max_right (depth (view w)) (items_depth (items_view vs)), depth_below vs i v g)
