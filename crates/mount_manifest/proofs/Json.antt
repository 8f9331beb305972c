-- The items of a JSON array as a list, and the value of bytes.
use Rattle.std.proofs.Common.{◌≡◌, ℕ, List, [], ◌∷◌, Some, None, refl, ap, true, false, Bool, sym}
use Rattle.std.specs.Prelude.{IsUtf8, map}
use Rattle.std.specs.Str.{is_utf8}
use Rattle.std.proofs.lemmas.Str.{IsUtf8-from_is_utf8, is_utf8-from_IsUtf8}
use Rattle.serde_json.specs.Data.{Data, Items}
use Rattle.serde_json.specs.Find.{get, as_array}
use Rattle.serde_json.specs.Read.{read}
use Rattle.serde_json.specs.View.{view, items_of, items_view}
use Rattle.serde_json.specs.declared.value.Value.{Value}
use Rattle.mount_manifest.specs.Json.{list_of, list_at, json_of}

pub list_of-items_of : (ds : List Data) → list_of (items_of ds) ≡ ds
list_of-items_of [] = refl
list_of-items_of (d ∷ ds) = ap (λ r. d ∷ r) (list_of-items_of ds)

pub list_of-items_view : (vs : List Value) → list_of (items_view vs) ≡ map view vs
list_of-items_view vs = list_of-items_of (map view vs)

pub json_of-Some : (bytes : List ℕ) (d : Data) → IsUtf8 bytes → read bytes ≡ Some d → json_of bytes ≡ Some d
json_of-Some bytes d text h = rw (is_utf8-from_IsUtf8 bytes text) h

pub json_of-None : (bytes : List ℕ) → (IsUtf8 bytes → read bytes ≡ None) → json_of bytes ≡ None
json_of-None bytes h = by_cases (is_utf8 bytes) refl
  where
    by_cases : (b : Bool) → is_utf8 bytes ≡ b → json_of bytes ≡ None
    by_cases true e = rw e (h (IsUtf8-from_is_utf8 bytes e))
    by_cases false e = rw e

pub found_list : (key : List ℕ) (d e : Data) (items : Items) → Some e ≡ get key d → Some items ≡ as_array e → list_at key d ≡ Some (list_of items)
found_list key d e items g a = let f = sym g in let b = sym a in rw (f, b)
