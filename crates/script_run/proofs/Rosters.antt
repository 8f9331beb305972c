-- Look-ups in a roster after a mount, and after an unmount.
use Rattle.std.proofs.Common.{◌≡◌, ◌∙◌, refl, sym, ap, subst, ℕ, List, [], ◌∷◌, Bool, true, false, cond}
use Rattle.std.specs.Prelude.{Option, Some, None}
use Rattle.std.specs.Str.{bytes_eq}
use Rattle.std.specs.Ordering.{nat_cmp, is_eq, match_ordering}
use Rattle.std.specs.declared.cmp.Ordering.{Ordering}
use Rattle.std.specs.declared.cmp.Ordering.TheVariants.{Less, Equal, Greater}
use Rattle.std.specs.Cmp.Lexicographic.{slice_cmp, texts_ties}
use Rattle.std.specs.List.{IsDistinct}
use Rattle.std.specs.List.Sorted.{IsStrictlySortedBy}
use Rattle.std.specs.Map.{lookup, keys_of}
use Rattle.std.specs.BTreeMap.{insert_entry}
use Rattle.std.proofs.lemmas.Cmp.{nat_list_eq_equiv}
use Rattle.std.proofs.lemmas.Map.{lookup-remove_entry}
use Rattle.std.proofs.lemmas.Map.Keys.{IsDistinct-from_sorted}
use Rattle.mount_manifest.specs.Manifest.{Facts}
use Rattle.blob_parts.specs.Tables.{TableParts}
use Rattle.index_mounts.specs.Rosters.{RosterView, mounted, with_mount, without}
use Rattle.simpletext_postings.proofs.Rising.{same_bytes}

pub names_same : (name : List ℕ) → bytes_eq name name ≡ true
names_same name = nat_list_eq_equiv.refl name

pub names_turn : (name other : List ℕ) → bytes_eq name other ≡ bytes_eq other name
names_turn name other = nat_list_eq_equiv.symm name other

-- ---- an unmount

distinct : {X : Type 0} (es : List (List ℕ × X)) → IsStrictlySortedBy (slice_cmp nat_cmp) (keys_of es) → IsDistinct bytes_eq (keys_of es)
distinct es h =
    let by_order = IsDistinct-from_sorted (slice_cmp nat_cmp) (keys_of es) h in
    subst (λ (e : List ℕ → List ℕ → Bool). IsDistinct e (keys_of es)) (λ i x y. sym (texts_ties x y) i) by_order

pub mounted_without : (name other : List ℕ) (r : RosterView) → IsStrictlySortedBy (slice_cmp nat_cmp) (keys_of r.mounts)
    → mounted other (without name r) ≡ cond (bytes_eq name other) None (mounted other r)
mounted_without name other r h =
    lookup-remove_entry nat_list_eq_equiv (bytes_eq name) (λ x y e. nat_list_eq_equiv.congr name x y e) other r.mounts (distinct r.mounts h)

-- ---- a mount

module _ {X : Type 0} (k : List ℕ) (v : X) (other : List ℕ) where
  here : (o : Option X) → cond (bytes_eq other k) (Some v) o ≡ cond (bytes_eq k other) (Some v) o
  here o = ap (λ (t : Bool). cond t (Some v) o) (names_turn other k)

  -- at an equal key
  same : (j : List ℕ) (w : X) (o : Option X) (b : Bool) → bytes_eq k j ≡ true → bytes_eq k other ≡ b
      → cond (bytes_eq other j) (Some v) o ≡ cond (bytes_eq k other) (Some v) (cond (bytes_eq other j) (Some w) o)
  same j w o true e f = let g = subst (λ (n : List ℕ). bytes_eq n other ≡ true) (same_bytes k j e) f in rw (f, names_turn other j, g)
  same j w o false e f = let g = subst (λ (n : List ℕ). bytes_eq n other ≡ false) (same_bytes k j e) f in rw (f, names_turn other j, g)

  -- behind another key
  apart : (j : List ℕ) (w : X) (o : Option X) (b c : Bool) → bytes_eq k j ≡ false → bytes_eq k other ≡ b → bytes_eq other j ≡ c
      → cond c (Some w) (cond b (Some v) o) ≡ cond b (Some v) (cond c (Some w) o)
  apart j w o true true e f g = let h = subst (λ (n : List ℕ). bytes_eq n j ≡ true) (sym (same_bytes k other f)) g in absurd (cc)
  apart j w o true false e f g = refl
  apart j w o false true e f g = refl
  apart j w o false false e f g = refl

  by_order : (e : List ℕ × X) (es : List (List ℕ × X)) (order : Ordering) → slice_cmp nat_cmp k e.0 ≡ order
      → lookup (bytes_eq other) (insert_entry (slice_cmp nat_cmp) es k v) ≡ cond (bytes_eq k other) (Some v) (lookup (bytes_eq other) es)
      → lookup (bytes_eq other) (match_ordering order ((k, v) ∷ e ∷ es) ((e.0, v) ∷ es) (e ∷ insert_entry (slice_cmp nat_cmp) es k v)) ≡ cond (bytes_eq k other) (Some v) (lookup (bytes_eq other) (e ∷ es))
  by_order e es Less o h = here (lookup (bytes_eq other) (e ∷ es))
  by_order e es Equal o h = same e.0 e.1 (lookup (bytes_eq other) es) (bytes_eq k other) (texts_ties k e.0 ∙ ap is_eq o) refl
  by_order e es Greater o h =
      ap (λ (t : Option X). cond (bytes_eq other e.0) (Some e.1) t) h
      ∙ apart e.0 e.1 (lookup (bytes_eq other) es) (bytes_eq k other) (bytes_eq other e.0) (texts_ties k e.0 ∙ ap is_eq o) refl refl

  pub lookup_with : (es : List (List ℕ × X)) → lookup (bytes_eq other) (insert_entry (slice_cmp nat_cmp) es k v) ≡ cond (bytes_eq k other) (Some v) (lookup (bytes_eq other) es)
  lookup_with [] = here None
  lookup_with (e ∷ es) = by_order e es (slice_cmp nat_cmp k e.0) refl (lookup_with es)

pub mounted_with : (name : List ℕ) (number : ℕ) (facts : Facts) (parts : TableParts) (r : RosterView) (other : List ℕ)
    → mounted other (with_mount name number facts parts r) ≡ cond (bytes_eq name other) (Some (record { mount = r.made; number = number; facts = facts; parts = parts })) (mounted other r)
mounted_with name number facts parts r other = lookup_with name (record { mount = r.made; number = number; facts = facts; parts = parts }) other r.mounts
