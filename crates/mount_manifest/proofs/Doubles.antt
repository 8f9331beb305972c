-- Names that were found not to stand twice differ.
use Rattle.std.proofs.Common.{◌≡◌, ℕ, zero, suc, ◌+◌, ◌<◌, ◌≤◌, List, [], ◌∷◌, ◌++◌, length, Bool, true, false, Some, Ok, refl, sym, ◌∙◌, arith, append_assoc, length-append, ◌⊎◌, inl, inr}
use Rattle.std.specs.Prelude.{slice_get, ⊤}
use Rattle.std.specs.List.{list_any}
use Rattle.std.proofs.lemmas.Bool.{false≢true, cases_lt, or_parts}
use Rattle.mount_manifest.specs.Manifest.{no_doubles}
use Rattle.mount_manifest.specs.Sound.{DiffersBy}

pub front_get : {A : Type 0} (xs ys : List A) (j : ℕ) → j < length xs → slice_get (xs ++ ys) j ≡ slice_get xs j
front_get [] ys j less = absurd (omega arith)
front_get (x ∷ xs) ys zero less = refl
front_get (x ∷ xs) ys (suc j) less = front_get xs ys j (omega arith)

-- what stands before x is not the same as x
apart_before : {A : Type 0} (same : A → A → Bool) (before : List A) (x : A) → list_any (same x) before ≡ false
    → (j : ℕ) (y : A) → slice_get before j ≡ Some y → same x y ≡ false
apart_before same [] x h j y at = absurd (cc)
apart_before same (b ∷ bs) x h zero y at =
    let e : b ≡ y = cc in rw (sym e) (or_parts (same x b) (list_any (same x) bs) h).0
apart_before same (b ∷ bs) x h (suc j) y at =
    apart_before same bs x (or_parts (same x b) (list_any (same x) bs) h).1 j y at

module _ {A : Type 0} (same : A → A → Bool) (name : A → List ℕ) where
  -- what stands in xs is not the same as what stands before it, there or in `before`
  abbrev IsApart : List A → List A → Type 0
  IsApart before xs = (i j : ℕ) (x y : A) → slice_get xs i ≡ Some x → slice_get (before ++ xs) j ≡ Some y → j < length before + i → same x y ≡ false

  apart_next : (before : List A) (z : A) (zs : List A) (found : Bool) (u : ⊤) → list_any (same z) before ≡ found
      → no_doubles same name before (z ∷ zs) ≡ Ok u
      → (no_doubles same name (before ++ z ∷ []) zs ≡ Ok u → IsApart (before ++ z ∷ []) zs)
      → IsApart before (z ∷ zs)
  apart_next before z zs true u e h later i j x y at to less = absurd (let n = rw e at h in cc)
  apart_next before z zs false u e h later zero j x y at to less =
      let is : z ≡ x = cc in
      let there : slice_get before j ≡ Some y = sym (front_get before (z ∷ zs) j (omega arith)) ∙ to in
      rw (sym is) (apart_before same before z e j y there)
  apart_next before z zs false u e h later (suc i) j x y at to less =
      let there : slice_get ((before ++ z ∷ []) ++ zs) j ≡ Some y = rw (append_assoc before (z ∷ []) zs) to in
      let size : length (before ++ z ∷ []) ≡ length before + 1 = length-append before (z ∷ []) in
      later (let n = rw e at h in n) i j x y at there (omega arith)

  pub apart : (before xs : List A) (u : ⊤) → no_doubles same name before xs ≡ Ok u → IsApart before xs
  apart before [] u h i j x y at to less = absurd (cc)
  apart before (z ∷ zs) u h i j x y at to less =
      apart_next before z zs (list_any (same z) before) u refl h (apart (before ++ z ∷ []) zs u) i j x y at to less

  pub differ : (by : A → List ℕ) (xs : List A) (u : ⊤) → no_doubles same name [] xs ≡ Ok u
      → ((x y : A) → by x ≡ by y → same x y ≡ true) → DiffersBy by xs
  differ by xs u h alike i j x y at to eq = by_order (cases_lt i j) (cases_lt j i)
    where
      by_order : (i < j) ⊎ (j ≤ i) → (j < i) ⊎ (i ≤ j) → i ≡ j
      by_order (inl less) _ = absurd (false≢true (sym (apart [] xs u h j i y x to at (omega arith)) ∙ alike y x (sym eq)))
      by_order (inr least) (inl less) = absurd (false≢true (sym (apart [] xs u h i j x y at to (omega arith)) ∙ alike x y eq))
      by_order (inr least) (inr most) = omega arith
