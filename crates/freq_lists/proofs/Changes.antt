-- Changes at one place of a list.
use Rattle.std.proofs.Common.{arith, ◌≡◌, ◌<◌, ℕ, zero, suc, List, [], ◌∷◌, ap, refl, length, get_or, set, Some}
use Rattle.std.specs.Prelude.{slice_get}
use Rattle.freq_lists.specs.Links.{change}

module _ {X : Type 0} (f : X → X) where
  pub length-change : (i : ℕ) (xs : List X) → length (change i f xs) ≡ length xs
  length-change i [] = refl
  length-change zero (x ∷ xs) = refl
  length-change (suc i) (x ∷ xs) = ap suc (length-change i xs)

  pub changed : (i : ℕ) (x : X) (xs : List X) → slice_get xs i ≡ Some x → slice_get (change i f xs) i ≡ Some (f x)
  changed i x [] h = cc
  changed zero x (y ∷ ys) h = let e : y ≡ x = cc in ap (λ (z : X). Some (f z)) e
  changed (suc i) x (y ∷ ys) h = changed i x ys h

  pub unchanged : (i j : ℕ) (xs : List X) → ¬ (i ≡ j) → slice_get (change i f xs) j ≡ slice_get xs j
  unchanged i j [] d = refl
  unchanged zero zero (x ∷ xs) d = absurd (d refl)
  unchanged zero (suc j) (x ∷ xs) d = refl
  unchanged (suc i) zero (x ∷ xs) d = refl
  unchanged (suc i) (suc j) (x ∷ xs) d = unchanged i j xs (λ e. d (ap suc e))

  pub change_is : (i : ℕ) (x : X) (xs : List X) → i < length xs → x ≡ get_or xs i x → set xs i (f x) ≡ change i f xs
  change_is i x [] h e = absurd (omega arith)
  change_is zero x (y ∷ ys) h e = ap (λ (z : X). f z ∷ ys) e
  change_is (suc i) x (y ∷ ys) h e = ap (λ (zs : List X). y ∷ zs) (change_is i x ys (omega arith) e)

module _ {X : Type 0} where
  pub put : (i : ℕ) (x : X) (xs : List X) → i < length xs → slice_get (set xs i x) i ≡ Some x
  put i x [] h = absurd (omega arith)
  put zero x (y ∷ ys) h = refl
  put (suc i) x (y ∷ ys) h = put i x ys (omega arith)

  pub put_other : (i j : ℕ) (x : X) (xs : List X) → ¬ (i ≡ j) → slice_get (set xs i x) j ≡ slice_get xs j
  put_other i j x [] d = refl
  put_other zero zero x (y ∷ ys) d = absurd (d refl)
  put_other zero (suc j) x (y ∷ ys) d = refl
  put_other (suc i) zero x (y ∷ ys) d = refl
  put_other (suc i) (suc j) x (y ∷ ys) d = put_other i j x ys (λ e. d (ap suc e))
