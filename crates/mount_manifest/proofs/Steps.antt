-- What an Ok after several steps says of each of them.
use Rattle.std.proofs.Common.{◌≡◌, ℕ, zero, suc, ◌≤◌, List, [], ◌∷◌, length, Bool, true, false, Option, Some, None, Result, Ok, Err, refl, sym, ◌∙◌, ap, arith}
use Rattle.std.specs.Prelude.{slice_get, nat_lt, ⊤}
use Rattle.std.proofs.lemmas.Bool.Decides.{nat_tests}
use Rattle.mount_manifest.specs.Steps.{◌>>=◌, or_refuse, at_most, each}
use Rattle.mount_manifest.specs.declared.error.Field.{Field}
use Rattle.mount_manifest.specs.declared.error.ManifestError.{ManifestError}

-- each of two steps was Ok
pub both : {A B : Type 0} (r : Result A ManifestError) (f : A → Result B ManifestError) (y : B) → (r >>= f) ≡ Ok y
    → (x : A) × (r ≡ Ok x) × (f x ≡ Ok y)
both (Ok x) f y h = (x, refl, h)
both (Err e) f y h = absurd (cc)

pub was_there : {A : Type 0} (e : ManifestError) (o : Option A) (x : A) → or_refuse e o ≡ Ok x → o ≡ Some x
was_there e None x h = absurd (cc)
was_there e (Some y) x h = let same : y ≡ x = cc in ap (λ z. Some z) same

pub within : (limit : ℕ) (field : Field) (value : ℕ) (u : ⊤) → at_most limit field value ≡ Ok u → value ≤ limit
within limit field value u h = by_cases (nat_lt limit value) refl
  where
    by_cases : (b : Bool) → nat_lt limit value ≡ b → value ≤ limit
    by_cases true e = absurd (let no = rw e at h in cc)
    by_cases false e = grind (arith, nat_tests)

at_place : {A B : Type 0} (step : A → Result B ManifestError) (x : A) (xs : List A) (z : B) (zs ys : List B) → step x ≡ Ok z
    → z ∷ zs ≡ ys
    → ((i : ℕ) (y : B) → slice_get zs i ≡ Some y → (w : A) × (slice_get xs i ≡ Some w) × (step w ≡ Ok y))
    → (i : ℕ) (y : B) → slice_get ys i ≡ Some y → (w : A) × (slice_get (x ∷ xs) i ≡ Some w) × (step w ≡ Ok y)
at_place step x xs z zs [] s e later i y at = absurd (cc)
at_place step x xs z zs (v ∷ vs) s e later zero y at =
    let same : z ≡ y = cc in (x, refl, s ∙ ap (λ u. Ok u) same)
at_place step x xs z zs (v ∷ vs) s e later (suc i) y at =
    let same : zs ≡ vs = cc in later i y (rw same at)

-- what stands at a place came from what stands there in the list that was gone through
pub came_from : {A B : Type 0} (step : A → Result B ManifestError) (xs : List A) (ys : List B) → each step xs ≡ Ok ys
    → (i : ℕ) (y : B) → slice_get ys i ≡ Some y → (x : A) × (slice_get xs i ≡ Some x) × (step x ≡ Ok y)
came_from step [] [] h i y at = absurd (cc)
came_from step [] (z ∷ ys) h i y at = absurd (cc)
came_from step (x ∷ xs) ys h i y at =
    let first = both (step x) _ ys h in
    let rest = both (each step xs) _ ys first.2 in
    let e = rest.2 in
    let whole : first.0 ∷ rest.0 ≡ ys = cc in
    at_place step x xs first.0 rest.0 ys first.1 whole (came_from step xs rest.0 rest.1) i y at

pub length_kept : {A B : Type 0} (step : A → Result B ManifestError) (xs : List A) (ys : List B) → each step xs ≡ Ok ys → length ys ≡ length xs
length_kept step [] [] h = refl
length_kept step [] (y ∷ ys) h = absurd (cc)
length_kept step (x ∷ xs) ys h =
    let first = both (step x) _ ys h in
    let rest = both (each step xs) _ ys first.2 in
    let e = rest.2 in
    let whole : first.0 ∷ rest.0 ≡ ys = cc in
    let same : length rest.0 ≡ length xs = length_kept step xs rest.0 rest.1 in
    rw (sym whole) (ap (λ n. suc n) same)
