-- A slice of a slice.
use Rattle.std.proofs.Common.{◌≡◌, ℕ, zero, suc, ◌≤◌, ◌+◌, ◌-◌, ◌∙◌, ap, arith, sym, refl, List, [], ◌∷◌, take, drop}
use Rattle.std.proofs.lemmas.List.{drop-take}
use Rattle.std.proofs.Math.Seq.{drop-nil}
use Rattle.directory_input.specs.Reads.{slice_of}

pub zero_add : (b : ℕ) → 0 + b ≡ b
zero_add b = omega arith

pub drop_drop : (a b : ℕ) (xs : List ℕ) → drop b (drop a xs) ≡ drop (a + b) xs
drop_drop zero b xs = rw (zero_add b) refl
drop_drop (suc a) b [] = rw (drop-nil b) (sym (drop-nil (suc a + b)))
drop_drop (suc a) b (x ∷ xs) = let e : suc a + b ≡ suc (a + b) = omega arith in rw e (drop_drop a b xs)

pub take_take : (n m : ℕ) (xs : List ℕ) → n ≤ m → take n (take m xs) ≡ take n xs
take_take zero m xs h = refl
take_take (suc n) zero xs h = absurd (omega (arith, h))
take_take (suc n) (suc m) [] h = refl
take_take (suc n) (suc m) (x ∷ xs) h = ap (λ r. x ∷ r) (take_take n m xs (omega (arith, h)))

-- a slice of a window is the slice of the whole that lies so much further on
pub slice_of_window : (start size at n : ℕ) (xs : List ℕ) → at + n ≤ size → slice_of at n (slice_of start size xs) ≡ slice_of (start + at) n xs
slice_of_window start size at n xs h =
    let e : at + (size - at) ≡ size = omega (arith, h) in
    ap (λ k. take n (drop at (take k (drop start xs)))) (sym e)
    ∙ ap (take n) (drop-take at (size - at) (drop start xs))
    ∙ take_take n (size - at) (drop at (drop start xs)) (omega (arith, h))
    ∙ ap (take n) (drop_drop start at xs)
