-- Lists joined end to end, all but the last of one size.
use Rattle.std.proofs.Common.{◌≡◌, ℕ, zero, suc, ◌+◌, ◌-◌, ◌*◌, ◌<◌, ◌≤◌, List, [], ◌∷◌, ◌++◌, Some, length, map, take, drop, refl, ap, sym, ◌∙◌, arith, min, length-append}
use Rattle.std.specs.Prelude.{slice_get}
use Rattle.std.specs.List.{concat, flat_map}
use Rattle.std.proofs.Math.Nat.{suc-mul, zero-mul}
use Rattle.std.proofs.lemmas.List.{drop-append-le, take-append-le, drop-drop, drop_at, length-drop}
use Rattle.mount_manifest.specs.Parts.{part_length}

pub flat_map_joined : {X : Type 0} (f : X → List ℕ) (xs : List X) → flat_map f xs ≡ concat (map f xs)
flat_map_joined f [] = refl
flat_map_joined f (x ∷ xs) = ap (λ r. f x ++ r) (flat_map_joined f xs)

-- past the first list
drop_past : {X : Type 0} (q rest : List X) (size m : ℕ) → length q ≡ size → drop (size + m) (q ++ rest) ≡ drop m rest
drop_past q rest size m e = sym (drop-drop m size (q ++ rest)) ∙ ap (λ r. drop m r) (drop_at q rest size e)

above : (j k : ℕ) → j < k → suc j < suc k
above j k h = omega arith

-- a slice within one of the lists
pub joined_part : {X Y : Type 0} (f : X → List Y) (xs : List X) (size k : ℕ) (x : X) (from n : ℕ)
    → slice_get xs k ≡ Some x
    → ((j : ℕ) (z : X) → j < k → slice_get xs j ≡ Some z → length (f z) ≡ size)
    → from + n ≤ length (f x)
    → take n (drop (k * size + from) (flat_map f xs)) ≡ take n (drop from (f x))
joined_part f [] size k x from n at before fits = absurd (cc)
joined_part f (z ∷ zs) size zero x from n at before fits = let none : 0 * size + from ≡ from = omega (arith, zero-mul size) in
    let e : z ≡ x = cc in
    let inside : from ≤ length (f x) = omega arith in
    let room : n ≤ length (drop from (f x)) = rw (length-drop from (f x)) (omega arith) in
    rw (none, e) (ap (λ r. take n r) (drop-append-le from (f x) (flat_map f zs) inside) ∙ take-append-le n (drop from (f x)) (flat_map f zs) room)
joined_part f (z ∷ zs) size (suc k) x from n at before fits =
    let own : length (f z) ≡ size = before 0 z (omega arith) refl in
    let step : (suc k) * size + from ≡ size + (k * size + from) = omega (arith, suc-mul k size) in
    let later : (j : ℕ) (y : _) → j < k → slice_get zs j ≡ Some y → length (f y) ≡ size = λ j y below found. before (suc j) y (above j k below) found in
    rw step (ap (λ r. take n r) (drop_past (f z) (flat_map f zs) size (k * size + from) own)
    ∙ joined_part f zs size k x from n at later fits)

-- the parts of a file from number k on, joined, are as long as what they hold of the file
pub joined_length : (bytes : ℕ → List ℕ) (blobs : List ℕ) (len size k : ℕ)
    → ((i b : ℕ) → slice_get blobs i ≡ Some b → length (bytes b) ≡ part_length len size (k + i))
    → length (concat (map bytes blobs)) ≡ min (length blobs * size) (len - k * size)
joined_length bytes [] len size k sizes = omega (arith, zero-mul size)
joined_length bytes (b ∷ bs) len size k sizes =
    let first : k + 0 ≡ k = omega arith in
    let here = sizes 0 b refl in
    let own = rw first at here in
    let rest = joined_length bytes bs len size (suc k) (λ i c at. let e : suc k + i ≡ k + suc i = omega arith in rw e (sizes (suc i) c at)) in
    rw (length-append (bytes b) (concat (map bytes bs)), own, rest) (omega (arith, suc-mul (length bs) size, suc-mul k size))
