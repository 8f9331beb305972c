-- What was taken, read by read.
use Rattle.std.proofs.Common.{◌≡◌, ℕ, zero, suc, ◌+◌, ◌-◌, ◌≤◌, List, [], ◌∷◌, ◌++◌, Option, map, take, drop, refl, ap, sym, ◌∙◌, arith}
use Rattle.std.specs.List.{range_with_len}
use Rattle.std.proofs.lemmas.List.{drop-drop, map-append}
use Rattle.std.proofs.lemmas.List.FromFn.{take-map-range_with_len}
use Rattle.std.proofs.Math.Seq.{take-add}
use Rattle.blob_parts.specs.Content.{places, place_in, slice_of}
use Rattle.blob_parts.specs.Takes.{Took}
use Rattle.blob_parts.specs.Reading.{took_none, took_both}

-- numbers in order, but the first of them
range_rest : (a n k : ℕ) → k ≤ n → drop k (range_with_len a n) ≡ range_with_len (a + k) (n - k)
range_rest a n zero h = let e : a + 0 ≡ a = omega arith in let f : n - 0 ≡ n = omega arith in rw (e, f) refl
range_rest a zero (suc k) h = absurd (omega arith)
range_rest a (suc n) (suc k) h =
    let e : a + suc k ≡ a + 1 + k = omega arith in
    let f : suc n - suc k ≡ n - k = omega arith in
    rw (e, f) (range_rest (a + 1) n k (omega arith))

map_drop : {X Y : Type 0} (f : X → Y) (k : ℕ) (xs : List X) → drop k (map f xs) ≡ map f (drop k xs)
map_drop f zero xs = refl
map_drop f (suc k) [] = refl
map_drop f (suc k) (x ∷ xs) = map_drop f k xs

-- a slice of the places of a blob
pub places_slice : (blob size from n : ℕ) → from + n ≤ size → slice_of (places blob 0 size) from n ≡ places blob from n
places_slice blob size from n fits =
    let rest = range_rest 0 size from (omega arith) in
    let e : 0 + from ≡ from = omega arith in
    let numbers = rw e at rest in
    ap (λ r. take n r) (map_drop (place_in blob) from (range_with_len 0 size) ∙ ap (λ r. map (place_in blob) r) numbers)
    ∙ take-map-range_with_len (place_in blob) from (size - from) n (omega arith)

-- the next places behind the first ones
pub slice_more : {X : Type 0} (xs : List X) (at done n : ℕ) → slice_of xs at done ++ slice_of xs (at + done) n ≡ slice_of xs at (done + n)
slice_more xs at done n = ap (λ r. slice_of xs at done ++ take n r) (sym (drop-drop done at xs)) ∙ sym (take-add done n (drop at xs))

-- a call that took nothing took a front of what it would ask
pub took_nothing : (t u : Option (List (ℕ × ℕ × ℕ))) (asked : List (ℕ × ℕ)) → u ≡ t → (n : ℕ) × Took t u (take n asked)
took_nothing t u asked same = rw same (0, took_none t asked)

-- the first places of a blob's range
pub places_front : (blob at n len : ℕ) → n ≤ len → take n (places blob at len) ≡ places blob at n
places_front blob at n len fits = take-map-range_with_len (place_in blob) at len n fits

-- a refusal after some reads, which took nothing more
pub took_front : (t u v : Option (List (ℕ × ℕ × ℕ))) (asked first : List (ℕ × ℕ)) (n : ℕ) → v ≡ u → take n asked ≡ first → Took t u first → (m : ℕ) × Took t v (take m asked)
took_front t u v asked first n same front took = rw same (n, rw front took)

range_more : (a m n : ℕ) → range_with_len a m ++ range_with_len (a + m) n ≡ range_with_len a (m + n)
range_more a zero n = let e : a + 0 ≡ a = omega arith in let f : 0 + n ≡ n = omega arith in rw (e, f) refl
range_more a (suc m) n =
    let e : a + suc m ≡ a + 1 + m = omega arith in
    let f : suc m + n ≡ suc (m + n) = omega arith in
    rw (e, f) (ap (λ r. a ∷ r) (range_more (a + 1) m n))

places_more : (blob m n : ℕ) → places blob 0 m ++ places blob m n ≡ places blob 0 (m + n)
places_more blob m n =
    let e : 0 + m ≡ m = omega arith in
    sym (map-append (place_in blob) (range_with_len 0 m) (range_with_len m n))
    ∙ ap (λ r. map (place_in blob) r) (ap (λ k. range_with_len 0 m ++ range_with_len k n) (sym e) ∙ range_more 0 m n)

-- one read more, of a blob from its begin on
pub took_more : (t u v : Option (List (ℕ × ℕ × ℕ))) (blob m n : ℕ) → Took t u (places blob 0 m) → Took u v (places blob m n) → Took t v (places blob 0 (m + n))
took_more t u v blob m n a b = let both = took_both t u v (places blob 0 m) (places blob m n) a b in rw (sym (places_more blob m n)) both

-- one read more, of a slice of places
pub took_slice : (t u v : Option (List (ℕ × ℕ × ℕ))) (xs : List (ℕ × ℕ)) (at m n : ℕ)
    → Took t u (slice_of xs at m) → Took u v (slice_of xs (at + m) n) → Took t v (slice_of xs at (m + n))
took_slice t u v xs at m n a b = let both = took_both t u v (slice_of xs at m) (slice_of xs (at + m) n) a b in rw (sym (slice_more xs at m n)) both
