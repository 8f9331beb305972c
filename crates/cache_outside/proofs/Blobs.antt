-- A blob of a list, by its place, and the numbers that a search gives.
use Rattle.std.proofs.Common.{◌≡◌, ◌<◌, ◌+◌, ℕ, zero, suc, List, [], ◌∷◌, Bool, true, false, Some, ap, length, arith, refl}
use Rattle.std.specs.Prelude.{slice_get}
use Rattle.std.specs.List.{position_from}
use Rattle.cache_outside.specs.Listing.{Listing, blob_bytes, is_named, manifests, manifest_number}

pub blob_bytes_get : (bs : Listing) (k : ℕ) (b : List ℕ × List ℕ) → slice_get bs k ≡ Some b → blob_bytes bs k ≡ b.1
blob_bytes_get [] k b h = absurd (cc)
blob_bytes_get (x ∷ bs) zero b h = let e : x ≡ b = cc in ap (λ y. y.1) e
blob_bytes_get (x ∷ bs) (suc k) b h = blob_bytes_get bs k b h

-- what is found at the head, or further on
found_below : {X : Type 0} (test : X → Bool) (n : ℕ) (x : X) (xs : List X) (k : ℕ) (passes : Bool)
    → test x ≡ passes → position_from test n (x ∷ xs) ≡ Some k
    → (position_from test (n + 1) xs ≡ Some k → k < n + 1 + length xs) → k < n + length (x ∷ xs)
found_below test n x xs k true e h rest = let here = rw e at h in let same : n ≡ k = cc in omega (arith, same)
found_below test n x xs k false e h rest = let later = rw e at h in let below = rest later in omega (arith, below)

position_below : {X : Type 0} (test : X → Bool) (n : ℕ) (xs : List X) (k : ℕ) → position_from test n xs ≡ Some k → k < n + length xs
position_below test n [] k h = absurd (cc)
position_below test n (x ∷ xs) k h = found_below test n x xs k (test x) refl h (λ later. position_below test (n + 1) xs k later)

-- a manifest's number is below the count of manifests
pub number_below : (name : List ℕ) (blobs : Listing) (k : ℕ) → manifest_number name blobs ≡ Some k → k < length (manifests blobs)
number_below name blobs k h = let below = position_below (is_named name) 0 (manifests blobs) k h in omega (arith, below)
