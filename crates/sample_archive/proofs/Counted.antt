-- One more counted byte.
use Rattle.std.proofs.Common.{◌≡◌, ℕ, ◌+◌, List, [], ◌∷◌, ◌++◌, arith, refl}
use Rattle.cache_outside.specs.Listing.{Listing}
use Rattle.std.specs.Prelude.{◌%◌}
use Rattle.std.proofs.lemmas.List.FromFn.{map-range_with_len_more}
use Rattle.sample_archive.specs.Sample.{counting}

pub counting_push : (n : ℕ) → counting (n + 1) ≡ counting n ++ (n % 251) ∷ []
counting_push n = map-range_with_len_more (λ i. i % 251) 0 n n (omega arith)

-- ten blobs, put one behind the other
pub ten_added : (n1 n2 n3 n4 n5 n6 n7 n8 n9 n10 b1 b2 b3 b4 b5 b6 b7 b8 b9 b10 c1 c2 c3 c4 c5 c6 c7 c8 c9 c10 : List ℕ) (r0 r1 r2 r3 r4 r5 r6 r7 r8 r9 r10 : Listing)
    → b1 ≡ c1 → b2 ≡ c2 → b3 ≡ c3 → b4 ≡ c4 → b5 ≡ c5 → b6 ≡ c6 → b7 ≡ c7 → b8 ≡ c8 → b9 ≡ c9 → b10 ≡ c10
    → r0 ≡ [] → r1 ≡ r0 ++ (n1, b1) ∷ [] → r2 ≡ r1 ++ (n2, b2) ∷ [] → r3 ≡ r2 ++ (n3, b3) ∷ [] → r4 ≡ r3 ++ (n4, b4) ∷ [] → r5 ≡ r4 ++ (n5, b5) ∷ [] → r6 ≡ r5 ++ (n6, b6) ∷ [] → r7 ≡ r6 ++ (n7, b7) ∷ [] → r8 ≡ r7 ++ (n8, b8) ∷ [] → r9 ≡ r8 ++ (n9, b9) ∷ [] → r10 ≡ r9 ++ (n10, b10) ∷ []
    → r10 ≡ (n1, c1) ∷ (n2, c2) ∷ (n3, c3) ∷ (n4, c4) ∷ (n5, c5) ∷ (n6, c6) ∷ (n7, c7) ∷ (n8, c8) ∷ (n9, c9) ∷ (n10, c10) ∷ []
ten_added n1 n2 n3 n4 n5 n6 n7 n8 n9 n10 b1 b2 b3 b4 b5 b6 b7 b8 b9 b10 c1 c2 c3 c4 c5 c6 c7 c8 c9 c10 r0 r1 r2 r3 r4 r5 r6 r7 r8 r9 r10 e1 e2 e3 e4 e5 e6 e7 e8 e9 e10 z a1 a2 a3 a4 a5 a6 a7 a8 a9 a10 =
    rw (a10, a9, a8, a7, a6, a5, a4, a3, a2, a1, z, e1, e2, e3, e4, e5, e6, e7, e8, e9, e10) refl
