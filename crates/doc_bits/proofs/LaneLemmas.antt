-- Words in vectors and chunks of eight.
use Rattle.std.proofs.Common.{◌≡◌, ℕ, zero, suc, ◌+◌, ◌-◌, ◌*◌, ◌/◌, ◌%◌, ◌<◌, ◌≤◌, List, [], ◌∷◌, length, get_or, take, drop, map, sym, refl, ap, ap₂, ◌∙◌, inl, inr, arith, sum_by, count_ones, Fits, w64}
use Rattle.std.specs.Simd.Lanes.{zip2, chunk, put_chunk, sum_l, Each1}
use Rattle.std.specs.Simd.{first_chunks}
use Rattle.std.proofs.lemmas.Bool.{cases_lt}
use Rattle.std.proofs.lemmas.List.{drop-drop, get_or-take, get_or-drop}
use Rattle.std.proofs.lemmas.List.Sums.{sum_by-cons, sum_by-take-drop}
use Rattle.std.proofs.lemmas.Nat.{ones-le}
use Rattle.std.proofs.lemmas.Simd.{length-zip2, length-chunk, get_or-chunk, get_or-zip2, get_or-put_chunk_below, get_or-put_chunk_at, get_or-put_chunk_above}
use Rattle.doc_bits.specs.Words.{word_of}

-- ---- one vector
pub zip2-map_right : {A B C D : Type 0} (f : A → C → D) (g : B → C) (xs : List A) (ys : List B)
    → zip2 f xs (map g ys) ≡ zip2 (λ x y. f x (g y)) xs ys
zip2-map_right f g [] ys = refl
zip2-map_right f g (x ∷ xs) [] = refl
zip2-map_right f g (x ∷ xs) (y ∷ ys) = ap (λ t. f x (g y) ∷ t) (zip2-map_right f g xs ys)

pub zip2_second : (xs ys : List ℕ) → length xs ≡ length ys → zip2 (λ _ y. y) xs ys ≡ ys
zip2_second [] [] same = refl
zip2_second [] (y ∷ ys) same = absurd (omega arith)
zip2_second (x ∷ xs) [] same = absurd (omega arith)
zip2_second (x ∷ xs) (y ∷ ys) same = ap (λ t. y ∷ t) (zip2_second xs ys (omega arith))

pub sum_l-ones : (xs : List ℕ) → sum_l (map (λ x. x) (map count_ones xs)) ≡ sum_by count_ones xs
sum_l-ones [] = refl
sum_l-ones (x ∷ xs) = ap (λ s. count_ones x + s) (sum_l-ones xs) ∙ sym (sum_by-cons count_ones x xs)

pub sum_by-ones-le : (xs : List ℕ) → Each1 (Fits w64) xs → sum_by count_ones xs ≤ 64 * length xs
sum_by-ones-le [] fits = omega arith
sum_by-ones-le (x ∷ xs) fits =
    let rest = sum_by-ones-le xs fits.1 in
    let here = ones-le 64 x fits.0.fits in
    omega (arith, sum_by-cons count_ones x xs)

-- ---- words in chunks
get_or-first_chunks : (n : ℕ) (xs : List ℕ) (j : ℕ) → j < n → get_or (first_chunks 8 n xs) j [] ≡ take 8 (drop (8 * j) xs)
get_or-first_chunks zero xs j low = absurd (omega arith)
get_or-first_chunks (suc n) xs zero low = refl
get_or-first_chunks (suc n) xs (suc j) low =
    get_or-first_chunks n (drop 8 xs) j (omega arith)
    ∙ ap (take 8) (drop-drop (8 * j) 8 xs ∙ ap (λ m. drop m xs) (omega arith))

pub word_of-first_chunks : (words : List ℕ) (n k : ℕ) → k < 8 * n → word_of (first_chunks 8 n words) k ≡ get_or words k 0
unfolding word_of
word_of-first_chunks words n k low =
    let place : 8 * (k / 8) + k % 8 ≡ k = omega arith in
    ap (λ ws. get_or ws (k % 8) 0) (get_or-first_chunks n words (k / 8) (omega arith))
    ∙ get_or-take 8 (drop (8 * (k / 8)) words) (k % 8) 0 (omega arith)
    ∙ get_or-drop (8 * (k / 8)) words (k % 8) 0
    ∙ ap (λ i. get_or words i 0) place

pub sum-first_chunks : (f : ℕ → ℕ) (n : ℕ) (xs : List ℕ) → sum_by (sum_by f) (first_chunks 8 n xs) + sum_by f (drop (n * 8) xs) ≡ sum_by f xs
sum-first_chunks f zero xs = omega arith
sum-first_chunks f (suc n) xs =
    let here = sum_by-cons (sum_by f) (take 8 xs) (first_chunks 8 n (drop 8 xs)) in
    let rest = sum-first_chunks f n (drop 8 xs) in
    let past : sum_by f (drop (suc n * 8) xs) ≡ sum_by f (drop (n * 8) (drop 8 xs)) =
    ap (sum_by f) (ap (λ m. drop m xs) (omega arith) ∙ sym (drop-drop (n * 8) 8 xs)) in
    let both = sum_by-take-drop f xs 8 in
    omega arith

-- ---- one more chunk is written over the words
module _ (op : ℕ → ℕ → ℕ) (old words lanes theirs : List ℕ) (chunks : List (List ℕ)) (c : ℕ) (room : 8 * c + 8 ≤ length words) (eight : length theirs ≡ 8)
    (at : theirs ≡ get_or chunks c []) (made : lanes ≡ zip2 op (chunk (8 * c) 8 words) theirs) (kept : (k : ℕ) → 8 * c ≤ k → get_or words k 0 ≡ get_or old k 0) where
  long : length (chunk (8 * c) 8 words) ≡ 8
  long = length-chunk (8 * c) 8 words room

  size : length lanes ≡ 8
  size = ap length made ∙ length-zip2 op (chunk (8 * c) 8 words) theirs (long ∙ sym eight) ∙ long

  pub chunk_first : ((k : ℕ) → k < 8 * c → get_or words k 0 ≡ op (get_or old k 0) (word_of chunks k))
      → (k : ℕ) → k < 8 * (c + 1) → get_or (put_chunk (8 * c) words lanes) k 0 ≡ op (get_or old k 0) (word_of chunks k)
  unfolding word_of
  chunk_first before k low = elim (cases_lt k (8 * c)) [
    | inl earlier ↦ get_or-put_chunk_below (8 * c) words lanes k 0 earlier ∙ before k earlier
    | inr here ↦
        let j : ℕ = k - 8 * c in
        let place : 8 * c + j ≡ k = omega arith in
        let few : j < 8 = omega arith in
        let word : k / 8 ≡ c = omega arith in
        let lane : k % 8 ≡ j = omega arith in
        let eight_lanes = size in
        let eight_words = long in
        ap (λ i. get_or (put_chunk (8 * c) words lanes) i 0) (sym place)
        ∙ get_or-put_chunk_at (8 * c) words lanes j 0 (omega arith) (omega arith)
        ∙ ap (λ xs. get_or xs j 0) made
        ∙ get_or-zip2 op (chunk (8 * c) 8 words) theirs j 0 0 0 (omega arith) (omega arith)
        ∙ ap₂ op (get_or-chunk (8 * c) 8 words j 0 few ∙ ap (λ i. get_or words i 0) place ∙ kept k here)
        (ap₂ (λ xs i. get_or xs i 0) (at ∙ ap (λ w. get_or chunks w []) (sym word)) (sym lane))
  ]

  pub chunk_others : (k : ℕ) → 8 * (c + 1) ≤ k → get_or (put_chunk (8 * c) words lanes) k 0 ≡ get_or old k 0
  chunk_others k past = let eight_lanes = size in get_or-put_chunk_above (8 * c) words lanes k 0 (omega arith) ∙ kept k (omega arith)

-- whole chunks first, and then the rest
pub combined_parts : (op : ℕ → ℕ → ℕ) (old other mid new : List ℕ) (chunks : List (List ℕ)) (rest : List ℕ) → length other ≡ length old
    → chunks ≡ first_chunks 8 (length other / 8) other → length chunks ≡ length other / 8
    → rest ≡ drop (length other / 8 * 8) other → length rest ≡ length other % 8
    → ((k : ℕ) → k < 8 * length chunks → get_or mid k 0 ≡ op (get_or old k 0) (word_of chunks k))
    → ((k : ℕ) → 8 * length chunks ≤ k → get_or mid k 0 ≡ get_or old k 0)
    → ((k : ℕ) → 8 * length chunks ≤ k → k < 8 * length chunks + length rest → get_or new k 0 ≡ op (get_or mid k 0) (get_or rest (k - 8 * length chunks) 0))
    → ((k : ℕ) → k < 8 * length chunks → get_or new k 0 ≡ get_or mid k 0)
    → (k : ℕ) → k < length old → get_or new k 0 ≡ op (get_or old k 0) (get_or other k 0)
combined_parts op old other mid new chunks rest same front front_len back back_len first others after before k within = elim (cases_lt k (8 * length chunks)) [
  | inl low ↦
      before k low ∙ first k low
      ∙ ap (op (get_or old k 0)) (ap (λ cs. word_of cs k) front ∙ word_of-first_chunks other (length other / 8) k (omega arith))
  | inr high ↦
      let place : length other / 8 * 8 + (k - 8 * length chunks) ≡ k = omega arith in
      after k high (omega arith)
      ∙ ap₂ op (others k high) (ap (λ xs. get_or xs (k - 8 * length chunks) 0) back
      ∙ get_or-drop (length other / 8 * 8) other (k - 8 * length chunks) 0
      ∙ ap (λ i. get_or other i 0) place)
]
