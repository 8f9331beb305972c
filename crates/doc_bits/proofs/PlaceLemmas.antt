-- The places that hold true, in one word and in many, and how many they are.
use Rattle.std.proofs.Common.{◌≡◌, ℕ, zero, suc, ◌+◌, ◌-◌, ◌*◌, ◌/◌, ◌%◌, ◌^◌, ◌<◌, ◌≤◌, Bool, false, cond, List, [], ◌∷◌, ◌++◌, length, get_or, take, drop, map, filter, sym, refl, ap, ap₂, ◌∙◌, inl, inr, eqb, eq-eqb, arith, w64, bit_and, All, length-append, sum_by, count_ones}
use Rattle.std.specs.Int.{bit_at, bit_not, trailing_zeros}
use Rattle.std.specs.List.{range_with_len}
use Rattle.std.specs.List.Sorted.{IsStrictlyIncreasing}
use Rattle.std.proofs.lemmas.Bool.{cases_lt}
use Rattle.std.proofs.lemmas.List.{get_or_past, append-nil, drop_more, take_rest}
use Rattle.std.proofs.lemmas.List.Elements.{filter-append, All-filter, All-from_get_or}
use Rattle.std.proofs.lemmas.List.FromFn.{length-range_with_len, get_or-range_with_len, length-map-range_with_len, get_or-map-range_with_len}
use Rattle.std.proofs.lemmas.List.Kept.{IsStrictlyIncreasing-filter}
use Rattle.std.proofs.lemmas.List.Sums.{length-filter, sum_by-cons, count_by-le-length}
use Rattle.std.proofs.lemmas.Nat.Bits.{bit_at_above, same_from_bits, bit_at_clear_same, bit_at_clear_other, bit_at-trailing_zeros}
use Rattle.std.proofs.lemmas.Simd.{bit_mask_l, ones-mask_l}
use lib.Lanes.{mask_l}
use Rattle.doc_bits.specs.Places.{places_of}
use Rattle.doc_bits.specs.Words.{has_bit, holds_at, list_of, IsLaidOut, places_of_word, places_of_words}
use Rattle.doc_bits.proofs.Lists.{filter-range_same, filter-range_none, filter-range_first, length-filter-range_moved, range-append}
use Rattle.doc_bits.proofs.BitLemmas.{has_bit-zero, cond-has_bit}
use Rattle.doc_bits.proofs.LayoutLemmas.{length-list_of, get_or-list_of}

-- ---- one word
-- a word is the number that its bits make
word_from_bits : (word : ℕ) → word < 2 ^ 64 → mask_l (map (has_bit word) (range_with_len 0 64)) ≡ word
word_from_bits word fits =
    let all : List Bool = map (has_bit word) (range_with_len 0 64) in
    let long : length all ≡ 64 = length-map-range_with_len (has_bit word) 0 64 in
    same_from_bits (mask_l all) word (λ i. bit_mask_l all i ∙ elim (cases_lt i 64) [
      | inl low ↦ ap (λ v. cond v 1 0) (get_or-map-range_with_len (has_bit word) 0 64 i i false low (omega arith)) ∙ cond-has_bit word i
      | inr high ↦ ap (λ v. cond v 1 0) (get_or_past all i false (omega arith)) ∙ sym (bit_at_above word 64 i fits high)
    ])

length-places_of_word : (first word : ℕ) → word < 2 ^ 64 → length (places_of_word first word) ≡ count_ones word
unfolding places_of_word
length-places_of_word first word fits =
    length-filter-range_moved (λ i. has_bit word (i - first)) (has_bit word) first 0 64 (λ i low. ap (has_bit word) (omega arith))
    ∙ length-filter (has_bit word) (range_with_len 0 64)
    ∙ sym (ones-mask_l (has_bit word) (range_with_len 0 64))
    ∙ ap count_ones (word_from_bits word fits)

places_of_no_word : (first : ℕ) → places_of_word first 0 ≡ []
unfolding places_of_word
places_of_no_word first = filter-range_none (λ i. has_bit 0 (i - first)) first 64 (λ i low high. has_bit-zero (i - first))

-- the lowest bit is the first place, and without it the other places are left
lowest_place : (first word : ℕ) → 0 < word → word < 2 ^ 64
    → places_of_word first word
    ≡ (first + trailing_zeros w64 word) ∷ places_of_word first (bit_and word (bit_not w64 (1 * 2 ^ trailing_zeros w64 word % 2 ^ 64)))
unfolding places_of_word has_bit
lowest_place first word some fits =
    let t : ℕ = trailing_zeros w64 word in
    let rest : ℕ = bit_and word (bit_not w64 (1 * 2 ^ t % 2 ^ 64)) in
    let lowest = bit_at-trailing_zeros w64 word some fits in
    filter-range_first (λ i. eqb (bit_at word (i - first)) 1) (λ i. eqb (bit_at rest (i - first)) 1) first 64 t lowest.0
    (λ i low high. rw (lowest.2 (i - first) (omega arith)) refl)
    (let at : first + t - first ≡ t = omega arith in rw at (eq-eqb _ 1 lowest.1))
    (let at : first + t - first ≡ t = omega arith in rw (at, bit_at_clear_same w64 word t lowest.0) refl)
    (λ i low high other. rw (bit_at_clear_other w64 word t lowest.0 (i - first) (omega arith) (λ e. other (omega arith))) refl)

-- ---- words
pub length-places_of_words : (first : ℕ) (words : List ℕ) → ((k : ℕ) → get_or words k 0 < 2 ^ 64)
    → length (places_of_words first words) ≡ sum_by count_ones words
unfolding places_of_words
length-places_of_words first [] fits = refl
length-places_of_words first (word ∷ words) fits =
    length-append (places_of_word first word) (places_of_words (first + 64) words)
    ∙ ap₂ ◌+◌ (length-places_of_word first word (fits 0)) (length-places_of_words (first + 64) words (λ k. fits (suc k)))
    ∙ sym (sum_by-cons count_ones word words)

-- no place in words that are all 0
pub places-skipped : (first : ℕ) (words : List ℕ) (k : ℕ) → ((j : ℕ) → j < k → get_or words j 0 ≡ 0) → k ≤ length words
    → places_of_words first words ≡ places_of_words (first + 64 * k) (drop k words)
unfolding places_of_words
places-skipped first words zero none within = ap (λ f. places_of_words f words) (omega arith)
places-skipped first [] (suc k) none within = absurd (omega arith)
places-skipped first (word ∷ words) (suc k) none within =
    ap₂ ◌++◌ (ap (places_of_word first) (none 0 (omega arith)) ∙ places_of_no_word first) (places-skipped (first + 64) words k (λ j low. none (suc j) (omega arith)) (omega arith))
    ∙ ap (λ f. places_of_words f (drop k words)) (omega arith)

pub no_places : (first : ℕ) (words : List ℕ) → ((j : ℕ) → j < length words → get_or words j 0 ≡ 0) → places_of_words first words ≡ []
unfolding places_of_words
no_places first [] none = refl
no_places first (word ∷ words) none =
    ap₂ ◌++◌ (ap (places_of_word first) (none 0 (omega arith)) ∙ places_of_no_word first) (no_places (first + 64) words (λ j low. none (suc j) (omega arith)))

pub places-lowest : (first word : ℕ) (words : List ℕ) → 0 < word → word < 2 ^ 64
    → places_of_words first (word ∷ words)
    ≡ (first + trailing_zeros w64 word) ∷ places_of_words first (bit_and word (bit_not w64 (1 * 2 ^ trailing_zeros w64 word % 2 ^ 64)) ∷ words)
unfolding places_of_words
places-lowest first word words some fits = ap (λ xs. xs ++ places_of_words (first + 64) words) (lowest_place first word some fits)

holds_first : (word : ℕ) (words : List ℕ) (i : ℕ) → i < 64 → holds_at (word ∷ words) i ≡ has_bit word i
unfolding holds_at
holds_first word words i low =
    let at : i / 64 ≡ 0 = omega arith in
    let bit : i % 64 ≡ i = omega arith in
    rw (at, bit) refl

holds_rest : (word : ℕ) (words : List ℕ) (i : ℕ) → holds_at (word ∷ words) (i + 64) ≡ holds_at words i
unfolding holds_at
holds_rest word words i =
    let at : (i + 64) / 64 ≡ suc (i / 64) = omega arith in
    let bit : (i + 64) % 64 ≡ i % 64 = omega arith in
    rw (at, bit) refl

places_of_words_by_place : (first : ℕ) (words : List ℕ)
    → places_of_words first words ≡ filter (λ i. holds_at words (i - first)) (range_with_len first (64 * length words))
unfolding places_of_words places_of_word
places_of_words_by_place first [] = refl
places_of_words_by_place first (word ∷ words) =
    let whole : ℕ → Bool = λ i. holds_at (word ∷ words) (i - first) in
    let long : 64 * suc (length words) ≡ 64 + 64 * length words = omega arith in
    ap₂ ◌++◌
    (filter-range_same (λ i. has_bit word (i - first)) whole first 64 (λ i low high. sym (holds_first word words (i - first) (omega arith))))
    (places_of_words_by_place (first + 64) words
    ∙ filter-range_same (λ i. holds_at words (i - (first + 64))) whole (first + 64) (64 * length words) (λ i low high.
    let at : i - first ≡ i - (first + 64) + 64 = omega arith in
    sym (ap (holds_at (word ∷ words)) at ∙ holds_rest word words (i - (first + 64)))))
    ∙ sym (ap (filter whole) (ap (range_with_len first) long ∙ range-append first 64 (64 * length words))
    ∙ filter-append whole (range_with_len first 64) (range_with_len (first + 64) (64 * length words)))

-- ---- the list that the words stand for
pub places_of-list_of : (len : ℕ) (words : List ℕ) → IsLaidOut len words → places_of (list_of len words) ≡ places_of_words 0 words
places_of-list_of len words laid =
    let past : ℕ = 64 * length words - len in
    let as_many = laid.as_many in
    let long : 64 * length words ≡ len + past = omega arith in
    let moved : (i : ℕ) → holds_at words (i - 0) ≡ holds_at words i = λ i. ap (holds_at words) (omega arith) in
    ap (λ n. filter (λ i. get_or (list_of len words) i false) (range_with_len 0 n)) (length-list_of len words)
    ∙ filter-range_same (λ i. get_or (list_of len words) i false) (λ i. holds_at words (i - 0)) 0 len
    (λ i low high. get_or-list_of len words i false (omega arith) ∙ sym (moved i))
    ∙ sym (places_of_words_by_place 0 words
    ∙ ap (filter (λ i. holds_at words (i - 0))) (ap (range_with_len 0) long ∙ range-append 0 len past)
    ∙ filter-append (λ i. holds_at words (i - 0)) (range_with_len 0 len) (range_with_len (0 + len) past)
    ∙ ap (λ xs. filter (λ i. holds_at words (i - 0)) (range_with_len 0 len) ++ xs)
    (filter-range_none (λ i. holds_at words (i - 0)) (0 + len) past (λ i low high. moved i ∙ laid.clear_past i (omega arith)))
    ∙ append-nil _)

-- ---- what is true of the places of each list
pub places-rising : (bits : List Bool) → IsStrictlyIncreasing (places_of bits)
places-rising bits =
    let n : ℕ = length bits in
    let long : length (range_with_len 0 n) ≡ n = length-range_with_len 0 n in
    IsStrictlyIncreasing-filter (λ i. get_or bits i false) (range_with_len 0 n)
    (λ k low. omega (arith, get_or-range_with_len 0 n k 0 (omega arith), get_or-range_with_len 0 n (k + 1) 0 (omega arith)))

pub places-within : (bits : List Bool) → All (λ i. i < length bits) (places_of bits)
places-within bits =
    let n : ℕ = length bits in
    let long : length (range_with_len 0 n) ≡ n = length-range_with_len 0 n in
    All-filter (λ i. get_or bits i false) (λ i. i < n) (range_with_len 0 n)
    (All-from_get_or (λ i. i < n) (range_with_len 0 n) 0 (λ i low. omega (arith, get_or-range_with_len 0 n i 0 (omega arith))))

pub length-places_of : (bits : List Bool) → length (places_of bits) ≤ length bits
length-places_of bits =
    let n : ℕ = length bits in
    let long : length (range_with_len 0 n) ≡ n = length-range_with_len 0 n in
    omega (arith, length-filter (λ i. get_or bits i false) (range_with_len 0 n), count_by-le-length (λ i. get_or bits i false) (range_with_len 0 n))

-- ---- one step of the iterator
-- what is left is in the first word that is not 0 and behind it
pub places-next_word : (first left : ℕ) (words rest : List ℕ) (s : ℕ) → left ≡ 0 → ((k : ℕ) → k < s → get_or words k 0 ≡ 0) → s < length words
    → rest ≡ take (length words - (s + 1)) (drop (s + 1) words)
    → places_of_words first (left ∷ words) ≡ places_of_words (first + 64 * (s + 1)) (get_or words s 0 ∷ rest)
places-next_word first left words rest s empty none within tail =
    let none_here : (j : ℕ) → j < suc s → get_or (left ∷ words) j 0 ≡ 0 = none_yet in
    places-skipped first (left ∷ words) (suc s) none_here (omega arith)
    ∙ ap₂ places_of_words (omega arith) (drop_more words s 0 within ∙ ap (λ xs. get_or words s 0 ∷ xs) (sym (tail ∙ take_rest words (s + 1))))
  where
    none_yet : (j : ℕ) → j < suc s → get_or (left ∷ words) j 0 ≡ 0
    none_yet zero low = empty
    none_yet (suc j) low = none j (omega arith)

none_left : (left : ℕ) (words : List ℕ) → left ≡ 0 → ((k : ℕ) → k < length words → get_or words k 0 ≡ 0)
    → (j : ℕ) → j < suc (length words) → get_or (left ∷ words) j 0 ≡ 0
none_left left words empty none zero low = empty
none_left left words empty none (suc j) low = none j (omega arith)

pub no_places_left : (first left : ℕ) (words : List ℕ) → left ≡ 0 → ((k : ℕ) → k < length words → get_or words k 0 ≡ 0)
    → places_of_words first (left ∷ words) ≡ []
no_places_left first left words empty none = no_places first (left ∷ words) (none_left left words empty none)
