-- How a set lies in words of 64 bits: place i is bit i % 64 of word i / 64.
use Rattle.std.specs.Prelude.{◌≡◌, ℕ, ◌+◌, ◌-◌, ◌/◌, ◌%◌, ◌^◌, ◌<◌, ◌≤◌, ◌==◌, Bool, false, List, [], ◌∷◌, ◌++◌, length, map, filter, slice_index, slice_index_or}
use Rattle.std.specs.Int.{bit_at}
use Rattle.std.specs.List.{range_with_len}

-- whether the word has the bit
unfoldable pub has_bit : ℕ → ℕ → Bool
has_bit word i = bit_at word i == 1

-- word k of words in chunks of eight
unfoldable pub word_of : List (List ℕ) → ℕ → ℕ
word_of chunks k = slice_index (slice_index_or chunks (k / 8) []) (k % 8)

-- whether place i of the words holds true
unfoldable pub holds_at : List ℕ → ℕ → Bool
holds_at words i = has_bit (slice_index words (i / 64)) (i % 64)

-- the first `len` places of the words
unfoldable pub list_of : ℕ → List ℕ → List Bool
list_of len words = map (holds_at words) (range_with_len 0 len)

-- there are as many words as the places need, and no bit past the last place is set
pub record IsLaidOut (len : ℕ) (words : List ℕ) : Type 0 where
  pub countable : len < 2 ^ 32
  pub as_many : length words ≡ (len + 63) / 64
  pub clear_past : (i : ℕ) → len ≤ i → holds_at words i ≡ false

-- the places of a word whose bit 0 is the place `first`
unfoldable pub places_of_word : ℕ → ℕ → List ℕ
places_of_word first word = filter (λ i. has_bit word (i - first)) (range_with_len first 64)

-- the places of words, where bit 0 of the first of them is the place `first`
unfoldable pub places_of_words : ℕ → List ℕ → List ℕ
places_of_words first [] = []
places_of_words first (word ∷ words) = places_of_word first word ++ places_of_words (first + 64) words
