-- Sets as they are made, and with one more place.
use Rattle.std.proofs.Common.{◌≡◌, ℕ, ◌+◌, ◌-◌, ◌*◌, ◌/◌, ◌%◌, ◌^◌, ◌<◌, ◌≤◌, ◌≢◌, Bool, true, false, List, length, get_or, set, replicate, sym, refl, ap, ◌∙◌, inl, inr, arith, bit_or, eq-eqb, Some, length-set, eqb, bit_and}
use Rattle.std.specs.List.{slice_get}
use Rattle.std.proofs.lemmas.Bool.{cases_lt, cases_eq}
use Rattle.std.proofs.lemmas.List.{get_or_past, ext_get_or, length-replicate, get_or-replicate, get_or-set_same, get_or-set_other}
use Rattle.std.proofs.lemmas.List.FromFn.{length-map-range_with_len, get_or-map-range_with_len}
use Rattle.std.proofs.lemmas.Option.{slice_get-get_or}
use Rattle.std.proofs.lemmas.List.{get_or_read}
use Rattle.std.proofs.lemmas.Nat.{one_shl}
use Rattle.std.proofs.lemmas.Nat.Bits.{shr_and_one, bit_at_ones, bit_at_ones_above}
use Rattle.doc_bits.specs.Words.{has_bit, holds_at, list_of, IsLaidOut}
use Rattle.doc_bits.proofs.Lists.{replicate_of_range}
use Rattle.doc_bits.proofs.BitLemmas.{has_bit-zero, has_bit-set_same, has_bit-set_other, holds_past}

pub length-list_of : (len : ℕ) (words : List ℕ) → length (list_of len words) ≡ len
unfolding list_of
length-list_of len words = length-map-range_with_len (holds_at words) 0 len

pub get_or-list_of : (len : ℕ) (words : List ℕ) (i : ℕ) (d : Bool) → i < len → get_or (list_of len words) i d ≡ holds_at words i
unfolding list_of
get_or-list_of len words i d within = get_or-map-range_with_len (holds_at words) 0 len i i d within (omega arith)

pub slice_get-list_of : (len : ℕ) (words : List ℕ) (i : ℕ) → i < len → slice_get (list_of len words) i ≡ Some (holds_at words i)
slice_get-list_of len words i within =
    let long = length-list_of len words in
    slice_get-get_or (list_of len words) i false (omega arith) ∙ ap (λ v. Some v) (get_or-list_of len words i false within)

-- the test that reads one bit of a word
pub holds_read : (words : List ℕ) (i word : ℕ) → i / 64 < length words → word ≡ get_or words (i / 64) word
    → holds_at words i ≡ eqb (bit_and (word / 2 ^ (i % 64)) 1) 1
unfolding holds_at has_bit
holds_read words i word within read = rw (← get_or_read words (i / 64) word within read 0, shr_and_one word (i % 64)) refl

pub list_of_replicate : (b : Bool) (len : ℕ) (words : List ℕ) → ((i : ℕ) → i < len → holds_at words i ≡ b) → list_of len words ≡ replicate len b
unfolding list_of
list_of_replicate b len words each = replicate_of_range (holds_at words) b 0 len (λ i low high. each i (omega arith))

get_or-zeros : (n k : ℕ) → get_or {A = ℕ} (replicate n 0) k 0 ≡ 0
get_or-zeros n k = elim (cases_lt k n) [
  | inl within ↦ get_or-replicate n k 0 0 within
  | inr past ↦ get_or_past (replicate n 0) k 0 (let long = length-replicate {A = ℕ} n 0 in omega arith)
]

pub holds_zeros : (n i : ℕ) → holds_at (replicate n 0) i ≡ false
unfolding holds_at
holds_zeros n i = rw (get_or-zeros n (i / 64)) (has_bit-zero (i % 64))

has_bit-ones : (k i : ℕ) → i < k → has_bit (2 ^ k - 1) i ≡ true
unfolding has_bit
has_bit-ones k i low = eq-eqb _ 1 (bit_at_ones k i low)

has_bit-ones_above : (k i : ℕ) → k ≤ i → has_bit (2 ^ k - 1) i ≡ false
unfolding has_bit
has_bit-ones_above k i high = rw (bit_at_ones_above k i high) refl

-- words that are all ones, as far as there are places
pub record IsFull (len : ℕ) (words : List ℕ) : Type 0 where
  pub as_many : length words ≡ (len + 63) / 64
  pub whole : (k : ℕ) → k < len / 64 → get_or words k 0 ≡ 2 ^ 64 - 1
  pub last : 0 < len % 64 → get_or words (len / 64) 0 ≡ 2 ^ (len % 64) - 1

pub full_at_end : (len : ℕ) (words : List ℕ) → length words ≡ (len + 63) / 64 → ((k : ℕ) → k < length words → get_or words k 0 ≡ 2 ^ 64 - 1)
    → len % 64 ≡ 0 → IsFull len words
full_at_end len words long each even = record {
  as_many = long;
  whole = λ k low. each k (omega arith);
  last = λ odd. absurd (omega arith);
}

pub full_with_last : (len : ℕ) (words : List ℕ) → length words ≡ (len + 63) / 64 → ((k : ℕ) → k < length words → get_or words k 0 ≡ 2 ^ 64 - 1)
    → (len % 64 ≡ 0 → ⊥) → IsFull len (set words (len / 64) (1 * 2 ^ (len % 64) % 2 ^ 64 - 1))
full_with_last len words long each odd =
    let some : 0 < len % 64 = omega (arith, odd) in
    let last : 1 * 2 ^ (len % 64) % 2 ^ 64 ≡ 2 ^ (len % 64) = one_shl (len % 64) 64 (omega arith) in
    record {
      as_many = length-set words (len / 64) (1 * 2 ^ (len % 64) % 2 ^ 64 - 1) ∙ long;
      whole = λ k low. get_or-set_other words (len / 64) k (1 * 2 ^ (len % 64) % 2 ^ 64 - 1) 0 (λ e. omega (arith, e)) ∙ each k (omega arith);
      last = λ _. get_or-set_same words (len / 64) (1 * 2 ^ (len % 64) % 2 ^ 64 - 1) 0 (omega arith) ∙ ap (λ x. x - 1) last;
    }

pub full_holds : (len : ℕ) (words : List ℕ) → IsFull len words → (i : ℕ) → i < len → holds_at words i ≡ true
unfolding holds_at
full_holds len words full i within = elim (cases_lt (i / 64) (len / 64)) [
  | inl whole ↦ rw (full.whole (i / 64) whole) (has_bit-ones 64 (i % 64) (omega arith))
  | inr last ↦
      let word : i / 64 ≡ len / 64 = omega arith in
      rw (word, full.last (omega arith)) (has_bit-ones (len % 64) (i % 64) (omega arith))
]

pub full_clear_past : (len : ℕ) (words : List ℕ) → IsFull len words → (i : ℕ) → len ≤ i → holds_at words i ≡ false
unfolding holds_at
full_clear_past len words full i past = elim (cases_lt (i / 64) (length words)) [
  | inl within ↦
      let long = full.as_many in
      let word : i / 64 ≡ len / 64 = omega arith in
      rw (word, full.last (omega arith)) (has_bit-ones_above (len % 64) (i % 64) (omega arith))
  | inr beyond ↦ holds_past words i beyond
]

-- a word with one more bit
module _ (words : List ℕ) (i : ℕ) (within : i / 64 < length words) where
  abbrev with_place : List ℕ
  with_place = set words (i / 64) (bit_or (get_or words (i / 64) 0) (1 * 2 ^ (i % 64) % 2 ^ 64))

  pub holds_set_same : holds_at with_place i ≡ true
  unfolding holds_at
  holds_set_same =
      rw (get_or-set_same words (i / 64) (bit_or (get_or words (i / 64) 0) (1 * 2 ^ (i % 64) % 2 ^ 64)) 0 within)
      (has_bit-set_same (get_or words (i / 64) 0) (i % 64) (omega arith))

  pub holds_set_other : (j : ℕ) → j ≢ i → holds_at with_place j ≡ holds_at words j
  unfolding holds_at
  holds_set_other j other = elim (cases_eq (j / 64) (i / 64)) [
    | inl same ↦
        let bit : j % 64 ≢ i % 64 = λ e. other (omega arith) in
        rw (same, get_or-set_same words (i / 64) (bit_or (get_or words (i / 64) 0) (1 * 2 ^ (i % 64) % 2 ^ 64)) 0 within)
        (has_bit-set_other (get_or words (i / 64) 0) (i % 64) (omega arith) (j % 64) bit)
    | inr apart ↦ rw (get_or-set_other words (i / 64) (j / 64) (bit_or (get_or words (i / 64) 0) (1 * 2 ^ (i % 64) % 2 ^ 64)) 0 apart) refl
  ]

pub list_of_set : (len : ℕ) (words new : List ℕ) (i : ℕ) → i < len → holds_at new i ≡ true
    → ((j : ℕ) → j ≢ i → holds_at new j ≡ holds_at words j) → list_of len new ≡ set (list_of len words) i true
list_of_set len words new i within here others =
    let old_long = length-list_of len words in
    let new_long = length-list_of len new in
    let set_long = length-set (list_of len words) i true in
    ext_get_or false _ _ (omega arith) (λ j low. elim (cases_eq j i) [
      | inl same ↦ rw same (get_or-list_of len new i false within ∙ here ∙ sym (get_or-set_same (list_of len words) i true false (omega arith)))
      | inr other ↦
          get_or-list_of len new j false (omega arith) ∙ others j other ∙ sym (get_or-list_of len words j false (omega arith))
          ∙ sym (get_or-set_other (list_of len words) i j true false other)
    ])

pub laid_out_set : (len : ℕ) (words new : List ℕ) (i : ℕ) → i < len → length new ≡ length words → IsLaidOut len words
    → ((j : ℕ) → j ≢ i → holds_at new j ≡ holds_at words j) → IsLaidOut len new
laid_out_set len words new i within long laid others = record {
  countable = laid.countable;
  as_many = long ∙ laid.as_many;
  clear_past = λ j past. others j (λ e. omega (arith, e)) ∙ laid.clear_past j past;
}
