-- Bits of words, and sets that lie in words.
use Rattle.std.proofs.Common.{◌≡◌, ℕ, zero, suc, ◌*◌, ◌/◌, ◌%◌, ◌^◌, ◌<◌, ◌≤◌, ◌≢◌, Bool, true, false, cond, eqb, List, length, get_or, map, sym, refl, ap, ◌∙◌, inl, inr, arith, w64, bit_or, eq-eqb}
use Rattle.std.proofs.Math.Path.{fun_ext}
use Rattle.std.specs.Int.{bit_at}
use Rattle.std.specs.List.{range_with_len}
use Rattle.std.proofs.lemmas.Bool.{cases_lt}
use Rattle.std.proofs.lemmas.List.{get_or_past}
use Rattle.std.proofs.lemmas.Nat.Bits.{bit_at-zero, bit_at-lt, bit_at_set_same, bit_at_set_other}
use Rattle.doc_bits.specs.Places.{zip_with}
use Rattle.doc_bits.specs.Words.{has_bit, holds_at, list_of, IsLaidOut}
use Rattle.doc_bits.proofs.Lists.{zip_with-map}

pub has_bit-zero : (i : ℕ) → has_bit 0 i ≡ false
unfolding has_bit
has_bit-zero i = rw (bit_at-zero i) refl

-- a bit as a number
pub cond-has_bit : (word i : ℕ) → cond (has_bit word i) 1 0 ≡ bit_at word i
unfolding has_bit
cond-has_bit word i = of_number (bit_at word i) (bit_at-lt word i)
  where
    of_number : (x : ℕ) → x < 2 → cond (eqb x 1) 1 0 ≡ x
    of_number zero low = refl
    of_number (suc zero) low = refl
    of_number (suc (suc x)) low = absurd (omega arith)

pub has_bit-set_same : (word k : ℕ) → k < 64 → has_bit (bit_or word (1 * 2 ^ k % 2 ^ 64)) k ≡ true
unfolding has_bit
has_bit-set_same word k low = eq-eqb _ 1 (bit_at_set_same w64 word k low)

pub has_bit-set_other : (word k : ℕ) → k < 64 → (i : ℕ) → i ≢ k → has_bit (bit_or word (1 * 2 ^ k % 2 ^ 64)) i ≡ has_bit word i
unfolding has_bit
has_bit-set_other word k low i other = rw (bit_at_set_other w64 word k low i other) refl

pub holds_past : (words : List ℕ) (i : ℕ) → length words ≤ i / 64 → holds_at words i ≡ false
unfolding holds_at
holds_past words i past = rw (get_or_past words (i / 64) 0 past) (has_bit-zero (i % 64))

pub holds_none : (words : List ℕ) → ((k : ℕ) → k < length words → get_or words k 0 ≡ 0) → (i : ℕ) → holds_at words i ≡ false
unfolding holds_at
holds_none words none i = elim (cases_lt (i / 64) (length words)) [
  | inl within ↦ rw (none (i / 64) within) (has_bit-zero (i % 64))
  | inr past ↦ holds_past words i past
]

-- words that are combined one by one
module _ (op : ℕ → ℕ → ℕ) (test : Bool → Bool → Bool) (none : test false false ≡ false)
    (bitwise : (a b i : ℕ) → b < 2 ^ 64 → i < 64 → has_bit (op a b) i ≡ test (has_bit a i) (has_bit b i)) where
  pub combined : (old other new : List ℕ) → length other ≡ length old → length new ≡ length old
      → ((k : ℕ) → get_or other k 0 < 2 ^ 64)
      → ((k : ℕ) → k < length old → get_or new k 0 ≡ op (get_or old k 0) (get_or other k 0))
      → (i : ℕ) → holds_at new i ≡ test (holds_at old i) (holds_at other i)
  unfolding holds_at
  combined old other new others_long new_long fits each i =
      elim (cases_lt (i / 64) (length old)) [
        | inl within ↦ at_word within
        | inr past ↦ rw (holds_past new i (omega arith), holds_past old i past, holds_past other i (omega arith)) (sym none)
      ]
    where
      at_word : i / 64 < length old → holds_at new i ≡ test (holds_at old i) (holds_at other i)
      at_word within = rw (each (i / 64) within) (bitwise _ _ (i % 64) (fits (i / 64)) (omega arith))

-- the list of words of which each place holds what a test makes of two others
pub list_of_combined : (test : Bool → Bool → Bool) (len other_len : ℕ) (old other new : List ℕ) → other_len ≡ len
    → ((i : ℕ) → holds_at new i ≡ test (holds_at old i) (holds_at other i))
    → list_of len new ≡ zip_with test (list_of len old) (list_of other_len other)
unfolding list_of
list_of_combined test len other_len old other new same_len each =
    rw same_len
    (ap (λ (f : ℕ → Bool). map f (range_with_len 0 len)) (fun_ext each)
    ∙ sym (zip_with-map test (holds_at old) (holds_at other) (range_with_len 0 len)))

pub laid_out_combined : (test : Bool → Bool → Bool) → test false false ≡ false → (len other_len : ℕ) (old other new : List ℕ)
    → other_len ≡ len → length new ≡ length old → IsLaidOut len old → IsLaidOut other_len other
    → ((i : ℕ) → holds_at new i ≡ test (holds_at old i) (holds_at other i)) → IsLaidOut len new
laid_out_combined test none len other_len old other new same_len long first second each = record {
  countable = first.countable;
  as_many = long ∙ first.as_many;
  clear_past = λ i past. each i ∙ rw (first.clear_past i past, second.clear_past i (omega arith)) none;
}
