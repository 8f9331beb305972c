-- Operations on words are tests of each bit by itself.
use Rattle.std.proofs.Common.{◌≡◌, ℕ, zero, suc, ◌+◌, ◌-◌, ◌%◌, ◌^◌, ◌<◌, not, ◌&&◌, ◌||◌, eqb, min, max, refl, ap, ◌∙◌, arith, w64, bit_and, bit_or, bit_xor}
use Rattle.std.specs.Int.{bit_not}
use Rattle.std.proofs.lemmas.Nat.Bits.{bit_at-lt, bit_at_and, bit_at_or, bit_at_xor, bit_at_not}
use Rattle.doc_bits.specs.Places.{and_not, either_not_both}
use Rattle.doc_bits.specs.Words.{has_bit}

of_min : (x y : ℕ) → x < 2 → y < 2 → eqb (min x y) 1 ≡ (eqb x 1 && eqb y 1)
of_min zero zero low small = refl
of_min zero (suc zero) low small = refl
of_min (suc zero) zero low small = refl
of_min (suc zero) (suc zero) low small = refl
of_min (suc (suc x)) y low small = absurd (omega arith)
of_min x (suc (suc y)) low small = absurd (omega arith)

of_max : (x y : ℕ) → x < 2 → y < 2 → eqb (max x y) 1 ≡ (eqb x 1 || eqb y 1)
of_max zero zero low small = refl
of_max zero (suc zero) low small = refl
of_max (suc zero) zero low small = refl
of_max (suc zero) (suc zero) low small = refl
of_max (suc (suc x)) y low small = absurd (omega arith)
of_max x (suc (suc y)) low small = absurd (omega arith)

of_sum : (x y : ℕ) → x < 2 → y < 2 → eqb ((x + y) % 2) 1 ≡ either_not_both (eqb x 1) (eqb y 1)
of_sum zero zero low small = refl
of_sum zero (suc zero) low small = refl
of_sum (suc zero) zero low small = refl
of_sum (suc zero) (suc zero) low small = refl
of_sum (suc (suc x)) y low small = absurd (omega arith)
of_sum x (suc (suc y)) low small = absurd (omega arith)

of_not : (x : ℕ) → x < 2 → eqb (1 - x) 1 ≡ not (eqb x 1)
of_not zero low = refl
of_not (suc zero) low = refl
of_not (suc (suc x)) low = absurd (omega arith)

pub has_bit-and : (a b i : ℕ) → has_bit (bit_and a b) i ≡ (has_bit a i && has_bit b i)
unfolding has_bit
has_bit-and a b i = rw (bit_at_and a b i) (of_min _ _ (bit_at-lt a i) (bit_at-lt b i))

pub has_bit-or : (a b i : ℕ) → has_bit (bit_or a b) i ≡ (has_bit a i || has_bit b i)
unfolding has_bit
has_bit-or a b i = rw (bit_at_or a b i) (of_max _ _ (bit_at-lt a i) (bit_at-lt b i))

pub has_bit-xor : (a b i : ℕ) → has_bit (bit_xor a b) i ≡ either_not_both (has_bit a i) (has_bit b i)
unfolding has_bit
has_bit-xor a b i = rw (bit_at_xor a b i) (of_sum _ _ (bit_at-lt a i) (bit_at-lt b i))

has_bit-not : (a i : ℕ) → a < 2 ^ 64 → i < 64 → has_bit (bit_not w64 a) i ≡ not (has_bit a i)
unfolding has_bit
has_bit-not a i fits small = rw (bit_at_not w64 a i fits small) (of_not _ (bit_at-lt a i))

pub has_bit-and_not : (a b i : ℕ) → b < 2 ^ 64 → i < 64 → has_bit (bit_and a (bit_not w64 b)) i ≡ and_not (has_bit a i) (has_bit b i)
has_bit-and_not a b i fits small = has_bit-and a (bit_not w64 b) i ∙ ap (λ v. has_bit a i && v) (has_bit-not b i fits small)
