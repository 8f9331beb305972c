-- Numbers and their binary digits: one digit added, and one digit compared.
use Rattle.std.proofs.Common.{◌≡◌, ℕ, zero, suc, ◌+◌, ◌*◌, ◌/◌, ◌%◌, ◌^◌, ◌<◌, Bool, true, false, cond, eqb, nat_le, ◌&&◌, ◌||◌, List, [], ◌∷◌, length, get_or, set, sym, refl, ap, ap₂, ◌∙◌, inl, inr, arith, bit_and}
use Rattle.std.specs.Simd.Lanes.{mask_l}
use Rattle.std.proofs.Math.Nat.{two-pow-succ}
use Rattle.std.proofs.lemmas.Bool.{cases_lt, le-leb, lt-leb}
use Rattle.std.proofs.lemmas.Nat.{mod-pow-add, mod_below, pow_pos}
use Rattle.std.proofs.lemmas.Nat.Bits.{shr_and_one}
use Rattle.std.proofs.lemmas.Simd.{bit_mask_l}
use Rattle.std.proofs.Math.Bool.{or-true, and-true, and-false, or-false}
use Rattle.doc_bits.specs.Counts.{counted}
use Rattle.doc_bits.specs.Places.{and_not, either_not_both}
use Rattle.doc_bits.specs.Planes.{number}
use Rattle.doc_bits.specs.Words.{has_bit}
use Rattle.doc_bits.proofs.BitLemmas.{cond-has_bit}

number_is_mask : (digits : List Bool) → number digits ≡ mask_l digits
number_is_mask [] = refl
number_is_mask (d ∷ digits) = ap (λ n. cond d 1 0 + 2 * n) (number_is_mask digits)

digit_of_number : (digits : List Bool) (p : ℕ) → number digits / 2 ^ p % 2 ≡ cond (get_or digits p false) 1 0
digit_of_number digits p = ap (λ n. n / 2 ^ p % 2) (number_is_mask digits) ∙ bit_mask_l digits p

-- ---- another digit
doubled : (low q n n' : ℕ) (d e : Bool) → n' + q * cond d 1 0 ≡ n + q * cond e 1 0
    → low + 2 * n' + (q + q) * cond d 1 0 ≡ low + 2 * n + (q + q) * cond e 1 0
doubled low q n n' true true same = omega arith
doubled low q n n' true false same = omega arith
doubled low q n n' false true same = omega arith
doubled low q n n' false false same = omega arith

pub number-set : (digits : List Bool) (p : ℕ) (d e : Bool) → p < length digits → get_or digits p false ≡ d
    → number (set digits p e) + 2 ^ p * cond d 1 0 ≡ number digits + 2 ^ p * cond e 1 0
number-set [] p d e low old = absurd (omega arith)
number-set (first ∷ digits) zero d e low old = let same = ap (λ v. cond {A = ℕ} v 1 0) old in omega arith
number-set (first ∷ digits) (suc p) d e low old =
    let rest = doubled (cond first 1 0) (2 ^ p) (number digits) (number (set digits p e)) d e (number-set digits p d e (omega arith) old) in
    ap (λ q. cond first 1 0 + 2 * number (set digits p e) + q * cond d 1 0) (two-pow-succ p) ∙ rest
    ∙ ap (λ q. cond first 1 0 + 2 * number digits + q * cond e 1 0) (sym (two-pow-succ p))

-- ---- one digit of a sum
half_added : (q n n' : ℕ) (d c : Bool) → n' + q * cond d 1 0 ≡ n + q * cond (either_not_both d c) 1 0
    → n' + (q + q) * cond (and_not c (either_not_both d c)) 1 0 ≡ n + q * cond c 1 0
half_added q n n' true true changed = omega arith
half_added q n n' true false changed = omega arith
half_added q n n' false true changed = omega arith
half_added q n n' false false changed = omega arith

pub digit_added : (p n n' : ℕ) (d c e next : Bool) → e ≡ either_not_both d c → next ≡ and_not c e
    → n' + 2 ^ p * cond d 1 0 ≡ n + 2 ^ p * cond e 1 0 → n' + 2 ^ (p + 1) * cond next 1 0 ≡ n + 2 ^ p * cond c 1 0
digit_added p n n' d c e next sum carry changed =
    let more : 2 ^ (p + 1) ≡ 2 ^ p + 2 ^ p = ap (λ k. 2 ^ k) (omega arith) ∙ two-pow-succ p in
    ap₂ (λ q v. n' + q * cond v 1 0) more (carry ∙ ap (and_not c) sum)
    ∙ half_added (2 ^ p) n n' d c (changed ∙ ap (λ v. n + 2 ^ p * cond v 1 0) sum)

-- nothing is carried past the digits where there is room for one more
pub added_up : (q n old : ℕ) (c b : Bool) → old + 1 < q → n + q * cond c 1 0 ≡ old + cond b 1 0 → n ≡ counted old b
added_up q n old true true room sum = absurd (omega arith)
added_up q n old true false room sum = absurd (omega arith)
added_up q n old false true room sum = omega arith
added_up q n old false false room sum = omega arith

-- ---- one digit of a comparison

le_of_both : (q a x : ℕ) → nat_le (1 * q + a) (1 * q + x) ≡ nat_le a x
le_of_both q a x = elim (cases_lt x a) [
  | inl less ↦ lt-leb (1 * q + a) (1 * q + x) (omega arith) ∙ sym (lt-leb a x less)
  | inr more ↦ le-leb (1 * q + a) (1 * q + x) (omega arith) ∙ sym (le-leb a x more)
]

compared : (q a x : ℕ) (b d : Bool) → a < q → x < q
    → nat_le (cond b 1 0 * q + a) (cond d 1 0 * q + x) ≡ cond b ◌&&◌ ◌||◌ (nat_le a x) d
compared q a x true true low small = le_of_both q a x ∙ sym (and-true (nat_le a x))
compared q a x true false low small = lt-leb (1 * q + a) (0 * q + x) (omega arith) ∙ sym (and-false (nat_le a x))
compared q a x false true low small = le-leb (0 * q + a) (1 * q + x) (omega arith) ∙ sym (or-true (nat_le a x))
compared q a x false false low small = ap₂ nat_le (omega arith) (omega arith) ∙ sym (or-false (nat_le a x))

-- the digits below p and digit p
one_more : (n p : ℕ) → n % 2 ^ (p + 1) ≡ n / 2 ^ p % 2 * 2 ^ p + n % 2 ^ p
one_more n p = ap (λ k. n % 2 ^ k) (omega arith) ∙ mod-pow-add n 1 p

tested : (m p : ℕ) → cond (eqb (bit_and (m / 2 ^ p) 1) 1) 1 0 ≡ m / 2 ^ p % 2
unfolding has_bit
tested m p = ap (λ v. cond (eqb v 1) 1 0) (shr_and_one m p) ∙ cond-has_bit m p

pub digit_compared : (m p : ℕ) (digits : List Bool) (d : Bool) → get_or digits p false ≡ d
    → nat_le (m % 2 ^ (p + 1)) (number digits % 2 ^ (p + 1)) ≡ cond (eqb (bit_and (m / 2 ^ p) 1) 1) ◌&&◌ ◌||◌ (nat_le (m % 2 ^ p) (number digits % 2 ^ p)) d
digit_compared m p digits d digit =
    let q : ℕ = 2 ^ p in
    let b : Bool = eqb (bit_and (m / q) 1) 1 in
    ap₂ nat_le (one_more m p ∙ ap (λ v. v * q + m % q) (sym (tested m p)))
    (one_more (number digits) p ∙ ap (λ v. v * q + number digits % q) (digit_of_number digits p ∙ ap (λ v. cond v 1 0) digit))
    ∙ compared q (m % q) (number digits % q) b d (mod_below m q (pow_pos p)) (mod_below (number digits) q (pow_pos p))
