-- What is written for a number is read as the number.
use Rattle.std.proofs.Common.{arith, rules, ◌≡◌, ℕ, ◌^◌, ◌<◌, ◌≤◌, length, List, [], ◌∷◌, ◌++◌, Some, true, false, refl, ap₂}
use Rattle.std.specs.Prelude.{◌==◌, nat_lt, nat_le, map}
use Rattle.std.specs.List.{list_all}
use Rattle.std.specs.Char.{is_ascii_digit, digit_value}
use Rattle.std.specs.Fmt.{decimal}
use Rattle.std.specs.Int.Digits.{number_from_digits, number_from_digits_after}
use Rattle.std.proofs.lemmas.Bool.{and_parts}
use Rattle.std.proofs.lemmas.Bool.Decides.{nat_tests}
use Rattle.std.proofs.lemmas.Fmt.{digits_decimal, digits_value-decimal, length-decimal-le, decimal_nonempty}
use Rattle.std.proofs.lemmas.Str.Parse.{IsNumeralModel, numerals_by_fold}
use Rattle.text_lines.specs.Escapes.{escape, escaped_byte, newline, backslash}
use Rattle.text_lines.specs.Words.{number}
use Rattle.simpletext_postings.specs.Rows.{is_small}

abbrev value_after : ℕ → List ℕ → ℕ
value_after n ds = number_from_digits_after 10 n (map digit_value ds)

abbrev are_digits : List ℕ → Type 0
are_digits ds = list_all is_ascii_digit ds ≡ true

own : IsNumeralModel are_digits (value_after 0)
own = numerals_by_fold _ (search rules) value_after (search rules)

-- ---- small numbers

pub small : (n : ℕ) → is_small n ≡ true → n < 2 ^ 31
small n h = grind (arith, nat_tests)

module _ (n : ℕ) (h : is_small n ≡ true) where
  below : n < 2 ^ 64
  below = let s = small n h in omega arith

  pub all_digits : list_all is_ascii_digit (decimal n) ≡ true
  all_digits = digits_decimal own n below

  value : number_from_digits 10 (map digit_value (decimal n)) ≡ n
  value = digits_value-decimal own n below

  pub ten_digits : length (decimal n) ≤ 10
  ten_digits = let s = small n h in length-decimal-le 10 n (omega arith) (omega arith) below

  pub number_decimal : number (decimal n) ≡ Some n
  number_decimal =
      let some = decimal_nonempty n below in
      let most = ten_digits in
      let a : nat_lt 0 (length (decimal n)) ≡ true = grind (arith, nat_tests) in
      let b : nat_le (length (decimal n)) 10 ≡ true = grind (arith, nat_tests) in
      rw (a, b, all_digits, value, h) refl

-- ---- digits want no escape

not_escaped : (c : ℕ) → is_ascii_digit c ≡ true → escaped_byte c ≡ c ∷ []
not_escaped c h =
    let n : (c == newline) ≡ false = grind (arith, nat_tests) in
    let s : (c == backslash) ≡ false = grind (arith, nat_tests) in
    rw (n, s) refl

pub escape_digits : (ds : List ℕ) → list_all is_ascii_digit ds ≡ true → escape ds ≡ ds
escape_digits [] h = refl
escape_digits (c ∷ ds) h =
    let parts = and_parts (is_ascii_digit c) (list_all is_ascii_digit ds) h in
    ap₂ (λ (x y : List ℕ). x ++ y) (not_escaped c parts.0) (escape_digits ds parts.1)
