-- What a line begins with, its numbers, and the checksum line.
use Rattle.std.specs.Prelude.{ℕ, ◌&&◌, ◌==◌, ◌^◌, List, length, drop, map, Bool, true, nat_lt, nat_le, nat_eq, Option, Some, None, if◌then◌else◌, codes}
use Rattle.std.specs.List.{starts_with, list_all}
use Rattle.std.specs.Char.{is_ascii_digit, digit_value}
use Rattle.std.specs.Int.Digits.{number_from_digits}

abbrev pub begins : List ℕ → List ℕ → Bool
begins mark s = starts_with nat_eq s mark

-- 1 to 10 digits with a value of at most 2147483647
abbrev pub number : List ℕ → Option ℕ
number s =
    if nat_lt 0 (length s) && nat_le (length s) 10 && list_all is_ascii_digit s && nat_lt (number_from_digits 10 (map digit_value s)) (2 ^ 31)
    then Some (number_from_digits 10 (map digit_value s)) else None

-- above the number before it, where there is one
abbrev pub is_above : Option ℕ → ℕ → Bool
is_above None n = true
is_above (Some m) n = nat_lt m n

-- `checksum ` and exactly 20 digits
abbrev pub is_checksum : List ℕ → Bool
is_checksum s = begins (codes "checksum ") s && (length s == 29) && list_all is_ascii_digit (drop 9 s)
