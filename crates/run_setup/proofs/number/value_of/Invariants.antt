use Rattle.std.proofs.Common.{◌≡◌, ◌<◌, ◌^◌, drop}
use Rattle.std.specs.Prelude.{map}
use Rattle.std.specs.List.{list_all}
use Rattle.std.specs.Char.{is_ascii_digit, digit_value}
use Rattle.std.specs.Int.Digits.{number_from_digits, number_from_digits_after}
use Rattle.run_setup.proofs.number.value_of.Given as goal

abbrev pub invariant-loop-digit : goal.invariant-loop-digit
invariant-loop-digit l =
    (l.value < 10 ^ l.digit-index)
    × (list_all is_ascii_digit (drop l.digit-index l.digits) ≡ list_all is_ascii_digit l.digits)
    × (number_from_digits_after 10 l.value (map digit_value (drop l.digit-index l.digits)) ≡ number_from_digits 10 (map digit_value l.digits))
