-- The words of a line: what they are cut at, names and numbers.
use Rattle.std.specs.Prelude.{ℕ, ◌&&◌, ◌==◌, List, [], ◌∷◌, length, map, nat_lt, nat_le, Option, Some, None, if◌then◌else◌}
use Rattle.std.specs.List.{list_all, slice_split}
use Rattle.std.specs.Char.{is_ascii_digit, digit_value}
use Rattle.std.specs.Int.Digits.{number_from_digits}
use Rattle.std.specs.Borrow.{Bor}
use Rattle.byte_text.specs.Names.{is_name}

-- the words of a line: a blank stands between two of them
abbrev pub words_of : List ℕ → List (List ℕ)
words_of line = slice_split (λ b. b == 32) line

-- the bytes of each word that is lent
abbrev pub texts : List (Bor (List ℕ)) → List (List ℕ)
texts = map (λ w. w.now)

-- the value of decimal digits
abbrev pub value_of : List ℕ → Option ℕ
value_of s = if list_all is_ascii_digit s then Some (number_from_digits 10 (map digit_value s)) else None

-- 1 to 20 decimal digits with a value of at most `most`
abbrev pub number_up_to : ℕ → List ℕ → Option ℕ
number_up_to most s =
    if nat_lt 0 (length s) && nat_le (length s) 20 && list_all is_ascii_digit s && nat_le (number_from_digits 10 (map digit_value s)) most
    then Some (number_from_digits 10 (map digit_value s)) else None

-- the name of a manifest, a file or a segment
abbrev pub name_of : List ℕ → Option (List ℕ)
name_of s = if is_name s then Some s else None

-- the name of a mount: at most 64 bytes
abbrev pub mount_name : List ℕ → Option (List ℕ)
mount_name s = if is_name s && nat_le (length s) 64 then Some s else None

-- at least one byte
abbrev pub some_bytes : List ℕ → Option (List ℕ)
some_bytes [] = None
some_bytes (b ∷ bs) = Some (b ∷ bs)
