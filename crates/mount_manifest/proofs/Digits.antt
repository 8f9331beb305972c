-- A name with a part's number behind it is a name.
use Rattle.std.proofs.Common.{◌≡◌, ℕ, ◌+◌, ◌<◌, ◌≤◌, ◌^◌, List, ◌++◌, true, ◌&&◌, length, arith, ◌∙◌, refl, length-append, ◌%◌}
use Rattle.std.specs.Prelude.{codes, nat_le}
use Rattle.std.specs.Fmt.{decimal}
use Rattle.std.specs.List.{list_all}
use Rattle.std.proofs.lemmas.Bool.{and_from, and_parts}
use Rattle.std.proofs.lemmas.Bool.Decides.{nat_tests}
use Rattle.std.proofs.lemmas.Fmt.{decimal_by_steps, length-decimal-le}
use Rattle.std.proofs.lemmas.List.Folds.{list_all-append}
use Rattle.std.proofs.lemmas.Nat.{mod_below}
use Rattle.byte_text.specs.Names.{is_name_byte, is_name}

digit_name : (d : ℕ) → d < 10 → is_name_byte (48 + d) ≡ true
digit_name d h = grind (arith, nat_tests)

all_from : (xs ys : List ℕ) → list_all is_name_byte xs ≡ true → list_all is_name_byte ys ≡ true → list_all is_name_byte (xs ++ ys) ≡ true
all_from xs ys p q = list_all-append is_name_byte xs ys ∙ and_from _ _ p q

decimal_name : (n : ℕ) → n < 2 ^ 64 → list_all is_name_byte (decimal n) ≡ true
decimal_name n h = decimal_by_steps (λ m ds. list_all is_name_byte ds ≡ true) (λ m small. and_from _ _ (digit_name m small) refl)
    (λ m ds big before. all_from ds _ before (and_from _ _ (digit_name (m % 10) (mod_below m 10 (omega arith))) refl)) n h

pub part_is_name : (name : List ℕ) (k : ℕ) → is_name name ≡ true → length name ≤ 200 → k < 2 ^ 64 → is_name (name ++ (codes ".part" ++ decimal k)) ≡ true
part_is_name name k own short fits =
    let parts = and_parts (nat_le 1 (length name) && nat_le (length name) 255) (list_all is_name_byte name) own in
    let bounds = and_parts (nat_le 1 (length name)) (nat_le (length name) 255) parts.0 in
    let tail : List ℕ = codes ".part" ++ decimal k in
    let digits : length (decimal k) ≤ 20 = length-decimal-le 20 k (omega arith) (omega arith) fits in
    let size : length (name ++ tail) ≡ length name + (5 + length (decimal k)) = rw (length-append name tail) (omega arith) in
    let letters : list_all is_name_byte (name ++ tail) ≡ true = all_from name tail parts.1 (decimal_name k fits) in
    let least : nat_le 1 (length (name ++ tail)) ≡ true = grind (arith, nat_tests) in
    let most : nat_le (length (name ++ tail)) 255 ≡ true = grind (arith, nat_tests) in
    and_from _ _ (and_from _ _ least most) letters
