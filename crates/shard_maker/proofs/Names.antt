-- The names of terms rise with their numbers, and are short.
use Rattle.std.proofs.Common.{◌≡◌, ◌<◌, ◌≤◌, ◌+◌, ◌*◌, ◌/◌, ◌%◌, refl, sym, ap, ◌∙◌, arith, ℕ, List, [], ◌∷◌, length, Bool, true, false}
use Rattle.std.specs.Prelude.{◌||◌, ◌==◌, nat_le}
use Rattle.std.specs.Ordering.{nat_cmp, is_lt, ordering_then}
use Rattle.std.specs.Cmp.Lexicographic.{slice_cmp}
use Rattle.std.specs.Cmp.{nat_cmp_is}
use Rattle.std.specs.declared.cmp.Ordering.TheVariants.{Less, Equal}
use Rattle.text_lines.specs.Escapes.{escape, escaped_byte}
use Rattle.std.proofs.lemmas.List.{length-append}
use Rattle.std.proofs.lemmas.Bool.{leb-true, leb-false}
use Rattle.shard_maker.specs.MadeRows.{digit, term_name}

less_here : (a b : ℕ) (xs ys : List ℕ) → a < b → slice_cmp nat_cmp (a ∷ xs) (b ∷ ys) ≡ Less
less_here a b xs ys h = ap (λ o. ordering_then o (slice_cmp nat_cmp xs ys)) (sym (nat_cmp_is a b Less h))

less_later : (a b : ℕ) (xs ys : List ℕ) → a ≡ b → slice_cmp nat_cmp xs ys ≡ Less → slice_cmp nat_cmp (a ∷ xs) (b ∷ ys) ≡ Less
less_later a b xs ys h rest = ap (λ o. ordering_then o (slice_cmp nat_cmp xs ys)) (sym (nat_cmp_is a b Equal h)) ∙ rest

-- the last digits of a name
abbrev ends_1 : ℕ → List ℕ
ends_1 n = digit n 1 ∷ []

abbrev ends_10 : ℕ → List ℕ
ends_10 n = digit n 10 ∷ ends_1 n

abbrev ends_100 : ℕ → List ℕ
ends_100 n = digit n 100 ∷ ends_10 n

abbrev ends_1000 : ℕ → List ℕ
ends_1000 n = digit n 1000 ∷ ends_100 n

abbrev ends_10000 : ℕ → List ℕ
ends_10000 n = digit n 10000 ∷ ends_1000 n

-- they rise, where the digits before them are the same
module _ (t u : ℕ) (rises : t < u) where
  from_1 : t / 10 ≡ u / 10 → slice_cmp nat_cmp (ends_1 t) (ends_1 u) ≡ Less
  from_1 same = less_here (digit t 1) (digit u 1) [] [] (omega (arith, rises, same))

  from_10 : (back : Bool) → nat_le (u / 10) (t / 10) ≡ back → t / 100 ≡ u / 100 → slice_cmp nat_cmp (ends_10 t) (ends_10 u) ≡ Less
  from_10 true e same =
      let equal : t / 10 ≡ u / 10 = omega (arith, rises, leb-true (u / 10) (t / 10) e) in
      less_later (digit t 10) (digit u 10) (ends_1 t) (ends_1 u) (ap (λ q. 48 + q % 10) equal) (from_1 equal)
  from_10 false e same = less_here (digit t 10) (digit u 10) (ends_1 t) (ends_1 u) (omega (arith, leb-false (u / 10) (t / 10) e, same))

  from_100 : (back : Bool) → nat_le (u / 100) (t / 100) ≡ back → t / 1000 ≡ u / 1000 → slice_cmp nat_cmp (ends_100 t) (ends_100 u) ≡ Less
  from_100 true e same =
      let equal : t / 100 ≡ u / 100 = omega (arith, rises, leb-true (u / 100) (t / 100) e) in
      less_later (digit t 100) (digit u 100) (ends_10 t) (ends_10 u) (ap (λ q. 48 + q % 10) equal) (from_10 (nat_le (u / 10) (t / 10)) refl equal)
  from_100 false e same = less_here (digit t 100) (digit u 100) (ends_10 t) (ends_10 u) (omega (arith, leb-false (u / 100) (t / 100) e, same))

  from_1000 : (back : Bool) → nat_le (u / 1000) (t / 1000) ≡ back → t / 10000 ≡ u / 10000 → slice_cmp nat_cmp (ends_1000 t) (ends_1000 u) ≡ Less
  from_1000 true e same =
      let equal : t / 1000 ≡ u / 1000 = omega (arith, rises, leb-true (u / 1000) (t / 1000) e) in
      less_later (digit t 1000) (digit u 1000) (ends_100 t) (ends_100 u) (ap (λ q. 48 + q % 10) equal) (from_100 (nat_le (u / 100) (t / 100)) refl equal)
  from_1000 false e same = less_here (digit t 1000) (digit u 1000) (ends_100 t) (ends_100 u) (omega (arith, leb-false (u / 1000) (t / 1000) e, same))

  from_10000 : (back : Bool) → nat_le (u / 10000) (t / 10000) ≡ back → u < 100000 → slice_cmp nat_cmp (ends_10000 t) (ends_10000 u) ≡ Less
  from_10000 true e small =
      let equal : t / 10000 ≡ u / 10000 = omega (arith, rises, leb-true (u / 10000) (t / 10000) e) in
      less_later (digit t 10000) (digit u 10000) (ends_1000 t) (ends_1000 u) (ap (λ q. 48 + q % 10) equal) (from_1000 (nat_le (u / 1000) (t / 1000)) refl equal)
  from_10000 false e small = less_here (digit t 10000) (digit u 10000) (ends_1000 t) (ends_1000 u) (omega (arith, rises, leb-false (u / 10000) (t / 10000) e, small))

  pub names_rise : u < 100000 → is_lt (slice_cmp nat_cmp (term_name t) (term_name u)) ≡ true
  names_rise small = ap is_lt (less_later 116 116 (ends_10000 t) (ends_10000 u) refl (from_10000 (nat_le (u / 10000) (t / 10000)) refl small))

-- with its escapes a name is at most twice as long
escaped_short : (b : ℕ) (special : Bool) → ((b == 10) || (b == 92)) ≡ special → length (escaped_byte b) ≤ 2
escaped_short b true e = let is : length (escaped_byte b) ≡ 2 = rw e in omega (arith, is)
escaped_short b false e = let is : length (escaped_byte b) ≡ 1 = rw e in omega (arith, is)

pub escape_short : (xs : List ℕ) → length (escape xs) ≤ 2 * length xs
escape_short [] = omega arith
escape_short (b ∷ bs) =
    let here = escaped_short b ((b == 10) || (b == 92)) refl in
    let rest = escape_short bs in
    let both : length (escape (b ∷ bs)) ≡ length (escaped_byte b) + length (escape bs) = length-append (escaped_byte b) (escape bs) in
    omega (arith, here, rest, both)
