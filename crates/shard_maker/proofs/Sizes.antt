-- The text of the rows that are made has less than 2^32 bytes.
use Rattle.std.proofs.Common.{◌≡◌, ◌≤◌, ◌<◌, ◌+◌, ◌*◌, ◌/◌, ◌%◌, arith, ℕ, List, [], ◌∷◌, ◌++◌, map, length, length-append, Bool, true, false, Option, Some, None}
use Rattle.std.specs.Prelude.{if◌then◌else◌, codes, filter}
use Rattle.std.specs.List.{range_with_len}
use Rattle.std.specs.Fmt.{decimal}
use Rattle.std.proofs.lemmas.Fmt.{length-decimal-le}
use Rattle.std.proofs.Math.Nat.{mod-lt}
use Rattle.std.proofs.lemmas.List.FromFn.{length-range_with_len}
use Rattle.text_lines.specs.Escapes.{escape}
use Rattle.simpletext_postings.specs.declared.rows.Row.{Row}
use Rattle.simpletext_postings.specs.Rows.{RiseWithin}
use Rattle.simpletext_postings.specs.Written.{name_line, number_line, is_in_field, is_in_term, field_lines, term_lines, frequency_line, position_line, row_lines, rows_lines, written}
use Rattle.shard_maker.specs.MadeRows.{term_name, pair_row, is_had, made_rows}
use Rattle.shard_maker.specs.Made.{AreLimits}
use Rattle.shard_maker.proofs.Names.{escape_short}
use Rattle.shard_maker.proofs.Lists.{filter_shorter}
use Rattle.shard_maker.proofs.Rising.{term_small, rise_filter, within_limits}

number_short : (mark : List ℕ) (n : ℕ) → n < 100000 → length (number_line mark n) ≤ length mark + 6
number_short mark n h =
    let digits : length (decimal n) ≤ 5 = length-decimal-le 5 n (omega arith) (omega (arith, h)) (omega (arith, h)) in
    let all : length (number_line mark n) ≡ length (mark ++ decimal n) + 1 = length-append (mark ++ decimal n) (10 ∷ []) in
    let front : length (mark ++ decimal n) ≡ length mark + length (decimal n) = length-append mark (decimal n) in
    omega (arith, digits, all, front)

name_short : (mark name : List ℕ) → length (name_line mark name) ≤ length mark + 2 * length name + 1
name_short mark name =
    let short = escape_short name in
    let all : length (name_line mark name) ≡ length (mark ++ escape name) + 1 = length-append (mark ++ escape name) (10 ∷ []) in
    let front : length (mark ++ escape name) ≡ length mark + length (escape name) = length-append mark (escape name) in
    omega (arith, short, all, front)

if_short : (b : Bool) (xs : List ℕ) (n : ℕ) → length xs ≤ n → length (if b then [] else xs) ≤ n
if_short true xs n h = omega arith
if_short false xs n h = h

four : (a b c d : List ℕ) → length (((a ++ b) ++ c) ++ d) ≡ length a + (length b + (length c + length d))
four a b c d =
    let x : length (((a ++ b) ++ c) ++ d) ≡ length ((a ++ b) ++ c) + length d = length-append ((a ++ b) ++ c) d in
    let y : length ((a ++ b) ++ c) ≡ length (a ++ b) + length c = length-append (a ++ b) c in
    let z : length (a ++ b) ≡ length a + length b = length-append a b in
    omega (arith, x, y, z)

module _ (docs : ℕ) (some : 0 < docs) (few : docs ≤ 100000) where
  row_short : (before : Option Row) (n : ℕ) → n < 100000 * docs → length (row_lines before (pair_row docs n)) ≤ 128
  row_short before n h =
      let doc = mod-lt n {m = docs} some in
      let term = term_small docs some few n h in
      let field = if_short (is_in_field before (pair_row docs n)) (name_line (codes "field ") (codes "body")) 15 (name_short (codes "field ") (codes "body")) in
      let name = if_short (is_in_term before (pair_row docs n)) (name_line (codes "  term ") (term_name (n / docs))) 20 (name_short (codes "  term ") (term_name (n / docs))) in
      let number = number_short (codes "    doc ") (n % docs) (omega (arith, doc, few)) in
      let frequency = number_short (codes "      freq ") 1 (omega arith) in
      let position = number_short (codes "      pos ") (n / docs) term in
      let line : List ℕ = position_line (n / docs) ++ [] in
      let positions : length (frequency_line 1 ++ line) ≡ length (frequency_line 1) + length line = length-append (frequency_line 1) line in
      let only : length line ≡ length (position_line (n / docs)) + 0 = length-append (position_line (n / docs)) [] in
      let all = four (field_lines before (pair_row docs n)) (term_lines before (pair_row docs n)) (number_line (codes "    doc ") (n % docs)) (frequency_line 1 ++ line) in
      omega (arith, field, name, number, frequency, position, positions, only, all)

  rows_short : (before : Option Row) (low : ℕ) (ns : List ℕ) → RiseWithin low (100000 * docs) ns → length (rows_lines before (map (pair_row docs) ns)) ≤ 128 * length ns
  rows_short before low [] r = omega arith
  rows_short before low (n ∷ ns) r =
      let here = row_short before n r.1 in
      let later = rows_short (Some (pair_row docs n)) (n + 1) ns r.2 in
      let all = length-append (row_lines before (pair_row docs n)) (rows_lines (Some (pair_row docs n)) (map (pair_row docs) ns)) in
      omega (arith, here, later, all)

pub text_short : (seed docs terms : ℕ) → AreLimits docs terms → length (written (made_rows seed docs terms)) ≤ 4294967296
text_short seed docs terms limits =
    let numbers : List ℕ = filter (is_had seed) (range_with_len 0 (docs * terms)) in
    let rise = rise_filter (is_had seed) 0 (docs * terms) (100000 * docs) (omega (arith, within_limits docs terms limits.few_terms)) in
    let short = rows_short docs limits.some_docs limits.few_docs None 0 numbers rise in
    let fewer = filter_shorter (is_had seed) (range_with_len 0 (docs * terms)) in
    let count = length-range_with_len 0 (docs * terms) in
    let all = length-append (rows_lines None (made_rows seed docs terms)) (codes "END\nchecksum 00000000000000000000\n") in
    omega (arith, limits.pairs, short, fewer, count, all)
