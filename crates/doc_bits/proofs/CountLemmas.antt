-- No count is above the number of sets that were added.
use Rattle.std.proofs.Common.{◌≡◌, ℕ, ◌+◌, ◌≤◌, Bool, true, false, List, length, get_or, sym, inl, inr, arith}
use Rattle.std.proofs.lemmas.Bool.{cases_lt}
use Rattle.std.proofs.lemmas.List.{get_or_past}
use Rattle.doc_bits.specs.Counts.{counted}
use Rattle.doc_bits.specs.Places.{zip_with}
use Rattle.doc_bits.proofs.Lists.{length-zip_with, get_or-zip_with}

counted_le : (count : ℕ) (b : Bool) → counted count b ≤ count + 1
counted_le count true = omega arith
counted_le count false = omega arith

pub counts_le : (counts : List ℕ) (bits : List Bool) (most : ℕ) → length bits ≡ length counts → ((i : ℕ) → get_or counts i 0 ≤ most)
    → (i : ℕ) → get_or (zip_with counted counts bits) i 0 ≤ most + 1
counts_le counts bits most same each i =
    let zipped = length-zip_with counted counts bits (sym same) in
    elim (cases_lt i (length counts)) [
      | inl within ↦
          let at = get_or-zip_with counted counts bits i 0 false 0 within (omega arith) in
          let few = counted_le (get_or counts i 0) (get_or bits i false) in
          let old = each i in
          omega arith
      | inr past ↦ let at = get_or_past (zip_with counted counts bits) i 0 (omega arith) in omega arith
    ]
