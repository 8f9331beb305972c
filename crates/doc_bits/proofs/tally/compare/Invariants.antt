use Rattle.std.proofs.Common.{◌≡◌, ℕ, ◌%◌, ◌^◌, ◌<◌, false, length, slice_index_or, nat_le}
use Rattle.doc_bits.specs.Planes.{number, digits_at}
use Rattle.doc_bits.proofs.tally.compare.Given as goal

abbrev pub invariant-loop-digit : goal.invariant-loop-digit
invariant-loop-digit l =
    (length l.out ≡ length l.fn.out)
    × ((i : ℕ) → i < length l.fn.out → slice_index_or l.out i false ≡ nat_le (l.m % 2 ^ l.digit) (number (digits_at l.planes i) % 2 ^ l.digit))
