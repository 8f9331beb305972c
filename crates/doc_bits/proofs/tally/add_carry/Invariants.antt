use Rattle.std.proofs.Common.{◌≡◌, ℕ, ◌+◌, ◌*◌, ◌^◌, ◌<◌, Bool, false, cond, List, length, slice_index_or, All}
use Rattle.doc_bits.specs.Planes.{number, digits_at}
use Rattle.doc_bits.proofs.tally.add_carry.Given as goal

abbrev pub invariant-loop-p : goal.invariant-loop-p
invariant-loop-p l =
    (length l.carry ≡ length l.fn.carry)
    × All (λ (plane : List Bool). length plane ≡ length l.fn.carry) l.planes
    × ((i : ℕ) → i < length l.fn.carry → number (digits_at l.planes i) + 2 ^ l.p * cond (slice_index_or l.carry i false) 1 0 ≡ number (digits_at l.fn.planes i) + cond (slice_index_or l.fn.carry i false) 1 0)
