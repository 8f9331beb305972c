-- A claim in a cell, the store of its whole gap, and the end of the hold: what is present then.
use Rattle.std.proofs.Common.{arith, ◌≡◌, ◌<◌, ◌≤◌, ◌+◌, ◌-◌, ◌/◌, ℕ, List, sym, ◌∙◌, ap, inl, inr, refl, length, set, get_or, Some}
use Rattle.std.specs.Prelude.{◌&&◌, nat_lt, slice_get, if◌then◌else◌}
use Rattle.std.proofs.lemmas.Bool.{cases_Bool, eq-eqb, lt-ltb}
use Rattle.std.proofs.lemmas.List.{get_or-set_same, get_or-set_other, length-set}
use Rattle.region_ranges.specs.declared.ranges.ByteRange.{ByteRange}
use Rattle.region_ranges.specs.Ranges.{aligned, inside}
use Rattle.region_ranges.proofs.Walks.{inside_is}
use Rattle.sparse_tracker.specs.ByteStates.{ByteState, absent, pending, present, Tracker, is_under, change_from, least_unused, ids, open_gap, progress}
use Rattle.sparse_tracker.specs.Places.{ClaimPlaces}
use Rattle.sparse_tracker.proofs.Spots.{slot_change}
use Rattle.region_cell.specs.Cells.{Region, len_of, claim_run, range_round}
use Rattle.region_cell.proofs.Orders.{part_gives, in_gives}
use Rattle.region_cell.proofs.Places.{length_change}
use Rattle.cache_door.specs.Machine.{Cell, no_cell}

-- ---- the run of a claim

pub record Claimed (c : Region) (g : ByteRange) : Type 0 where
  pub some : g.start < g.end
  pub within : g.end ≤ len_of c
  pub absent_all : (i : ℕ) → g.start ≤ i → i < g.end → slice_get c.tracker.byte_states i ≡ Some absent

pub claimed : ClaimPlaces → (range : ℕ) (sub : ByteRange) (c : Region) → 0 < range → sub.start < sub.end → sub.end ≤ len_of c
    → sub.start / range ≡ (sub.end - 1) / range
    → (g : ByteRange) → claim_run range sub c ≡ Some g → Claimed c g
claimed places range sub c some first most one g e =
    let p = part_gives sub.start range (sub.start / range) some refl in
    let q = part_gives (sub.end - 1) range (sub.start / range) some (sym one) in
    let round : (aligned sub.start range (len_of c)).start ≤ sub.start = p.0 in
    let ends : sub.end ≤ (aligned sub.start range (len_of c)).end = omega (arith, q, most, first) in
    let top : (aligned sub.start range (len_of c)).end ≤ len_of c = omega arith in
    let x = places.some (range_round range sub c) sub g c.tracker round first ends top e in
    let w = x.1.1.within in
    record { some = omega (arith, w); within = omega (arith, w, top); absent_all = x.1.1.absent_all }

-- ---- states

abbrev opened_state : ℕ → ByteRange → ℕ → ByteState → ByteState
opened_state g run i l = if inside run i then pending g else l

abbrev moved_state : ℕ → ℕ → ℕ → ByteState → ByteState
moved_state g to i l = if is_under g l && nat_lt i to then present else l

changed : (f : ℕ → ByteState → ByteState) (ls : List ByteState) (i : ℕ) (l : ByteState) → slice_get ls i ≡ Some l
    → slice_get (change_from 0 f ls) i ≡ Some (f i l)
changed f ls i l e = let z : 0 + i ≡ i = omega arith in slot_change f 0 ls i l e ∙ ap (λ (k : ℕ). Some (f k l)) z

pub absent_present : Some absent ≡ Some present → ⊥
absent_present e = cc

-- the gap of a claim, moved to `to`
module _ (run : ByteRange) (to : ℕ) (t : Tracker) where
  abbrev g : ℕ
  g = least_unused (ids t.gaps)

  abbrev pub gone_through : Tracker
  gone_through = progress g to (open_gap run t)

  pub through_len : length gone_through.byte_states ≡ length t.byte_states
  through_len = length_change (moved_state g to) 0 (open_gap run t).byte_states ∙ length_change (opened_state g run) 0 t.byte_states

  pub through_filled : (i : ℕ) → run.start ≤ i → i < run.end → i < to → slice_get t.byte_states i ≡ Some absent
      → slice_get gone_through.byte_states i ≡ Some present
  through_filled i low high less e =
      let a : slice_get (open_gap run t).byte_states i ≡ Some (pending g) = changed (opened_state g run) t.byte_states i absent e
      ∙ rw (inside_is run i low high) refl in
      changed (moved_state g to) (open_gap run t).byte_states i (pending g) a ∙ rw (eq-eqb g g refl, lt-ltb i to less) refl

  pub through_stays : (i : ℕ) → ((j : ℕ) → run.start ≤ j → j < run.end → slice_get t.byte_states j ≡ Some absent) → slice_get t.byte_states i ≡ Some present
      → slice_get gone_through.byte_states i ≡ Some present
  through_stays i all e = elim (cases_Bool (inside run i)) [
    | inl y ↦ let w = in_gives run i y in absurd (absent_present (sym (all i w.0 w.1) ∙ e))
    | inr n ↦
        let a : slice_get (open_gap run t).byte_states i ≡ Some present = changed (opened_state g run) t.byte_states i present e ∙ rw n refl in
        changed (moved_state g to) (open_gap run t).byte_states i present a
  ]

-- ---- cells

-- one cell is changed
abbrev pub changed_at : ℕ → (Cell → Cell) → List Cell → List Cell
changed_at r f cs = set cs r (f (get_or cs r no_cell))

module _ (r : ℕ) (cs : List Cell) (within : r < length cs) where
  pub changed_here : (f : Cell → Cell) → get_or (changed_at r f cs) r no_cell ≡ f (get_or cs r no_cell)
  changed_here f = get_or-set_same cs r (f (get_or cs r no_cell)) no_cell within

  pub changed_there : (f : Cell → Cell) (k : ℕ) → ¬ (k ≡ r) → get_or (changed_at r f cs) k no_cell ≡ get_or cs k no_cell
  changed_there f k n = get_or-set_other cs r k (f (get_or cs r no_cell)) no_cell n

  pub changed_length : (f : Cell → Cell) → length (changed_at r f cs) ≡ length cs
  changed_length f = length-set cs r (f (get_or cs r no_cell))

-- region r's cell is `c` now, and each other one is as before
pub record OneCell (r : ℕ) (c : Cell) (cs ds : List Cell) : Type 0 where
  pub cells : length ds ≡ length cs
  pub here : get_or ds r no_cell ≡ c
  pub there : (k : ℕ) → ¬ (k ≡ r) → get_or ds k no_cell ≡ get_or cs k no_cell

pub one_cell : (r : ℕ) (cs : List Cell) (f : Cell → Cell) → r < length cs → OneCell r (f (get_or cs r no_cell)) cs (changed_at r f cs)
one_cell r cs f within = record { cells = changed_length r cs within f; here = changed_here r cs within f; there = changed_there r cs within f }

pub two_cells : (r : ℕ) (cs ds : List Cell) (c : Cell) (f : Cell → Cell) → r < length cs → OneCell r c cs ds → OneCell r (f c) cs (changed_at r f ds)
two_cells r cs ds c f within h =
    let inside : r < length ds = omega (arith, within, h.cells) in
    let k = one_cell r ds f inside in
    record { cells = k.cells ∙ h.cells; here = k.here ∙ ap f h.here; there = λ j n. k.there j n ∙ h.there j n }
