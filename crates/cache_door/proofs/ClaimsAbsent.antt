-- What an entry claims was absent.
use Rattle.std.proofs.Common.{arith, ◌≡◌, ◌<◌, ◌≤◌, ◌-◌, ◌/◌, ℕ, zero, suc, Bool, false, List, sym, subst, inl, inr, refl, Option, Some, None}
use Rattle.std.specs.Prelude.{◌==◌, slice_get, replicate}
use Rattle.std.proofs.lemmas.List.{get_or-set_same, length-replicate}
use Rattle.std.proofs.lemmas.Bool.{cases_Bool, eqb-true}
use Rattle.region_ranges.specs.declared.ranges.ByteRange.{ByteRange}
use Rattle.region_ranges.specs.Ranges.{aligned}
use Rattle.sparse_tracker.specs.ByteStates.{ByteState, absent}
use Rattle.sparse_tracker.specs.Places.{ClaimPlaces}
use Rattle.freq_lists.specs.Lists.{head}
use Rattle.cache_policy.specs.Policy.{find}
use Rattle.region_ranges.specs.Keys.{tag_of}
use Rattle.region_cell.specs.Cells.{Region, len_of, assign, claim_run, range_round}
use Rattle.region_cell.proofs.Orders.{part_gives}
use Rattle.cache_door.specs.declared.answers.Want.{Want}
use Rattle.cache_door.specs.declared.answers.Entered.TheVariants.{Held, NoRoom, Gone}
use Rattle.cache_door.specs.Machine.{State, Cell, no_cell, cell_at, is_gone, is_held, enter, enter_at, place, make_room}
use Rattle.cache_door.specs.Good.{Good}
use Rattle.cache_door.specs.Doors.{IsWant}
use Rattle.cache_door.proofs.Fronts.{front_there}
use Rattle.cache_door.specs.Laws.{ClaimsAbsent}

pub gone_held : {q : ℕ} {o : Option ByteRange} → Gone ≡ Held q o → ⊥
gone_held e = cc

pub room_held : {q : ℕ} {o : Option ByteRange} → NoRoom ≡ Held q o → ⊥
room_held e = cc

held_is : (r q : ℕ) (o p : Option ByteRange) → Held r o ≡ Held q p → (q ≡ r) × (o ≡ p)
held_is r q o p e = (cc, cc)

-- the run that a claim takes in a cell of the wanted length
run_absent : ClaimPlaces → (range i : ℕ) (want : Want) (c : Region) (g : ByteRange) → 0 < range → want.sub.start < want.sub.end → want.sub.end ≤ len_of c → want.sub.start / range ≡ (want.sub.end - 1) / range
    → claim_run range want.sub c ≡ Some g → g.start ≤ i → i < g.end → slice_get c.tracker.byte_states i ≡ Some absent
run_absent places range i want c g some first most one e low high =
    let p = part_gives want.sub.start range (want.sub.start / range) some refl in
    let q = part_gives (want.sub.end - 1) range (want.sub.start / range) some (sym one) in
    let round : (aligned want.sub.start range (len_of c)).start ≤ want.sub.start = p.0 in
    let ends : want.sub.end ≤ (aligned want.sub.start range (len_of c)).end = omega (arith, q, most, first) in
    let top : (aligned want.sub.start range (len_of c)).end ≤ len_of c = omega arith in
    let x = places.some (range_round range want.sub c) want.sub g c.tracker round first ends top e in
    x.1.1.absent_all i low high

pub entry_absent : ClaimPlaces → ClaimsAbsent
entry_absent places s a mount r q now i want g config w found e low high = elim (cases_Bool (is_gone s mount)) [
  | inl t ↦ absurd (gone_held (rw t at e))
  | inr f ↦
      let there : (enter_at (Some r) a want now s).0 ≡ Held q (Some g) = rw (f, found) at e in
      elim (cases_Bool (len_of (cell_at s r).region == want.len)) [
        | inl y ↦
            let held : Held r (claim_run s.config.range want.sub (cell_at s r).region) ≡ Held q (Some g) = rw y at there in
            let k = held_is r q (claim_run s.config.range want.sub (cell_at s r).region) (Some g) held in
            let l = eqb-true (len_of (cell_at s r).region) want.len y in
            (k.0, run_absent places s.config.range i want (cell_at s r).region g config.range.0 w.sub.0 (omega (arith, l, w.sub.1)) w.sub.2 k.1 low high)
        | inr n ↦ absurd (room_held (rw n at there))
      ]
]

-- a key that is not mapped: the region was held by nobody, and all its bytes are absent
all_absent : (n i : ℕ) (l : ByteState) → slice_get (replicate n absent) i ≡ Some l → l ≡ absent
all_absent zero i l e = absurd (cc)
all_absent (suc n) zero l e = cc
all_absent (suc n) (suc i) l e = all_absent n i l e

module _ (places : ClaimPlaces) {tells : Bool} {files : ℕ → ℕ → List ℕ} (s : State) (good : Good tells files s) (a q now i : ℕ) (want : Want) (g : ByteRange) (w : IsWant s.config want) (low : g.start ≤ i) (high : i < g.end) where
  abbrev new : Region
  new = assign (tag_of want.key) want.len (cell_at s q).region

  placed_absent : (r : ℕ) → head (make_room s).free ≡ Some r → (place a (Some r) (make_room s) want now s).0 ≡ Held q (Some g) → (is_held s q ≡ false) × (slice_get new.tracker.byte_states i ≡ Some absent)
  placed_absent r front e =
      let c : Region = assign (tag_of want.key) want.len (cell_at s r).region in
      let open_is = front_there s good r front in
      let cell : Cell = record { region = c; bytes = (cell_at s r).bytes } in
      let here = get_or-set_same s.cells r cell no_cell open_is.0 in
      let P : Cell → Type 0 = λ x. Held r (claim_run s.config.range want.sub x.region) ≡ Held q (Some g) in
      let k = held_is r q (claim_run s.config.range want.sub c) (Some g) (subst P here e) in
      let Q : ℕ → Type 0 = λ n. is_held s n ≡ false in
      let l = length-replicate want.len absent in
      (subst Q (sym k.0) open_is.1, run_absent places s.config.range i want c g good.config.range.0 w.sub.0 (omega (arith, l, w.sub.1)) w.sub.2 k.1 low high)

  found_front : (o : Option ℕ) → head (make_room s).free ≡ o → (place a o (make_room s) want now s).0 ≡ Held q (Some g) → (is_held s q ≡ false) × (slice_get new.tracker.byte_states i ≡ Some absent)
  found_front None front e = absurd (room_held e)
  found_front (Some r) front e = placed_absent r front e

  pub new_absent : (mount : ℕ) → find (tag_of want.key) s.policy ≡ None → (enter a mount want now s).0 ≡ Held q (Some g) → (is_held s q ≡ false) × (slice_get new.tracker.byte_states i ≡ Some absent)
  new_absent mount found e = elim (cases_Bool (is_gone s mount)) [
    | inl t ↦ absurd (gone_held (rw t at e))
    | inr f ↦ found_front (head (make_room s).free) refl (rw (f, found) at e)
  ]
