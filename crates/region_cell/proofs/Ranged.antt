-- Each call keeps a cell's states and tickets as every cell has them.
use Rattle.std.proofs.Common.{arith, ◌≡◌, ◌<◌, ◌≤◌, ◌+◌, ◌-◌, ◌/◌, ℕ, true, false, List, length, sym, ◌∙◌, ap, inl, inr, refl, Option, Some, None}
use Rattle.std.specs.Prelude.{◌&&◌, ◌||◌, if◌then◌else◌, nat_lt, map, slice_get}
use Rattle.std.specs.List.{list_any}
use Rattle.std.proofs.lemmas.Bool.{cases_lt, cases_Bool}
use Rattle.std.proofs.lemmas.List.{length-map}
use Rattle.std.proofs.lemmas.Option.{slice_get_within}
use Rattle.region_ranges.specs.declared.ranges.ByteRange.{ByteRange}
use Rattle.region_ranges.specs.Ranges.{inside, aligned}
use Rattle.region_ranges.proofs.Walks.{inside_is}
use Rattle.sparse_tracker.specs.declared.tickets.Ticket.{Ticket}
use Rattle.sparse_tracker.specs.ByteStates as byte_states
use Rattle.sparse_tracker.specs.ByteStates.{ByteState, absent, pending, present, is_absent, is_under, change, Tracker, open_gap, open_gap_at, with_ticket, new_ticket, fail_ticket, lacks, least_unused, ids}
use Rattle.sparse_tracker.specs.Places.{ClaimPlaces}
use Rattle.region_cell.specs.Cells.{Region, len_of, IsRanged, assign, claim, claim_run, range_round, progress, fail, leave}
use Rattle.region_cell.proofs.Places.{slot_change, slot_map, slot_behind, slot_without, length_change, Spot, spot_of, spot_from, is_absent_gives}
use Rattle.region_cell.proofs.Orders.{order_new, order_map, order_progress, order_claim, reaches, part_gives, part_is}

-- an absent byte of the sub-range, by its place
pub lacks_from : (t : Tracker) (k : Ticket) (i : ℕ) → k.start ≤ i → i < k.end → slice_get t.byte_states i ≡ Some absent → lacks (record { start = k.start; end = k.end }) t ≡ true
lacks_from t k i a b e = spot_from is_absent t.byte_states k.start k.end i absent a b e refl

pub lacks_at : (t : Tracker) (sub : ByteRange) → lacks sub t ≡ true → Spot is_absent t.byte_states sub.start sub.end
lacks_at t sub h = spot_of is_absent t.byte_states sub.start sub.end h

spot_absent : (ls : List ByteState) (start end : ℕ) (s : Spot is_absent ls start end) → slice_get ls s.at ≡ Some absent
spot_absent ls start end s = s.here ∙ ap Some (is_absent_gives s.byte_state s.kind)

-- ---- a new key

pub ranged_assign : (range tag len : ℕ) (c : Region) → IsRanged range (assign tag len c)
ranged_assign range tag len c = record {
  order = order_new range len;
  tickets = λ j k e. absurd (cc);
  marked = λ j k e h. absurd (cc);
}

-- ---- progress and leave

absent_before : (g to : ℕ) (ls : List ByteState) (i : ℕ) → slice_get (change (λ i l. if is_under g l && nat_lt i to then present else l) ls) i ≡ Some absent → slice_get ls i ≡ Some absent
absent_before g to ls i e =
    let x = slot_change (λ i l. if is_under g l && nat_lt i to then present else l) 0 ls i absent e in
    elim (cases_Bool (is_under g x.0 && nat_lt (0 + i) to)) [
      | inl t ↦ absurd (let r = rw t at x.2 in cc)
      | inr t ↦ let r : x.0 ≡ absent = rw t at x.2 in x.1 ∙ ap Some r
    ]

pub ranged_progress : (range g to : ℕ) (c : Region) → IsRanged range c → IsRanged range (progress g to c)
ranged_progress range g to c r =
    let ls = c.tracker.byte_states in
    let len : length (change (λ i l. if is_under g l && nat_lt i to then present else l) ls) ≡ length ls = length_change _ 0 ls in
    record {
      order = order_progress range g to ls r.order;
      tickets = λ j k e. (let t = r.tickets j k e in (t.0, omega (arith, t, len), t.2));
      marked = λ j k e h.
          let s = lacks_at (progress g to c).tracker (record { start = k.start; end = k.end }) h in
          let a = absent_before g to ls s.at (spot_absent _ _ _ s) in
          r.marked j k e (lacks_from c.tracker k s.at s.within.0 s.within.1 a);
    }

pub ranged_leave : (range n : ℕ) (c : Region) → IsRanged range c → IsRanged range (leave n c)
ranged_leave range n c r = record {
  order = r.order;
  tickets = λ j k e. (let x = slot_without n c.tracker.tickets j k e in r.tickets x.0 k x.1);
  marked = λ j k e h. (let x = slot_without n c.tracker.tickets j k e in r.marked x.0 k x.1 h);
}

-- ---- failure

pub ranged_fail : (range g : ℕ) (c : Region) → IsRanged range c → IsRanged range (fail g c)
ranged_fail range g c r =
    let ls = c.tracker.byte_states in
    let lost : ByteState → ByteState = λ l. if is_under g l then absent else l in
    let len : length (map (λ l. if is_under g l then absent else l) ls) ≡ length ls = length-map ls (λ l. if is_under g l then absent else l) in
    record {
      order = order_map range (λ l. if is_under g l then absent else l) ls refl r.order;
      tickets = λ j k e.
          let x = slot_map (fail_ticket g ls) c.tracker.tickets j k e in
          let t = r.tickets j x.0 x.1 in
          let begins : x.0.start ≡ k.start = ap (λ (y : Ticket). y.start) x.2 in
          let ends : x.0.end ≡ k.end = ap (λ (y : Ticket). y.end) x.2 in
          let front : x.0.start / range ≡ k.start / range = ap (λ (y : ℕ). y / range) begins in
          let back : (x.0.end - 1) / range ≡ (k.end - 1) / range = ap (λ (y : ℕ). (y - 1) / range) ends in
          (omega (arith, t, begins, ends), omega (arith, t, len, ends), sym front ∙ t.2 ∙ back);
      marked = λ j k e h.
          let x = slot_map (fail_ticket g ls) c.tracker.tickets j k e in
          let begins : x.0.start ≡ k.start = ap (λ (y : Ticket). y.start) x.2 in
          let ends : x.0.end ≡ k.end = ap (λ (y : Ticket). y.end) x.2 in
          let s = lacks_at (fail g c).tracker (record { start = k.start; end = k.end }) h in
          let y = slot_map (λ l. if is_under g l then absent else l) ls s.at absent (spot_absent _ _ _ s) in
          let failed : (x.0.failed || list_any (is_under g) (byte_states.byte_states_in x.0.start x.0.end ls)) ≡ k.failed = ap (λ (z : Ticket). z.failed) x.2 in
          sym failed ∙ elim (cases_Bool (is_under g y.0)) [
            | inl u ↦
                let any = spot_from (is_under g) ls x.0.start x.0.end s.at y.0 (omega (arith, begins, s.within)) (omega (arith, ends, s.within)) y.1 u in
                elim (cases_Bool x.0.failed) [ inl v ↦ rw v refl | inr v ↦ rw (v, any) refl ]
            | inr u ↦
                let a : y.0 ≡ absent = rw u at y.2 in
                let was = r.marked j x.0 x.1 (lacks_from c.tracker x.0 s.at (omega (arith, begins, s.within)) (omega (arith, ends, s.within)) (y.1 ∙ ap Some a)) in
                rw was refl
          ];
    }

-- ---- claims

module _ (range : ℕ) (sub : ByteRange) (c : Region) (places : ClaimPlaces) (some : 0 < range) (r : IsRanged range c)
    (first : sub.start < sub.end) (most : sub.end ≤ len_of c) (one : sub.start / range ≡ (sub.end - 1) / range) where
  round : (aligned sub.start range (len_of c)).start ≤ sub.start
  round = (part_gives sub.start range (sub.start / range) some refl).0

  ends_in : sub.end ≤ (aligned sub.start range (len_of c)).end
  ends_in = let p = part_gives (sub.end - 1) range (sub.start / range) some (sym one) in omega (arith, p)

  top : (aligned sub.start range (len_of c)).end ≤ len_of c
  top = omega arith

  inside_sub : (i : ℕ) → sub.start ≤ i → i < sub.end → i / range ≡ sub.start / range
  inside_sub i a b =
      let p = part_gives sub.start range (sub.start / range) some refl in
      let q = part_gives (sub.end - 1) range (sub.start / range) some (sym one) in
      part_is i range (sub.start / range) (omega (arith, p)) (omega (arith, q))

  -- what is absent after the claim was absent before, and is not in the run
  taken : (run : ByteRange) (g i : ℕ) → slice_get (change (λ i l. if inside run i then pending g else l) c.tracker.byte_states) i ≡ Some absent → (inside run i ≡ false) × (slice_get c.tracker.byte_states i ≡ Some absent)
  taken run g i f =
      let x = slot_change (λ i l. if inside run i then pending g else l) 0 c.tracker.byte_states i absent f in
      let z : 0 + i ≡ i = omega arith in
      let y : (if inside run i then pending g else x.0) ≡ absent = ap (λ (n : ℕ). if inside run n then pending g else x.0) (sym z) ∙ x.2 in
      elim (cases_Bool (inside run i)) [
        | inl t ↦ absurd (let w = rw t at y in cc)
        | inr t ↦ let w : x.0 ≡ absent = rw t at y in (t, x.1 ∙ ap Some w)
      ]

  -- the new ticket's bytes lie in one aligned range
  fits : (k : Ticket) (n len : ℕ) → record { number = n; start = sub.start; end = sub.end; failed = false } ≡ k → len ≡ len_of c → (k.start < k.end) × (k.end ≤ len) × (k.start / range ≡ (k.end - 1) / range)
  fits k n len e l =
      let begins : sub.start ≡ k.start = ap (λ (y : Ticket). y.start) e in
      let ends : sub.end ≡ k.end = ap (λ (y : Ticket). y.end) e in
      let front : sub.start / range ≡ k.start / range = ap (λ (y : ℕ). y / range) begins in
      let back : (sub.end - 1) / range ≡ (k.end - 1) / range = ap (λ (y : ℕ). (y - 1) / range) ends in
      (omega (arith, begins, ends), omega (arith, ends, l), sym front ∙ one ∙ back)

  joined : claim_run range sub c ≡ None → IsRanged range (record c { tracker = with_ticket sub c.tracker })
  joined e = record {
    order = r.order;
    tickets = λ j k f. (elim (slot_behind c.tracker.tickets (new_ticket sub c.tracker) k j f) [
      | inl o ↦ r.tickets j k o
      | inr n ↦ fits k _ _ n refl
    ]);
    marked = λ j k f h. (elim (slot_behind c.tracker.tickets (new_ticket sub c.tracker) k j f) [
      | inl o ↦ r.marked j k o h
      | inr n ↦
          let begins : sub.start ≡ k.start = ap (λ (y : Ticket). y.start) n in
          let ends : sub.end ≡ k.end = ap (λ (y : Ticket). y.end) n in
          let s = lacks_at c.tracker (record { start = k.start; end = k.end }) h in
          absurd (places.none (range_round range sub c) sub c.tracker round ends_in top e s.at (omega (arith, begins, s.within)) (omega (arith, ends, s.within)) (spot_absent _ _ _ s))
    ]);
  }

  opened : (run : ByteRange) → claim_run range sub c ≡ Some run → IsRanged range (record c { tracker = with_ticket sub (open_gap run c.tracker) })
  opened run e =
      let t = c.tracker in
      let ls = c.tracker.byte_states in
      let g = least_unused (ids t.gaps) in
      let p = places.some (range_round range sub c) sub run t round first ends_in top e in
      let at = p.0 in
      let free = p.1.0 in
      let run_round = p.1.1 in
      let len : length (change (λ i l. if inside run i then pending g else l) ls) ≡ length ls = length_change _ 0 ls in
      let was : (i : ℕ) → slice_get (change (λ i l. if inside run i then pending g else l) ls) i ≡ Some absent → (inside run i ≡ false) × (slice_get ls i ≡ Some absent) = λ i f. taken run g i f in
      record {
        order = order_claim range sub.start g at ls run some r.order run_round;
        tickets = λ j k f. (elim (slot_behind t.tickets (new_ticket sub (open_gap run t)) k j f) [
          | inl o ↦ let x = r.tickets j k o in (x.0, omega (arith, x, len), x.2)
          | inr n ↦ fits k _ _ n len
        ]);
        marked = λ j k f h. (elim (slot_behind t.tickets (new_ticket sub (open_gap run t)) k j f) [
          | inl o ↦
              let s = lacks_at (open_gap run t) (record { start = k.start; end = k.end }) h in
              let a = was s.at (spot_absent _ _ _ s) in
              r.marked j k o (lacks_from t k s.at s.within.0 s.within.1 a.1)
          | inr n ↦
              let begins : sub.start ≡ k.start = ap (λ (y : Ticket). y.start) n in
              let ends : sub.end ≡ k.end = ap (λ (y : Ticket). y.end) n in
              let s = lacks_at (open_gap run t) (record { start = k.start; end = k.end }) h in
              let a = was s.at (spot_absent _ _ _ s) in
              let low : sub.start ≤ s.at = omega (arith, begins, s.within) in
              let high : s.at < sub.end = omega (arith, ends, s.within) in
              let behind : at ≤ s.at = elim (cases_lt s.at at) [ inl l ↦ absurd (free.before s.at low l a.1) | inr l ↦ l ] in
              let z = reaches range sub.start g at ls run some r.order run_round s.at (omega (arith, run_round.within)) (slice_get_within ls s.at absent a.1) (inside_sub s.at low high) in
              absurd (let i = inside_is run s.at (omega (arith, run_round.within)) z in let w : true ≡ false = sym i ∙ a.0 in cc)
        ]);
      }

  claimed : (o : Option ByteRange) → claim_run range sub c ≡ o → IsRanged range (record c { tracker = with_ticket sub (open_gap_at o c.tracker) })
  claimed None e = joined e
  claimed (Some run) e = opened run e

  pub ranged_claim : IsRanged range (claim range sub c)
  ranged_claim = claimed (claim_run range sub c) refl
