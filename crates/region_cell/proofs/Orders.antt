-- Each call keeps the order of states in each aligned range.
use Rattle.std.proofs.Common.{arith, ◌≡◌, ◌<◌, ◌≤◌, ◌+◌, ◌-◌, ◌*◌, ◌/◌, ℕ, true, false, List, length, sym, ◌∙◌, ap, inl, inr, refl, Some}
use Rattle.std.specs.Prelude.{◌&&◌, if◌then◌else◌, nat_lt, map, slice_get, replicate}
use Rattle.std.proofs.lemmas.Bool.{cases_lt, cases_Bool}
use Rattle.std.proofs.lemmas.Bool.Decides.{nat_tests}
use Rattle.std.proofs.Math.Nat.{div-mul-le_self, lt-div-mul-add}
use Rattle.std.proofs.lemmas.Nat.{div-mul-add}
use Rattle.std.proofs.lemmas.Option.{slice_get_within}
use Rattle.region_ranges.specs.declared.ranges.ByteRange.{ByteRange}
use Rattle.region_ranges.specs.Ranges.{inside, aligned}
use Rattle.region_ranges.proofs.Walks.{inside_is}
use Rattle.sparse_tracker.specs.ByteStates.{ByteState, absent, pending, present, is_under, change}
use Rattle.sparse_tracker.specs.Places.{IsRunRound}
use Rattle.region_cell.specs.Cells.{InOrder}
use Rattle.region_cell.proofs.Places.{slot_change, slot_map, slot_replicate, byte_state_here}

-- ---- division

pub part_gives : (i range k : ℕ) → 0 < range → i / range ≡ k → (k * range ≤ i) × (i < k * range + range)
part_gives i range k h e =
    let m : i / range * range ≡ k * range = ap (λ (x : ℕ). x * range) e in
    let a = div-mul-le_self i range in
    let b : i < i / range * range + range = lt-div-mul-add {a = i} h in
    (omega (arith, m, a), omega (arith, m, b))

pub part_is : (i range k : ℕ) → k * range ≤ i → i < k * range + range → i / range ≡ k
part_is i range k a b = let e : k * range + (i - k * range) ≡ i = omega arith in ap (λ (x : ℕ). x / range) (sym e) ∙ div-mul-add k range (i - k * range) (omega arith)

-- ---- new states, progress and failure

pub order_new : (range len : ℕ) → InOrder range (replicate len absent)
order_new range len i j a b l e f h =
    let x = slot_replicate len absent a i e in
    let y = slot_replicate len absent b j f in
    inr (sym y ∙ x)

-- states that are each turned into another, where a present one stays
pub order_map : (range : ℕ) (f : ByteState → ByteState) (ls : List ByteState) → f present ≡ present → InOrder range ls → InOrder range (map f ls)
order_map range f ls p old i j a b l e k h =
    let x = slot_map f ls i a e in
    let y = slot_map f ls j b k in
    elim (old i j x.0 y.0 l x.1 y.1 h) [
      | inl q ↦ inl (sym x.2 ∙ ap f q ∙ p)
      | inr q ↦ inr (sym y.2 ∙ ap f q ∙ x.2)
    ]

pub order_progress : (range g to : ℕ) (ls : List ByteState) → InOrder range ls → InOrder range (change (λ i l. if is_under g l && nat_lt i to then present else l) ls)
order_progress range g to ls old i j a b l e k h =
    let f : ℕ → ByteState → ByteState = λ n z. if is_under g z && nat_lt n to then present else z in
    let zi : 0 + i ≡ i = omega arith in
    let zj : 0 + j ≡ j = omega arith in
    let x = slot_change f 0 ls i a e in
    let y = slot_change f 0 ls j b k in
    let xi : f i x.0 ≡ a = ap (λ (n : ℕ). f n x.0) (sym zi) ∙ x.2 in
    let yj : f j y.0 ≡ b = ap (λ (n : ℕ). f n y.0) (sym zj) ∙ y.2 in
    elim (old i j x.0 y.0 l x.1 y.1 h) [
      | inl q ↦ inl (sym xi ∙ ap (f i) q)
      | inr q ↦
          let yx : f j x.0 ≡ b = ap (f j) (sym q) ∙ yj in
          elim (cases_Bool (is_under g x.0)) [
            | inl u ↦ elim (cases_lt i to) [
              | inl m ↦
                  let t : nat_lt i to ≡ true = grind (arith, nat_tests) in
                  inl (sym xi ∙ rw (u, t) refl)
              | inr m ↦
                  let t : nat_lt i to ≡ false = grind (arith, nat_tests) in
                  let s : nat_lt j to ≡ false = grind (arith, nat_tests) in
                  let p : f i x.0 ≡ x.0 = rw (u, t) refl in
                  let r : f j x.0 ≡ x.0 = rw (u, s) refl in
                  inr (sym yx ∙ r ∙ sym p ∙ xi)
            ]
            | inr u ↦
                let p : f i x.0 ≡ x.0 = rw u refl in
                let r : f j x.0 ≡ x.0 = rw u refl in
                inr (sym yx ∙ r ∙ sym p ∙ xi)
          ]
    ]

-- ---- claims

pub in_gives : (r : ByteRange) (i : ℕ) → inside r i ≡ true → (r.start ≤ i) × (i < r.end)
in_gives r i h = (grind (arith, nat_tests), grind (arith, nat_tests))

module _ (range start g at : ℕ) (ls : List ByteState) (run : ByteRange) (some : 0 < range) (old : InOrder range ls)
    (round : IsRunRound ls (aligned start range (length ls)) at run) where
  part : ℕ
  part = start / range

  -- the places of the aligned range
  within : (i : ℕ) → (aligned start range (length ls)).start ≤ i → i < (aligned start range (length ls)).end → i / range ≡ start / range
  within i a b = part_is i range (start / range) a (omega arith)

  low : (i : ℕ) → i / range ≡ start / range → (aligned start range (length ls)).start ≤ i
  low i e = (part_gives i range (start / range) some e).0

  high : (i : ℕ) → i < length ls → i / range ≡ start / range → i < (aligned start range (length ls)).end
  high i l e = let p = part_gives i range (start / range) some e in omega (arith, p)

  here : (i : ℕ) → run.start ≤ i → i < run.end → i / range ≡ start / range
  here i a b = within i (omega (arith, round.within)) (omega (arith, round.within))

  most : run.end ≤ length ls
  most = omega (arith, round.within)

  -- the run reaches the end of its aligned range
  pub reaches : (j : ℕ) → run.start ≤ j → j < length ls → j / range ≡ start / range → j < run.end
  reaches j a b e = elim (cases_lt j run.end) [
    | inl h ↦ h
    | inr h ↦
        let first : run.start < run.end = omega (arith, round.within) in
        let s = here run.start (omega arith) first in
        let p = part_gives j range (start / range) some e in
        let m : run.end / range ≡ start / range = within run.end (omega (arith, round.within)) (omega (arith, p)) in
        let behind : run.end < length ls = omega arith in
        let x = byte_state_here ls run.end behind in
        absurd (elim (old run.start run.end absent x.0 first (round.absent_all run.start (omega arith) first) x.1 (s ∙ sym m)) [
          | inl q ↦ cc
          | inr q ↦ round.right (high run.end behind m) (x.1 ∙ ap Some q)
        ])
  ]

  -- and all before it in that range is present
  before : (i : ℕ) (a : ByteState) → i < run.start → slice_get ls i ≡ Some a → i / range ≡ start / range → a ≡ present
  before i a h f e =
      let first : run.start < run.end = omega (arith, round.within) in
      let s = here run.start (omega arith) first in
      let z : slice_get ls run.start ≡ Some absent = round.absent_all run.start (omega arith) first in
      elim (old i run.start a absent h f z (e ∙ sym s)) [
        | inl q ↦ q
        | inr q ↦
            let p = part_gives i range (start / range) some e in
            let m : (run.start - 1) / range ≡ start / range = within (run.start - 1) (omega (arith, p)) (omega (arith, round.within)) in
            let back : (run.start - 1) + 1 ≡ run.start = omega arith in
            let floor = low (run.start - 1) m in
            absurd (elim (cases_lt i (run.start - 1)) [
              | inl l ↦
                  let inner : run.start - 1 < length ls = omega (arith, most) in
                  let x = byte_state_here ls (run.start - 1) inner in
                  elim (old i (run.start - 1) a x.0 l f x.1 (e ∙ sym m)) [
                    | inl y ↦ cc
                    | inr y ↦ round.left (run.start - 1) floor back (x.1 ∙ ap Some (y ∙ sym q))
                  ]
              | inr l ↦ let same : i ≡ run.start - 1 = omega arith in round.left (run.start - 1) floor back (ap (slice_get ls) (sym same) ∙ f ∙ ap Some (sym q))
            ])
      ]

  pub order_claim : InOrder range (change (λ i l. if inside run i then pending g else l) ls)
  order_claim i j a b l e f h =
      let w : ℕ → ByteState → ByteState = λ n z. if inside run n then pending g else z in
      let zi : 0 + i ≡ i = omega arith in
      let zj : 0 + j ≡ j = omega arith in
      let x = slot_change w 0 ls i a e in
      let y = slot_change w 0 ls j b f in
      let xi : w i x.0 ≡ a = ap (λ (n : ℕ). w n x.0) (sym zi) ∙ x.2 in
      let yj : w j y.0 ≡ b = ap (λ (n : ℕ). w n y.0) (sym zj) ∙ y.2 in
      let long : j < length ls = slice_get_within ls j y.0 y.1 in
      elim (cases_Bool (inside run i)) [
        | inl t ↦
            let s = in_gives run i t in
            let r = reaches j (omega (arith, s)) long (sym h ∙ here i s.0 s.1) in
            let u = inside_is run j (omega (arith, s)) r in
            let p : w i x.0 ≡ pending g = rw t refl in
            let q : w j y.0 ≡ pending g = rw u refl in
            inr (sym yj ∙ q ∙ sym p ∙ xi)
        | inr t ↦
            let p : w i x.0 ≡ x.0 = rw t refl in
            elim (cases_Bool (inside run j)) [
              | inl u ↦
                  let s = in_gives run j u in
                  let k : i / range ≡ start / range = h ∙ here j s.0 s.1 in
                  elim (cases_lt i run.start) [
                    | inl c ↦ inl (sym xi ∙ p ∙ before i x.0 c x.1 k)
                    | inr c ↦ absurd (let v = inside_is run i c (omega (arith, s)) in let z : true ≡ false = sym v ∙ t in cc)
                  ]
              | inr u ↦
                  let q : w j y.0 ≡ y.0 = rw u refl in
                  elim (old i j x.0 y.0 l x.1 y.1 h) [
                    | inl c ↦ inl (sym xi ∙ p ∙ c)
                    | inr c ↦ inr (sym yj ∙ q ∙ c ∙ sym p ∙ xi)
                  ]
            ]
      ]
