-- What progress and failure make of the gaps, and of the state of each place.
use Rattle.std.proofs.Common.{arith, ◌≡◌, ◌<◌, ◌≤◌, ℕ, Bool, true, false, List, [], ◌∷◌, sym, ◌∙◌, ap, inl, inr, refl, Some}
use Rattle.std.specs.Prelude.{◌==◌, ◌&&◌, nat_lt, nat_le, find, if◌then◌else◌}
use Rattle.std.specs.List.{list_any}
use Rattle.std.proofs.lemmas.Bool.{cases_Bool, cases_lt}
use Rattle.std.proofs.lemmas.Bool.Decides.{nat_tests}
use Rattle.region_ranges.specs.declared.ranges.ByteRange.{ByteRange}
use Rattle.region_ranges.specs.Ranges.{has}
use Rattle.sparse_tracker.specs.declared.gaps.OpenGap.{OpenGap}
use Rattle.sparse_tracker.specs.ByteStates.{absent, present, is_under, change, ids, move_gap}
use Rattle.sparse_tracker.specs.Kept.{byte_state_at, byte_states_of, in_gap, in_any, AllTaken, AllApart, AllDiffer}
use Rattle.sparse_tracker.proofs.Ties.{map_same, change_range}

abbrev pub is_id : ℕ → OpenGap → Bool
is_id g o = o.id == g

pub outside : (taken : List ByteRange) (gs : List OpenGap) (i : ℕ) → in_any gs i ≡ false → byte_state_at taken gs i ≡ (if has taken i then present else absent)
outside taken [] i h = refl
outside taken (g ∷ gs) i h = elim (cases_Bool (in_gap g i)) [
  | inl e ↦ absurd (let r = rw e at h in cc)
  | inr e ↦ let r = rw e at h in rw e (outside taken gs i r)
]

pub not_under : (g : ℕ) (taken : List ByteRange) (gs : List OpenGap) (i : ℕ) → list_any (λ m. m == g) (ids gs) ≡ false → is_under g (byte_state_at taken gs i) ≡ false
not_under g taken [] i h = elim (cases_Bool (has taken i)) [ inl e ↦ rw e refl | inr e ↦ rw e refl ]
not_under g taken (o ∷ os) i h = elim (cases_Bool (o.id == g)) [
  | inl e ↦ absurd (let r = rw e at h in cc)
  | inr e ↦ let r = rw e at h in elim (cases_Bool (in_gap o i)) [
    | inl k ↦ rw (k, e) refl
    | inr k ↦ rw k (not_under g taken os i r)
  ]
]

pub same_byte_state : (taken more : List ByteRange) (gs : List OpenGap) (i : ℕ) → has more i ≡ has taken i → byte_state_at more gs i ≡ byte_state_at taken gs i
same_byte_state taken more [] i h = rw h refl
same_byte_state taken more (g ∷ gs) i h = rw (same_byte_state taken more gs i h) refl

-- the gap that was found is among them
pub found_in : (g : ℕ) (gs : List OpenGap) (o : OpenGap) (i : ℕ) → find (is_id g) gs ≡ Some o → in_any gs i ≡ false → in_gap o i ≡ false
found_in g [] o i f h = absurd (cc)
found_in g (x ∷ xs) o i f h = elim (cases_Bool (in_gap x i)) [
  | inl k ↦ absurd (let r = rw k at h in cc)
  | inr k ↦ let r = rw k at h in elim (cases_Bool (x.id == g)) [
    | inl e ↦ let s = rw e at f in let t : x ≡ o = cc in ap (λ (y : OpenGap). in_gap y i) (sym t) ∙ k
    | inr e ↦ let s = rw e at f in found_in g xs o i s r
  ]
]

pub others_differ : (g : ℕ) (x : OpenGap) (xs : List OpenGap) → (x.id == g) ≡ true → list_any (λ m. m == x.id) (ids xs) ≡ false → list_any (λ m. m == g) (ids xs) ≡ false
others_differ g x xs e h = let s : x.id ≡ g = grind (arith, nat_tests) in ap (λ (n : ℕ). list_any (λ m. m == n) (ids xs)) (sym s) ∙ h

-- a state is pending under the gap exactly where its place is in it
pub under_is : (g : ℕ) (taken : List ByteRange) (gs : List OpenGap) (o : OpenGap) (i : ℕ) → AllApart gs → AllDiffer (ids gs) → find (is_id g) gs ≡ Some o → is_under g (byte_state_at taken gs i) ≡ in_gap o i
under_is g taken [] o i a d f = absurd (cc)
under_is g taken (x ∷ xs) o i a d f = elim (cases_Bool (x.id == g)) [
  | inl e ↦
      let s = rw e at f in let t : x ≡ o = cc in
      ap (λ (y : Bool). y) (elim (cases_Bool (in_gap x i)) [
        | inl k ↦ rw (k, e) refl
        | inr k ↦ rw k (not_under g taken xs i (others_differ g x xs e d.0))
      ]) ∙ ap (λ (y : OpenGap). in_gap y i) t
  | inr e ↦ let s = rw e at f in elim (cases_Bool (in_gap x i)) [
    | inl k ↦ rw (k, e) (sym (found_in g xs o i s (a.0 i k)))
    | inr k ↦ rw k (under_is g taken xs o i a.1 d.1 s)
  ]
]

-- ---- progress

module _ (g to len : ℕ) (taken : List ByteRange) where
  pub moved_byte_state : (gs : List OpenGap) (o : OpenGap) (i : ℕ) → AllTaken len taken gs → AllApart gs → AllDiffer (ids gs) → find (is_id g) gs ≡ Some o → o.upto ≤ to → to ≤ o.end
      → byte_state_at taken (move_gap g to gs) i ≡ (if is_under g (byte_state_at taken gs i) && nat_lt i to then present else byte_state_at taken gs i)
  moved_byte_state [] o i t a d f low high = absurd (cc)
  moved_byte_state (x ∷ xs) o i t a d f low high = elim (cases_Bool (x.id == g)) [
    | inl e ↦
        let s = rw e at f in let same : x ≡ o = cc in
        let begins : x.upto ≡ o.upto = ap (λ (y : OpenGap). y.upto) same in
        let ends : x.end ≡ o.end = ap (λ (y : OpenGap). y.end) same in
        let none : is_under g (byte_state_at taken xs i) ≡ false = not_under g taken xs i (others_differ g x xs e d.0) in
        elim (cases_Bool (in_gap x i)) [
          | inl k ↦
              let past : byte_state_at taken xs i ≡ (if has taken i then present else absent) = outside taken xs i (a.0 i k) in
              let is : has taken i ≡ true = t.2 i k in
              elim (cases_Bool (to == x.end)) [
                | inl c ↦ let l : nat_lt i to ≡ true = grind (arith, nat_tests) in rw (e, c, k, e, l, past, is) refl
                | inr c ↦ elim (cases_lt i to) [
                  | inl l ↦
                      let n : nat_le to i ≡ false = grind (arith, nat_tests) in
                      let m : nat_lt i to ≡ true = grind (arith, nat_tests) in
                      rw (e, c, n, k, e, m, past, is) refl
                  | inr l ↦
                      let n : (nat_le to i && nat_lt i x.end) ≡ true = grind (arith, nat_tests) in
                      let m : nat_lt i to ≡ false = grind (arith, nat_tests) in
                      rw (e, c, n, k, e, m) refl
                ]
              ]
          | inr k ↦ elim (cases_Bool (to == x.end)) [
            | inl c ↦ rw (e, c, k, none) refl
            | inr c ↦
                let n : (nat_le to i && nat_lt i x.end) ≡ false = grind (arith, nat_tests, begins, low) in
                rw (e, c, n, k, none) refl
          ]
        ]
    | inr e ↦ let s = rw e at f in elim (cases_Bool (in_gap x i)) [
      | inl k ↦ rw (e, k, e) refl
      | inr k ↦ rw (e, k) (moved_byte_state xs o i t.3 a.1 d.1 s low high)
    ]
  ]

  pub moved_byte_states : (gs : List OpenGap) (o : OpenGap) → AllTaken len taken gs → AllApart gs → AllDiffer (ids gs) → find (is_id g) gs ≡ Some o → o.upto ≤ to → to ≤ o.end
      → byte_states_of len taken (move_gap g to gs) ≡ change (λ i l. if is_under g l && nat_lt i to then present else l) (byte_states_of len taken gs)
  moved_byte_states gs o t a d f low high =
      map_same (byte_state_at taken (move_gap g to gs)) (λ i. if is_under g (byte_state_at taken gs i) && nat_lt i to then present else byte_state_at taken gs i) 0 len (λ i k l. moved_byte_state gs o i t a d f low high)
      ∙ sym (change_range (λ i l. if is_under g l && nat_lt i to then present else l) (byte_state_at taken gs) 0 len)

  pub moved_taken : (gs : List OpenGap) (o : OpenGap) → AllTaken len taken gs → find (is_id g) gs ≡ Some o → o.upto ≤ to → to ≤ o.end → AllTaken len taken (move_gap g to gs)
  moved_taken [] o t f low high = tt
  moved_taken (x ∷ xs) o t f low high = elim (cases_Bool (x.id == g)) [
    | inl e ↦
        let s = rw e at f in let same : x ≡ o = cc in
        let begins : x.upto ≡ o.upto = ap (λ (y : OpenGap). y.upto) same in
        let ends : x.end ≡ o.end = ap (λ (y : OpenGap). y.end) same in
        elim (cases_Bool (to == x.end)) [
          | inl c ↦ rw (e, c) t.3
          | inr c ↦
              let n : to < x.end = grind (arith, nat_tests, ends, high) in
              rw (e, c) (n, t.1, (λ i h. t.2 i (let k : in_gap x i ≡ true = grind (arith, nat_tests, begins, low) in k)), t.3)
        ]
    | inr e ↦ let s = rw e at f in rw e (t.0, t.1, t.2, moved_taken xs o t.3 s low high)
  ]

  pub moved_any : (gs : List OpenGap) (o : OpenGap) (i : ℕ) → find (is_id g) gs ≡ Some o → o.upto ≤ to → in_any gs i ≡ false → in_any (move_gap g to gs) i ≡ false
  moved_any [] o i f low h = refl
  moved_any (x ∷ xs) o i f low h = elim (cases_Bool (in_gap x i)) [
    | inl k ↦ absurd (let r = rw k at h in cc)
    | inr k ↦ let r = rw k at h in elim (cases_Bool (x.id == g)) [
      | inl e ↦
          let s = rw e at f in let same : x ≡ o = cc in
          let begins : x.upto ≡ o.upto = ap (λ (y : OpenGap). y.upto) same in
          elim (cases_Bool (to == x.end)) [
            | inl c ↦ rw (e, c) r
            | inr c ↦
                let n : (nat_le to i && nat_lt i x.end) ≡ false = grind (arith, nat_tests, begins, low) in
                rw (e, c, n) r
          ]
      | inr e ↦ let s = rw e at f in rw (e, k) (moved_any xs o i s low r)
    ]
  ]

  pub moved_apart : (gs : List OpenGap) (o : OpenGap) → AllApart gs → find (is_id g) gs ≡ Some o → o.upto ≤ to → AllApart (move_gap g to gs)
  moved_apart [] o a f low = tt
  moved_apart (x ∷ xs) o a f low = elim (cases_Bool (x.id == g)) [
    | inl e ↦
        let s = rw e at f in let same : x ≡ o = cc in
        let begins : x.upto ≡ o.upto = ap (λ (y : OpenGap). y.upto) same in
        elim (cases_Bool (to == x.end)) [
          | inl c ↦ rw (e, c) a.1
          | inr c ↦ rw (e, c) ((λ i h. a.0 i (let k : in_gap x i ≡ true = grind (arith, nat_tests, begins, low) in k)), a.1)
        ]
    | inr e ↦ let s = rw e at f in rw e ((λ i h. moved_any xs o i s low (a.0 i h)), moved_apart xs o a.1 s low)
  ]

  pub moved_ids_any : (n : ℕ) (gs : List OpenGap) → list_any (λ m. m == n) (ids gs) ≡ false → list_any (λ m. m == n) (ids (move_gap g to gs)) ≡ false
  moved_ids_any n [] h = refl
  moved_ids_any n (x ∷ xs) h = elim (cases_Bool (x.id == n)) [
    | inl k ↦ absurd (let r = rw k at h in cc)
    | inr k ↦ let r = rw k at h in elim (cases_Bool (x.id == g)) [
      | inl e ↦ elim (cases_Bool (to == x.end)) [
        | inl c ↦ rw (e, c) r
        | inr c ↦ rw (e, c, k) r
      ]
      | inr e ↦ rw (e, k) (moved_ids_any n xs r)
    ]
  ]

  pub moved_ids : (gs : List OpenGap) → AllDiffer (ids gs) → AllDiffer (ids (move_gap g to gs))
  moved_ids [] d = tt
  moved_ids (x ∷ xs) d = elim (cases_Bool (x.id == g)) [
    | inl e ↦ elim (cases_Bool (to == x.end)) [
      | inl c ↦ rw (e, c) d.1
      | inr c ↦ rw (e, c) d
    ]
    | inr e ↦ rw e (moved_ids_any x.id xs d.0, moved_ids xs d.1)
  ]
