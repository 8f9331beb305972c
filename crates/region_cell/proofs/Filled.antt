-- Each call keeps that a present byte is the file's.
use Rattle.std.proofs.Common.{arith, ◌≡◌, ◌<◌, ◌≤◌, ◌+◌, ◌-◌, ◌*◌, ℕ, true, List, ◌++◌, length, take, drop, sym, ◌∙◌, ap, inl, inr, Option, Some, None, length-take, length-append}
use Rattle.std.specs.Prelude.{◌&&◌, ◌==◌, if◌then◌else◌, nat_lt, slice_get}
use Rattle.std.proofs.lemmas.Bool.{cases_lt, cases_Bool}
use Rattle.std.proofs.lemmas.Bool.Decides.{nat_tests}
use Rattle.std.proofs.lemmas.Option.{slice_get_within}
use Rattle.region_ranges.specs.declared.ranges.ByteRange.{ByteRange}
use Rattle.region_ranges.specs.Ranges.{inside}
use Rattle.region_ranges.specs.Keys.{manifest_of}
use Rattle.sparse_tracker.specs.declared.gaps.OpenGap.{OpenGap}
use Rattle.sparse_tracker.specs.ByteStates.{ByteState, absent, pending, present, is_present, is_under, byte_states_in, Tracker, open_gap_at, least_unused, ids, gap_of, has_all}
use Rattle.sparse_tracker.specs.Kept as tracker
use Rattle.cache_outside.specs.Frames.{put_at, SameOutside}
use Rattle.blob_parts.specs.Content.{slice_of}
use Rattle.region_cell.specs.Cells.{Region, len_of, IsFilled, assign, claim, claim_run, progress, fail, leave, region_bytes, file_of, part_of}
use Rattle.region_cell.proofs.Places.{slot_change, slot_map, slot_replicate, slot_find, get_drop, get_take, get_back, same_slice, in_from, all_gives, is_present_gives, byte_state_here}
use Rattle.mount_manifest.proofs.Doubles.{front_get}

module _ (files : ℕ → ℕ → List ℕ) (size : ℕ) where
  pub filled_assign : (tag len : ℕ) (c : Region) (bytes : List ℕ) → IsFilled files size (assign tag len c) bytes
  filled_assign tag len c bytes i e = absurd (let s = slot_replicate len absent present i e in cc)

  opened : (o : Option ByteRange) (c : Region) (i : ℕ) → slice_get (open_gap_at o c.tracker).byte_states i ≡ Some present → slice_get c.tracker.byte_states i ≡ Some present
  opened None c i e = e
  opened (Some run) c i e =
      let g = least_unused (ids c.tracker.gaps) in
      let x = slot_change (λ i l. if inside run i then pending g else l) 0 c.tracker.byte_states i present e in
      elim (cases_Bool (inside run (0 + i))) [
        | inl t ↦ absurd (let w = rw t at x.2 in cc)
        | inr t ↦ let w : x.0 ≡ present = rw t at x.2 in x.1 ∙ ap Some w
      ]

  pub filled_claim : (range : ℕ) (sub : ByteRange) (c : Region) (bytes : List ℕ) → IsFilled files size c bytes → IsFilled files size (claim range sub c) bytes
  filled_claim range sub c bytes f i e = f i (opened (claim_run range sub c) c i e)

  pub filled_fail : (g : ℕ) (c : Region) (bytes : List ℕ) → IsFilled files size c bytes → IsFilled files size (fail g c) bytes
  filled_fail g c bytes f i e =
      let x = slot_map (λ l. if is_under g l then absent else l) c.tracker.byte_states i present e in
      elim (cases_Bool (is_under g x.0)) [
        | inl t ↦ absurd (let w = rw t at x.2 in cc)
        | inr t ↦ let w : x.0 ≡ present = rw t at x.2 in f i (x.1 ∙ ap Some w)
      ]

  pub filled_leave : (n : ℕ) (c : Region) (bytes : List ℕ) → IsFilled files size c bytes → IsFilled files size (leave n c) bytes
  filled_leave n c bytes f i e = f i e

-- ---- bytes put over others

pub put_length : (at : ℕ) (bytes : List ℕ) → at ≤ length bytes → length (take at bytes) ≡ at
put_length at bytes h = length-take at bytes ∙ omega (arith, h)

module _ (at : ℕ) (piece bytes : List ℕ) (h : at ≤ length bytes) where
  front_length : length (take at bytes ++ piece) ≡ at + length piece
  front_length = let e = put_length at bytes h in length-append (take at bytes) piece ∙ omega (arith, e)

  pub put_before : (i : ℕ) → i < at → slice_get (put_at at piece bytes) i ≡ slice_get bytes i
  put_before i k =
      let e = put_length at bytes h in
      front_get (take at bytes ++ piece) (drop (at + length piece) bytes) i (omega (arith, front_length))
      ∙ front_get (take at bytes) piece i (omega (arith, e))
      ∙ get_take at bytes i k

  pub put_inside : (i : ℕ) → i < length piece → slice_get (put_at at piece bytes) (at + i) ≡ slice_get piece i
  put_inside i k =
      let e = put_length at bytes h in
      front_get (take at bytes ++ piece) (drop (at + length piece) bytes) (at + i) (omega (arith, front_length))
      ∙ ap (λ (n : ℕ). slice_get (take at bytes ++ piece) (n + i)) (sym e)
      ∙ get_back (take at bytes) piece i

  pub put_behind : (i : ℕ) → at + length piece ≤ i → slice_get (put_at at piece bytes) i ≡ slice_get bytes i
  put_behind i k =
      let n = at + length piece in
      let s : n + (i - n) ≡ i = omega arith in
      let t : length (take at bytes ++ piece) + (i - n) ≡ i = omega (arith, front_length) in
      ap (slice_get (put_at at piece bytes)) (sym t)
      ∙ get_back (take at bytes ++ piece) (drop (at + length piece) bytes) (i - n)
      ∙ get_drop n bytes (i - n)
      ∙ ap (slice_get bytes) s

-- where all but some bytes stand, each other byte is as before
pub outside_before : (at n : ℕ) (before now : List ℕ) (i : ℕ) → SameOutside at n before now → i < at → slice_get now i ≡ slice_get before i
outside_before at n before now i s k = sym (get_take at now i k) ∙ ap (λ (xs : List ℕ). slice_get xs i) s.front ∙ get_take at before i k

pub outside_behind : (at n : ℕ) (before now : List ℕ) (i : ℕ) → SameOutside at n before now → at + n ≤ i → slice_get now i ≡ slice_get before i
outside_behind at n before now i s k =
    let e : at + n + (i - (at + n)) ≡ i = omega arith in
    ap (slice_get now) (sym e) ∙ sym (get_drop (at + n) now (i - (at + n))) ∙ ap (λ (xs : List ℕ). slice_get xs (i - (at + n))) s.rest
    ∙ get_drop (at + n) before (i - (at + n)) ∙ ap (slice_get before) e

-- ---- a gap's bytes

module _ (g : ℕ) (t : Tracker) (good : tracker.IsGood t) (o : OpenGap) (is : gap_of g t ≡ Some o) where
  here : (j : ℕ) × (slice_get t.gaps j ≡ Some o) × ((o.id == g) ≡ true)
  here = slot_find (λ (x : OpenGap). x.id == g) t.gaps o is

  named : o.id ≡ g
  named = let h = here in grind (arith, nat_tests)

  pub gap_bounds : (o.upto < o.end) × (o.end ≤ length t.byte_states)
  gap_bounds = good.gaps.bounds here.0 o here.1

  -- a state pending under it lies in it
  pub under_lies : (i : ℕ) (l : ByteState) → slice_get t.byte_states i ≡ Some l → is_under g l ≡ true → (o.upto ≤ i) × (i < o.end)
  under_lies i absent e u = absurd (cc)
  under_lies i present e u = absurd (cc)
  under_lies i (pending h) e u =
      let same : h ≡ g = grind (arith, nat_tests) in
      let w = good.gaps.owned i h e in
      let j : here.0 ≡ w.0 = good.ids here.0 w.0 o w.1 here.1 w.2 (named ∙ sym same ∙ sym w.3) in
      let s : Some o ≡ Some w.1 = sym here.1 ∙ ap (slice_get t.gaps) j ∙ w.2 in
      let k : o ≡ w.1 = cc in
      let begins : o.upto ≡ w.1.upto = ap (λ (x : OpenGap). x.upto) k in
      let ends : o.end ≡ w.1.end = ap (λ (x : OpenGap). x.end) k in
      (omega (arith, w.4, begins), omega (arith, w.5, ends))

  -- and a present state does not
  pub present_lies : (i : ℕ) → slice_get t.byte_states i ≡ Some present → o.upto ≤ i → i < o.end → ⊥
  present_lies i e a b = let w : Some (pending o.id) ≡ Some present = sym (good.gaps.byte_states here.0 o i here.1 a b) ∙ e in cc

-- bytes that are not there yet do not matter
pub filled_as_outside : (files : ℕ → ℕ → List ℕ) (size g n : ℕ) (o : OpenGap) (c : Region) (before now : List ℕ) → tracker.IsGood c.tracker → gap_of g c.tracker ≡ Some o → o.upto + n ≤ o.end → SameOutside o.upto n before now → IsFilled files size c before → IsFilled files size c now
filled_as_outside files size g n o c before now good is inside s f i e = elim (cases_lt i o.upto) [
  | inl l ↦ outside_before o.upto n before now i s l ∙ f i e
  | inr l ↦ elim (cases_lt i (o.upto + n)) [
    | inl k ↦ absurd (present_lies g c.tracker good o is i e l (omega arith))
    | inr k ↦ outside_behind o.upto n before now i s k ∙ f i e
  ]
]

-- ---- progress by a piece, and a piece that was not put

module _ (files : ℕ → ℕ → List ℕ) (size g : ℕ) (c : Region) (bytes piece : List ℕ) (good : tracker.IsGood c.tracker) (o : OpenGap) (is : gap_of g c.tracker ≡ Some o)
    (f : IsFilled files size c bytes) (inside : o.upto + length piece ≤ o.end) where
  stored : (i : ℕ) → o.upto ≤ length bytes → len_of c ≤ size → piece ≡ slice_of (files (manifest_of c.tag) (file_of c.tag)) (part_of c.tag * size + o.upto) (length piece) → o.upto ≤ i → i < o.upto + length piece → i < len_of c → slice_get (put_at o.upto piece bytes) i ≡ slice_get (region_bytes files size c.tag) i
  stored i low short right a k m =
      let whole = files (manifest_of c.tag) (file_of c.tag) in
      let base = part_of c.tag * size in
      let n = i - o.upto in
      let s : o.upto + n ≡ i = omega arith in
      let r : base + o.upto + n ≡ base + i = omega arith in
      ap (slice_get (put_at o.upto piece bytes)) (sym s)
      ∙ put_inside o.upto piece bytes low n (omega arith)
      ∙ ap (λ (xs : List ℕ). slice_get xs n) right
      ∙ get_take (length piece) (drop (base + o.upto) whole) n (omega arith)
      ∙ get_drop (base + o.upto) whole n
      ∙ ap (slice_get whole) r
      ∙ sym (get_drop base whole i)
      ∙ sym (get_take size (drop base whole) i (omega arith))

  pub filled_progress : len_of c ≤ length bytes → len_of c ≤ size → piece ≡ slice_of (files (manifest_of c.tag) (file_of c.tag)) (part_of c.tag * size + o.upto) (length piece) → IsFilled files size (progress g (o.upto + length piece) c) (put_at o.upto piece bytes)
  filled_progress long short right i e =
      let b = gap_bounds g c.tracker good o is in
      let low : o.upto ≤ length bytes = omega (arith, b) in
      let to = o.upto + length piece in
      let x = slot_change (λ i l. if is_under g l && nat_lt i to then present else l) 0 c.tracker.byte_states i present e in
      let z : 0 + i ≡ i = omega arith in
      let y : (if is_under g x.0 && nat_lt i to then present else x.0) ≡ present = ap (λ (n : ℕ). if is_under g x.0 && nat_lt n to then present else x.0) (sym z) ∙ x.2 in
      elim (cases_Bool (is_under g x.0 && nat_lt i to)) [
        | inl t ↦
            let u : is_under g x.0 ≡ true = grind arith in
            let l : nat_lt i to ≡ true = grind arith in
            let under = under_lies g c.tracker good o is i x.0 x.1 u in
            let less : i < to = grind (arith, nat_tests) in
            stored i low short right under.0 less (slice_get_within c.tracker.byte_states i x.0 x.1)
        | inr t ↦
            let w : x.0 ≡ present = rw t at y in
            let p : slice_get c.tracker.byte_states i ≡ Some present = x.1 ∙ ap Some w in
            elim (cases_lt i o.upto) [
              | inl l ↦ put_before o.upto piece bytes low i l ∙ f i p
              | inr l ↦ elim (cases_lt i to) [
                | inl k ↦ absurd (present_lies g c.tracker good o is i p l (omega arith))
                | inr k ↦ put_behind o.upto piece bytes low i k ∙ f i p
              ]
            ]
      ]

  pub filled_outside : (now : List ℕ) → SameOutside o.upto (length piece) bytes now → IsFilled files size c now
  filled_outside now s = filled_as_outside files size g (length piece) o c bytes now good is inside s f

-- ---- reading present bytes

pub all_present : (sub : ByteRange) (c : Region) (i : ℕ) → has_all sub c.tracker ≡ true → sub.end ≤ len_of c → sub.start ≤ i → i < sub.end → slice_get c.tracker.byte_states i ≡ Some present
all_present sub c i h m a b =
    let x = byte_state_here c.tracker.byte_states i (omega arith) in
    let p = all_gives is_present (byte_states_in sub.start sub.end c.tracker.byte_states) (i - sub.start) x.0 h (in_from c.tracker.byte_states sub.start sub.end i x.0 a b x.1) in
    x.1 ∙ ap Some (is_present_gives x.0 p)

pub read_filled : (files : ℕ → ℕ → List ℕ) (size : ℕ) (c : Region) (bytes : List ℕ) (sub : ByteRange) → IsFilled files size c bytes → has_all sub c.tracker ≡ true → sub.start ≤ sub.end → sub.end ≤ len_of c → slice_of bytes sub.start (sub.end - sub.start) ≡ slice_of (region_bytes files size c.tag) sub.start (sub.end - sub.start)
read_filled files size c bytes sub f h o m = same_slice sub.start (sub.end - sub.start) bytes (region_bytes files size c.tag) (λ i a b. f i (all_present sub c i h m a (omega arith)))
