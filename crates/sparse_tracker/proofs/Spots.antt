-- The run that a claim takes, and what stays present, place by place.
use Rattle.std.proofs.Common.{arith, ◌≡◌, ◌≢◌, ◌<◌, ◌≤◌, ◌+◌, ◌-◌, ℕ, zero, suc, Bool, true, false, List, [], ◌∷◌, sym, ◌∙◌, ap, inl, inr, refl, length, drop, take, get_or, Option, Some, None, length-drop, length-take}
use Rattle.std.specs.Prelude.{◌&&◌, nat_lt, max, not, map, reverse, if◌then◌else◌, slice_get, option_map, ◌⊎◌}
use Rattle.std.specs.List.{prefix_len}
use Rattle.std.proofs.lemmas.Bool.{cases_Bool, cases_lt, not-true}
use Rattle.std.proofs.lemmas.Bool.Decides.{nat_tests}
use Rattle.std.proofs.lemmas.List.{get_or-drop, get_or-take, get_or-reverse, length-reverse, length-map}
use Rattle.std.proofs.lemmas.List.Sums.{prefix_len-le-length, prefix_len_passes, prefix_len_stops}
use Rattle.std.proofs.lemmas.Option.{slice_get-map}
use Rattle.region_ranges.specs.declared.ranges.ByteRange.{ByteRange}
use Rattle.region_ranges.specs.Ranges.{inside, first_run}
use Rattle.sparse_tracker.specs.declared.gaps.OpenGap.{OpenGap}
use Rattle.sparse_tracker.specs.ByteStates.{ByteState, absent, pending, present, is_absent, is_under, change_from, absent_run, not_behind, claimed_run, open_gap_at, lacks, Tracker, gap_of, complete_at, progress, wait_if_pending}
use Rattle.sparse_tracker.specs.Places.{IsFirstAbsent, IsRunRound, ClaimPlaces, PresentStays}

-- ---- the first run of a list of flags

pub record IsRun (free : List Bool) (start from : ℕ) (run : ByteRange) : Type 0 where
  pub at : ℕ
  pub place : (max from start ≤ at) × (at < length free)
  pub within : (start ≤ run.start) × (run.start ≤ at) × (at < run.end) × (run.end ≤ length free)
  pub all : (i : ℕ) → run.start ≤ i → i < run.end → get_or free i false ≡ true
  pub left : (i : ℕ) → start ≤ i → i + 1 ≡ run.start → get_or free i false ≡ false
  pub right : run.end < length free → get_or free run.end false ≡ false
  pub before : (i : ℕ) → max from start ≤ i → i < at → get_or free i false ≡ false

pub flop : (b : Bool) → not b ≡ false → b ≡ true
flop true h = refl
flop false h = absurd (cc)

module _ (free : List Bool) (start from : ℕ) where
  m : ℕ
  m = max from start

  skipped : ℕ → (n : ℕ) → n ≡ prefix_len not (drop (max from start) free) → (i : ℕ) → max from start ≤ i → i < max from start + n → get_or free i false ≡ false
  skipped z n e i a b =
      let p = prefix_len_passes not (drop (max from start) free) (i - max from start) false (omega arith) in
      let s : max from start + (i - max from start) ≡ i = omega arith in
      let q = get_or-drop (max from start) free (i - max from start) false in
      not-true (get_or free i false) (ap (λ (k : ℕ). not (get_or free k false)) (sym s) ∙ ap not (sym q) ∙ p)

  reached : (n : ℕ) → n ≡ prefix_len not (drop (max from start) free) → max from start + n < length free → get_or free (max from start + n) false ≡ true
  reached n e h =
      let l : length (drop (max from start) free) ≡ length free - max from start = length-drop (max from start) free in
      let p = prefix_len_stops not (drop (max from start) free) false (omega (arith, l, e)) in
      let q = get_or-drop (max from start) free (prefix_len not (drop (max from start) free)) false in
      let r = flop (get_or free (max from start + prefix_len not (drop (max from start) free)) false) (ap not (sym q) ∙ p) in
      rw e r

  pub no_run_told : first_run free start from ≡ None → (i : ℕ) → max from start ≤ i → i < length free → get_or free i false ≡ false
  no_run_told e i a b =
      let n = prefix_len not (drop (max from start) free) in
      elim (cases_lt (max from start + n) (length free)) [
        | inl h ↦ absurd (let t : nat_lt (max from start + n) (length free) ≡ true = grind (arith, nat_tests) in let r = rw t at e in cc)
        | inr h ↦ skipped 0 n refl i a (omega arith)
      ]

  module _ (f : ℕ) (low : start ≤ f) (h : f < length free) (here : get_or free f false ≡ true) where
    back : List Bool
    back = drop start (take f free)

    length-back : length (drop start (take f free)) ≡ f - start
    length-back = let t : length (take f free) ≡ f = length-take f free ∙ omega (arith, h) in length-drop start (take f free) ∙ ap (λ (k : ℕ). k - start) t

    at_back : (i : ℕ) → i < f - start → get_or (reverse (drop start (take f free))) i false ≡ get_or free (f - 1 - i) false
    at_back i k =
        let xs = drop start (take f free) in
        let l : length xs ≡ f - start = length-back in
        get_or-reverse xs i false (omega (arith, l, k)) ∙ get_or-drop start (take f free) (length xs - 1 - i) false
        ∙ get_or-take f free (start + (length xs - 1 - i)) false (omega (arith, l, k))
        ∙ ap (λ (j : ℕ). get_or free j false) (let e : start + (length xs - 1 - i) ≡ f - 1 - i = omega (arith, l, k) in e)

    back_most : prefix_len (λ b. b) (reverse (drop start (take f free))) ≤ f - start
    back_most =
        let a = prefix_len-le-length (λ (b : Bool). b) (reverse (drop start (take f free))) in
        let r : length (reverse (drop start (take f free))) ≡ length (drop start (take f free)) = length-reverse (drop start (take f free)) in
        let l : length (drop start (take f free)) ≡ f - start = length-back in
        omega (arith, a, r, l)

    fore_most : prefix_len (λ b. b) (drop f free) ≤ length free - f
    fore_most =
        let a = prefix_len-le-length (λ (b : Bool). b) (drop f free) in
        let l : length (drop f free) ≡ length free - f = length-drop f free in
        omega (arith, a, l)

    all_back : (i : ℕ) → f - prefix_len (λ b. b) (reverse (drop start (take f free))) ≤ i → i < f → get_or free i false ≡ true
    all_back i a b =
        let most = back_most in
        let p = prefix_len_passes (λ (x : Bool). x) (reverse (drop start (take f free))) (f - 1 - i) false (omega (arith, a, b, most)) in
        let s : f - 1 - (f - 1 - i) ≡ i = omega arith in
        ap (λ (k : ℕ). get_or free k false) (sym s) ∙ sym (at_back (f - 1 - i) (omega (arith, a, b, most))) ∙ p

    all_fore : (i : ℕ) → f ≤ i → i < f + prefix_len (λ b. b) (drop f free) → get_or free i false ≡ true
    all_fore i a b =
        let p = prefix_len_passes (λ (x : Bool). x) (drop f free) (i - f) false (omega arith) in
        let s : f + (i - f) ≡ i = omega arith in
        ap (λ (k : ℕ). get_or free k false) (sym s) ∙ sym (get_or-drop f free (i - f) false) ∙ p

    end_back : (i : ℕ) → start ≤ i → i + 1 ≡ f - prefix_len (λ b. b) (reverse (drop start (take f free))) → get_or free i false ≡ false
    end_back i a b =
        let xs = reverse (drop start (take f free)) in
        let n = prefix_len (λ (x : Bool). x) xs in
        let r : length xs ≡ length (drop start (take f free)) = length-reverse (drop start (take f free)) in
        let l : length (drop start (take f free)) ≡ f - start = length-back in
        let p = prefix_len_stops (λ (x : Bool). x) xs false (omega (arith, a, b, r, l)) in
        let s : f - 1 - n ≡ i = omega (arith, a, b) in
        ap (λ (k : ℕ). get_or free k false) (sym s) ∙ sym (at_back n (omega (arith, a, b))) ∙ p

    end_fore : f + prefix_len (λ b. b) (drop f free) < length free → get_or free (f + prefix_len (λ b. b) (drop f free)) false ≡ false
    end_fore k =
        let l : length (drop f free) ≡ length free - f = length-drop f free in
        let p = prefix_len_stops (λ (x : Bool). x) (drop f free) false (omega (arith, l, k)) in
        sym (get_or-drop f free (prefix_len (λ (x : Bool). x) (drop f free)) false) ∙ p

    fore_some : 0 < prefix_len (λ b. b) (drop f free)
    fore_some = elim (cases_lt 0 (prefix_len (λ b. b) (drop f free))) [
      | inl k ↦ k
      | inr k ↦ absurd (
          let z : f + prefix_len (λ b. b) (drop f free) ≡ f = omega arith in
          let e = end_fore (omega (arith, z, h)) in
          let w : get_or free f false ≡ false = ap (λ (j : ℕ). get_or free j false) (sym z) ∙ e in
          let x : true ≡ false = sym here ∙ w in cc)
    ]

  pub run_told : (run : ByteRange) → first_run free start from ≡ Some run → IsRun free start from run
  run_told run e =
      let n = prefix_len not (drop (max from start) free) in
      let f = max from start + n in
      elim (cases_lt f (length free)) [
        | inl h ↦
            let t : nat_lt (max from start + n) (length free) ≡ true = grind (arith, nat_tests) in
            let r = rw t at e in
            let here : get_or free f false ≡ true = reached n refl h in
            let is : ByteRange = record { start = f - prefix_len (λ b. b) (reverse (drop start (take f free))); end = f + prefix_len (λ b. b) (drop f free) } in
            let same : is ≡ run = cc in
            let begins : f - prefix_len (λ b. b) (reverse (drop start (take f free))) ≡ run.start = ap (λ (x : ByteRange). x.start) same in
            let ends : f + prefix_len (λ b. b) (drop f free) ≡ run.end = ap (λ (x : ByteRange). x.end) same in
            let low : start ≤ f = omega arith in
            let most = back_most f low h here in
            let more = fore_most f low h here in
            let some = fore_some f low h here in
            record {
              at = f;
              place = (omega arith, h);
              within = (omega (arith, begins, most, low), omega (arith, begins), omega (arith, ends, some), omega (arith, ends, more, h));
              all = λ i a b. elim (cases_lt i f) [ inl k ↦ all_back f low h here i (omega (arith, begins, a)) k | inr k ↦ all_fore f low h here i k (omega (arith, ends, b)) ];
              left = λ i a b. end_back f low h here i a (omega (arith, begins, b));
              right = λ k. ap (λ (j : ℕ). get_or free j false) (sym ends) ∙ end_fore f low h here (omega (arith, ends, k));
              before = λ i a b. skipped 0 n refl i a b;
            }
        | inr h ↦ absurd (let t : nat_lt (max from start + n) (length free) ≡ false = grind (arith, nat_tests) in let r = rw t at e in cc)
      ]

-- ---- flags and states

pub flag_true : (ls : List ByteState) (n i : ℕ) → i < n → n ≤ length ls → get_or (map is_absent (take n ls)) i false ≡ true → slice_get ls i ≡ Some absent
flag_true [] n i h k e = absurd (omega arith)
flag_true (l ∷ ls) zero i h k e = absurd (omega arith)
flag_true (absent ∷ ls) (suc n) zero h k e = refl
flag_true (pending g ∷ ls) (suc n) zero h k e = absurd (cc)
flag_true (present ∷ ls) (suc n) zero h k e = absurd (cc)
flag_true (l ∷ ls) (suc n) (suc i) h k e = flag_true ls n i (omega arith) (omega arith) e

pub flag_false : (ls : List ByteState) (n i : ℕ) → i < n → n ≤ length ls → get_or (map is_absent (take n ls)) i false ≡ false → slice_get ls i ≢ Some absent
flag_false [] n i h k e = absurd (omega arith)
flag_false (l ∷ ls) zero i h k e = absurd (omega arith)
flag_false (absent ∷ ls) (suc n) zero h k e = absurd (cc)
flag_false (pending g ∷ ls) (suc n) zero h k e = λ w. cc
flag_false (present ∷ ls) (suc n) zero h k e = λ w. cc
flag_false (l ∷ ls) (suc n) (suc i) h k e = flag_false ls n i (omega arith) (omega arith) e

pub length-flags : (ls : List ByteState) (n : ℕ) → n ≤ length ls → length (map is_absent (take n ls)) ≡ n
length-flags ls n h = length-map (take n ls) is_absent ∙ length-take n ls ∙ omega (arith, h)

-- ---- the claim

pub behind_told : (sub run : ByteRange) (o : Option ByteRange) → not_behind sub o ≡ Some run → (o ≡ Some run) × (run.start < sub.end)
behind_told sub run None e = absurd (cc)
behind_told sub run (Some r) e = elim (cases_Bool (nat_lt r.start sub.end)) [
  | inl t ↦
      let k = rw t at e in
      let same : r ≡ run = cc in
      let begins : r.start ≡ run.start = ap (λ (x : ByteRange). x.start) same in
      (k, (let l : run.start < sub.end = grind (arith, nat_tests, begins) in l))
  | inr t ↦ absurd (let k = rw t at e in cc)
]

pub claim_some : (range sub run : ByteRange) (t : Tracker) → range.start ≤ sub.start → sub.start < sub.end → sub.end ≤ range.end → range.end ≤ length t.byte_states → claimed_run range sub t ≡ Some run → (at : ℕ) × (IsFirstAbsent t.byte_states sub at × IsRunRound t.byte_states range at run)
claim_some range sub run t a b c d e =
    let k = behind_told sub run (absent_run t.byte_states range sub.start) e in
    let free = map is_absent (take range.end t.byte_states) in
    let l : length free ≡ range.end = length-flags t.byte_states range.end d in
    let r = run_told free range.start sub.start run k.0 in
    let order : (sub.start ≤ r.at) × (r.at < range.end) = (omega (arith, r.place), omega (arith, r.place, l)) in
    let last : run.end ≤ range.end = omega (arith, r.within, l) in
    let early : r.at < sub.end = elim (cases_lt r.at sub.end) [
      | inl h ↦ h
      | inr h ↦ absurd (
          let yes = r.all (max sub.start run.start) (omega arith) (omega (arith, r.within, h, k, order)) in
          let no = r.before (max sub.start run.start) (omega (arith, a, r.within)) (omega (arith, h, k, b)) in
          let x : true ≡ false = sym yes ∙ no in cc)
    ] in (
      r.at,
      (
        record {
          within = (order.0, early);
          here = flag_true t.byte_states range.end r.at order.1 d (r.all r.at r.within.1 r.within.2);
          before = λ i p q. flag_false t.byte_states range.end i (omega (arith, q, order)) d (r.before i (omega (arith, a, p)) q);
        },
        record {
          within = (r.within.0, r.within.1, r.within.2, last);
          absent_all = λ i p q. flag_true t.byte_states range.end i (omega (arith, q, last)) d (r.all i p q);
          left = λ i p q. flag_false t.byte_states range.end i (omega (arith, q, r.within, last)) d (r.left i p q);
          right = λ p. flag_false t.byte_states range.end run.end p d (r.right (omega (arith, p, l)));
        },
      ),
    )

pub behind_none : (sub : ByteRange) (o : Option ByteRange) → not_behind sub o ≡ None → (o ≡ None → ⊥) → (run : ByteRange) × (o ≡ Some run) × (sub.end ≤ run.start)
behind_none sub None e h = absurd (h refl)
behind_none sub (Some r) e h = elim (cases_Bool (nat_lt r.start sub.end)) [
  | inl t ↦ absurd (let k = rw t at e in cc)
  | inr t ↦ (r, refl, (let l : sub.end ≤ r.start = grind (arith, nat_tests) in l))
]

pub behind_cases : (sub : ByteRange) (o : Option ByteRange) → not_behind sub o ≡ None → (o ≡ None) ⊎ ((run : ByteRange) × (o ≡ Some run) × (sub.end ≤ run.start))
behind_cases sub None e = inl refl
behind_cases sub (Some r) e = inr (behind_none sub (Some r) e (λ w. cc))

pub claim_none : (range sub : ByteRange) (t : Tracker) → range.start ≤ sub.start → sub.end ≤ range.end → range.end ≤ length t.byte_states → claimed_run range sub t ≡ None → (i : ℕ) → sub.start ≤ i → i < sub.end → slice_get t.byte_states i ≢ Some absent
claim_none range sub t a c d e i p q =
    let free = map is_absent (take range.end t.byte_states) in
    let l : length free ≡ range.end = length-flags t.byte_states range.end d in
    elim (behind_cases sub (absent_run t.byte_states range sub.start) e) [
      | inl n ↦ flag_false t.byte_states range.end i (omega (arith, q, c)) d (no_run_told free range.start sub.start n i (omega (arith, a, p)) (omega (arith, l, q, c)))
      | inr s ↦
          let r = run_told free range.start sub.start s.0 s.1 in
          flag_false t.byte_states range.end i (omega (arith, q, c)) d (r.before i (omega (arith, a, p)) (omega (arith, q, s.2, r.within)))
    ]

pub claims_told : ClaimPlaces
claims_told = record { some = claim_some; none = claim_none }

-- ---- what stays present

pub slot_change : (f : ℕ → ByteState → ByteState) (a : ℕ) (ls : List ByteState) (i : ℕ) (l : ByteState) → slice_get ls i ≡ Some l → slice_get (change_from a f ls) i ≡ Some (f (a + i) l)
slot_change f a [] i l e = absurd (cc)
slot_change f a (x ∷ xs) zero l e = let same : x ≡ l = cc in let z : a ≡ a + 0 = omega arith in ap (λ (y : ByteState). Some (f a y)) same ∙ ap (λ (k : ℕ). Some (f k l)) z
slot_change f a (x ∷ xs) (suc i) l e = let s : a + 1 + i ≡ a + suc i = omega arith in slot_change f (a + 1) xs i l e ∙ ap (λ (k : ℕ). Some (f k l)) s

pub progress_stays : (g to : ℕ) (t : Tracker) (i : ℕ) → slice_get t.byte_states i ≡ Some present → slice_get (progress g to t).byte_states i ≡ Some present
progress_stays g to t i e = slot_change (λ j l. if is_under g l && nat_lt j to then present else l) 0 t.byte_states i present e

pub complete_stays : (o : Option OpenGap) (t : Tracker) (i : ℕ) → slice_get t.byte_states i ≡ Some present → slice_get (complete_at o t).byte_states i ≡ Some present
complete_stays None t i e = e
complete_stays (Some o) t i e = progress_stays o.id o.end t i e

pub fail_stays : (g : ℕ) (ls : List ByteState) (i : ℕ) → slice_get ls i ≡ Some present → slice_get (map (λ l. if is_under g l then absent else l) ls) i ≡ Some present
fail_stays g ls i e = slice_get-map (λ (l : ByteState). if is_under g l then absent else l) ls i ∙ ap (option_map (λ (l : ByteState). if is_under g l then absent else l)) e

pub joins_stays : (sub : ByteRange) (t : Tracker) (i : ℕ) → slice_get t.byte_states i ≡ Some present → slice_get (wait_if_pending sub t).byte_states i ≡ Some present
joins_stays sub t i e = elim (cases_Bool (lacks sub t)) [ inl h ↦ rw h e | inr h ↦ rw h e ]

pub waits_stays : (range sub : ByteRange) (t : Tracker) (o : Option ByteRange) (i : ℕ) → range.end ≤ length t.byte_states → claimed_run range sub t ≡ o → slice_get t.byte_states i ≡ Some present → slice_get (open_gap_at o t).byte_states i ≡ Some present
waits_stays range sub t None i d c e = e
waits_stays range sub t (Some run) i d c e =
    let k = behind_told sub run (absent_run t.byte_states range sub.start) c in
    let free = map is_absent (take range.end t.byte_states) in
    let l : length free ≡ range.end = length-flags t.byte_states range.end d in
    let r = run_told free range.start sub.start run k.0 in
    let out : inside run i ≡ false = elim (cases_Bool (inside run i)) [
      | inl h ↦ absurd (
          let low : run.start ≤ i = grind (arith, nat_tests) in
          let high : i < run.end = grind (arith, nat_tests) in
          let here = flag_true t.byte_states range.end i (omega (arith, high, r.within, l)) d (r.all i low high) in
          let w : Some present ≡ Some absent = sym e ∙ here in cc)
      | inr h ↦ h
    ] in
    slot_change _ 0 t.byte_states i present e ∙ (let z : 0 + i ≡ i = omega arith in rw (z, out) refl)

pub present_told : PresentStays
present_told = record {
  waits = λ range sub t i d e. waits_stays range sub t (claimed_run range sub t) i d refl e;
  joins = joins_stays;
  progress = progress_stays;
  complete = λ g t i e. complete_stays (gap_of g t) t i e;
  fail = λ g t i e. fail_stays g t.byte_states i e;
  leave = λ n t i e. e;
}
