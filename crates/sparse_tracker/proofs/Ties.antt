-- The code's ranges and gaps, and the states that they stand for.
use Rattle.std.proofs.Common.{arith, ◌≡◌, ◌<◌, ◌≤◌, ◌+◌, ℕ, zero, suc, Bool, true, false, List, [], ◌∷◌, ◌++◌, sym, ◌∙◌, ap, inl, inr, refl, length, take, Some, None}
use Rattle.std.specs.Prelude.{◌||◌, min, not, map, if◌then◌else◌, replicate}
use Rattle.std.specs.List.{range_with_len}
use Rattle.std.proofs.lemmas.Bool.{cases_lt, cases_Bool}
use Rattle.std.proofs.lemmas.List.{take_all}
use Rattle.std.proofs.lemmas.Bool.Decides.{nat_tests}
use Rattle.region_ranges.specs.declared.ranges.ByteRange.{ByteRange}
use Rattle.region_ranges.specs.Ranges.{inside, has, free_below, first_run}
use Rattle.sparse_tracker.specs.declared.gaps.OpenGap.{OpenGap}
use Rattle.sparse_tracker.specs.ByteStates.{ByteState, absent, pending, is_absent, change_from, change, Tracker, claimed_run, not_behind, wait_for_range, new_ticket, with_ticket, open_gap}
use Rattle.sparse_tracker.specs.Kept.{byte_state_at, byte_states_of, in_gap, AllTaken, AllInside}
use Rattle.sparse_tracker.specs.declared.tickets.Ticket.{Ticket}

pub map_same : {X : Type 0} (f g : ℕ → X) (a n : ℕ) → ((i : ℕ) → a ≤ i → i < a + n → f i ≡ g i) → map f (range_with_len a n) ≡ map g (range_with_len a n)
map_same f g a zero h = refl
map_same f g a (suc n) h = rw (h a (omega arith) (omega arith), map_same f g (a + 1) n (λ i k l. h i (omega arith) (omega arith))) refl

pub length-byte_states : (len : ℕ) (f : ℕ → ByteState) (a : ℕ) → length (map f (range_with_len a len)) ≡ len
length-byte_states zero f a = refl
length-byte_states (suc n) f a = ap suc (length-byte_states n f (a + 1))

pub take_range : {X : Type 0} (f : ℕ → X) (a n m : ℕ) → m ≤ n → take m (map f (range_with_len a n)) ≡ map f (range_with_len a m)
take_range f a n zero h = refl
take_range f a zero (suc m) h = absurd (omega arith)
take_range f a (suc n) (suc m) h = ap (λ (xs : List _). f a ∷ xs) (take_range f (a + 1) n m (omega arith))

pub map_range : {X Y : Type 0} (g : X → Y) (f : ℕ → X) (a n : ℕ) → map g (map f (range_with_len a n)) ≡ map (λ i. g (f i)) (range_with_len a n)
map_range g f a zero = refl
map_range g f a (suc n) = ap (λ (xs : List _). g (f a) ∷ xs) (map_range g f (a + 1) n)

pub change_range : (h : ℕ → ByteState → ByteState) (f : ℕ → ByteState) (a n : ℕ) → change_from a h (map f (range_with_len a n)) ≡ map (λ i. h i (f i)) (range_with_len a n)
change_range h f a zero = refl
change_range h f a (suc n) = ap (λ (xs : List ByteState). h a (f a) ∷ xs) (change_range h f (a + 1) n)

-- a state is absent exactly where nothing was taken
pub absent_is : (len : ℕ) (taken : List ByteRange) (gaps : List OpenGap) (i : ℕ) → AllTaken len taken gaps → is_absent (byte_state_at taken gaps i) ≡ not (has taken i)
absent_is len taken [] i t = elim (cases_Bool (has taken i)) [ inl e ↦ rw e refl | inr e ↦ rw e refl ]
absent_is len taken (g ∷ gs) i t = elim (cases_Bool (in_gap g i)) [
  | inl e ↦ rw (e, t.2 i e) refl
  | inr e ↦ rw e (absent_is len taken gs i t.3)
]

pub flags_are : (len end : ℕ) (taken : List ByteRange) (gaps : List OpenGap) → AllTaken len taken gaps → end ≤ len → map is_absent (take end (byte_states_of len taken gaps)) ≡ free_below taken end
flags_are len end taken gaps t h =
    ap (λ (ls : List ByteState). map is_absent ls) (take_range (byte_state_at taken gaps) 0 len end h)
    ∙ map_range is_absent (byte_state_at taken gaps) 0 end
    ∙ map_same (λ i. is_absent (byte_state_at taken gaps i)) (λ i. not (has taken i)) 0 end (λ i k l. absent_is len taken gaps i t)

-- ---- a claim

abbrev pub gap_on : ℕ → ByteRange → OpenGap
gap_on id run = record { id = id; upto = run.start; end = run.end }

-- no gap has a place that is not taken
pub not_in : (len : ℕ) (taken : List ByteRange) (g : OpenGap) (gs : List OpenGap) (i : ℕ) → AllTaken len taken (g ∷ gs) → has taken i ≡ false → in_gap g i ≡ false
not_in len taken g gs i t e = elim (cases_Bool (in_gap g i)) [
  | inl h ↦ absurd (let x : true ≡ false = sym (t.2 i h) ∙ e in cc)
  | inr h ↦ h
]

module _ (len : ℕ) (taken more : List ByteRange) (run : ByteRange) (id : ℕ) (added : (i : ℕ) → has more i ≡ (inside run i || has taken i)) (free : (i : ℕ) → inside run i ≡ true → has taken i ≡ false) where
  byte_state_in : (gaps : List OpenGap) (i : ℕ) → AllTaken len taken gaps → inside run i ≡ true → byte_state_at more (gaps ++ gap_on id run ∷ []) i ≡ pending id
  byte_state_in [] i t h = rw h refl
  byte_state_in (g ∷ gs) i t h = rw (not_in len taken g gs i t (free i h), byte_state_in gs i t.3 h) refl

  byte_state_out : (gaps : List OpenGap) (i : ℕ) → inside run i ≡ false → byte_state_at more (gaps ++ gap_on id run ∷ []) i ≡ byte_state_at taken gaps i
  byte_state_out [] i h = rw (h, added i, h) refl
  byte_state_out (g ∷ gs) i h = rw (byte_state_out gs i h) refl

  byte_state_new : (gaps : List OpenGap) (i : ℕ) → AllTaken len taken gaps → byte_state_at more (gaps ++ gap_on id run ∷ []) i ≡ (if inside run i then pending id else byte_state_at taken gaps i)
  byte_state_new gaps i t = elim (cases_Bool (inside run i)) [
    | inl h ↦ rw h (byte_state_in gaps i t h)
    | inr h ↦ rw h (byte_state_out gaps i h)
  ]

  -- the states after a gap was opened on a run of absent places
  pub claimed : (gaps : List OpenGap) → AllTaken len taken gaps → byte_states_of len more (gaps ++ gap_on id run ∷ []) ≡ change (λ i l. if inside run i then pending id else l) (byte_states_of len taken gaps)
  claimed gaps t =
      map_same (byte_state_at more (gaps ++ gap_on id run ∷ [])) (λ i. if inside run i then pending id else byte_state_at taken gaps i) 0 len (λ i a b. byte_state_new gaps i t)
      ∙ sym (change_range (λ i l. if inside run i then pending id else l) (byte_state_at taken gaps) 0 len)

  more_taken : (i : ℕ) → has taken i ≡ true → has more i ≡ true
  more_taken i h = rw (added i, h) (elim (cases_Bool (inside run i)) [ inl e ↦ rw e refl | inr e ↦ rw e refl ])

  pub all_taken : (gaps : List OpenGap) → AllTaken len taken gaps → run.start < run.end → run.end ≤ len → AllTaken len more (gaps ++ gap_on id run ∷ [])
  all_taken [] t a b = (a, b, (λ i h. rw (added i, h) refl), tt)
  all_taken (g ∷ gs) t a b = (t.0, t.1, (λ i h. more_taken i (t.2 i h)), all_taken gs t.3 a b)

  pub none_past : ((i : ℕ) → len ≤ i → has taken i ≡ false) → run.end ≤ len → (i : ℕ) → len ≤ i → has more i ≡ false
  none_past h b i l = let e : inside run i ≡ false = grind (arith, nat_tests) in rw (added i, e, h i l) refl

pub all_inside : (len : ℕ) (ks : List Ticket) (k : Ticket) → AllInside len ks → k.start < k.end → k.end ≤ len → AllInside len (ks ++ k ∷ [])
all_inside len [] k a h j = (h, j, tt)
all_inside len (x ∷ xs) k a h j = (a.0, a.1, all_inside len xs k a.2 h j)

pub no_byte_states : (a len : ℕ) → map (byte_state_at [] []) (range_with_len a len) ≡ replicate len absent
no_byte_states a zero = refl
no_byte_states a (suc n) = ap (λ (xs : List ByteState). absent ∷ xs) (no_byte_states (a + 1) n)

-- ---- the call

abbrev pub seen : ℕ → List ByteRange → List OpenGap → List Ticket → Tracker
seen len taken gaps tickets = record { byte_states = byte_states_of len taken gaps; gaps = gaps; tickets = tickets }

pub claimed_is : (len : ℕ) (taken : List ByteRange) (gaps : List OpenGap) (tickets : List Ticket) (range sub : ByteRange) → AllTaken len taken gaps → range.end ≤ length (byte_states_of len taken gaps)
    → claimed_run range sub (seen len taken gaps tickets) ≡ not_behind sub (first_run (free_below taken range.end) range.start sub.start)
claimed_is len taken gaps tickets range sub t h =
    ap (λ (bs : List Bool). not_behind sub (first_run bs range.start sub.start)) (flags_are len range.end taken gaps t (let e : length (byte_states_of len taken gaps) ≡ len = length-byte_states len (byte_state_at taken gaps) 0 in omega arith))

pub waited_none : (range sub : ByteRange) (t : Tracker) → claimed_run range sub t ≡ None → record t { tickets = t.tickets ++ new_ticket sub t ∷ [] } ≡ wait_for_range range sub t
waited_none range sub t e = rw e refl

pub waited_some : (range sub run : ByteRange) (t : Tracker) → claimed_run range sub t ≡ Some run → with_ticket sub (open_gap run t) ≡ wait_for_range range sub t
waited_some range sub run t e = rw e refl

pub flags_min : (len end : ℕ) (taken : List ByteRange) (gaps : List OpenGap) → AllTaken len taken gaps → map is_absent (take end (byte_states_of len taken gaps)) ≡ free_below taken (min end len)
flags_min len end taken gaps t = elim (cases_lt end len) [
  | inl h ↦ let e : min end len ≡ end = omega arith in rw e (flags_are len end taken gaps t (omega arith))
  | inr h ↦
      let e : min end len ≡ len = omega arith in
      let l : length (byte_states_of len taken gaps) ≡ len = length-byte_states len (byte_state_at taken gaps) 0 in
      let a : take end (byte_states_of len taken gaps) ≡ byte_states_of len taken gaps = take_all end (byte_states_of len taken gaps) (omega (arith, l)) in
      let b : take len (byte_states_of len taken gaps) ≡ byte_states_of len taken gaps = take_all len (byte_states_of len taken gaps) (omega (arith, l)) in
      rw e (ap (λ (ls : List ByteState). map is_absent ls) (a ∙ sym b) ∙ flags_are len len taken gaps t (omega arith))
]
