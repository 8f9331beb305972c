-- What the type keeps, after each change.
use Rattle.std.proofs.Common.{arith, ◌≡◌, ◌<◌, ◌≤◌, ℕ, true, false, List, [], ◌∷◌, ◌++◌, sym, ◌∙◌, ap, inl, inr, refl, length, take, Option, Some, None}
use Rattle.std.specs.Prelude.{◌==◌, ◌&&◌, ◌||◌, not, map, find, if◌then◌else◌, IsSome, IfSome, option_map}
use Rattle.std.specs.List.{list_any}
use Rattle.std.proofs.lemmas.Bool.{cases_Bool}
use Rattle.std.proofs.lemmas.Bool.Decides.{nat_tests}
use Rattle.std.proofs.lemmas.List.{map-append, take-append-le, take_all}
use Rattle.region_ranges.specs.declared.ranges.ByteRange.{ByteRange}
use Rattle.region_ranges.specs.Ranges.{has, inside}
use Rattle.sparse_tracker.specs.declared.gaps.OpenGap.{OpenGap}
use Rattle.sparse_tracker.specs.declared.tickets.Ticket.{Ticket}
use Rattle.sparse_tracker.specs.ByteStates.{Tracker, ids, numbers, least_unused, TrackerView, move_gap, without_gap, without_ticket, progress, complete, status, ticket_of, lacks, wait_if_pending, with_ticket, pending_ticket, claimed_run, new_claim, fail, absent, present, is_under, new_tracker}
use Rattle.sparse_tracker.specs.declared.status.Status.{Status}
use Rattle.sparse_tracker.specs.Kept.{byte_state_at, byte_states_of, in_gap, in_any, mark, AllTaken, AllApart, AllDiffer, AllInside, IsStored}
use Rattle.sparse_tracker.proofs.Fresh.{fresh, differ_last}
use Rattle.sparse_tracker.proofs.Ties.{seen, gap_on, all_taken, none_past, all_inside, map_same, map_range, no_byte_states}
use Rattle.sparse_tracker.proofs.Moves.{is_id, moved_byte_states, moved_taken, moved_apart, moved_ids, outside, not_under, same_byte_state, found_in, others_differ}
use Rattle.sparse_tracker.proofs.Looks.{marked_are}

pub record Known (P : OpenGap → Type 0) (o : Option OpenGap) : Type 0 where
  pub gap : OpenGap
  pub is : o ≡ Some gap
  pub holds : P gap

pub known : (P : OpenGap → Type 0) (o : Option OpenGap) → IsSome o → IfSome o P → Known P o
known P None s h = absurd (cc)
known P (Some g) s h = record { gap = g; is = refl; holds = h }

-- ---- tickets

pub waited_numbers : (ks : List Ticket) (k : Ticket) → AllDiffer (numbers ks) → k.number ≡ least_unused (numbers ks) → AllDiffer (numbers (ks ++ k ∷ []))
waited_numbers ks k d e =
    let s : numbers (ks ++ k ∷ []) ≡ numbers ks ++ k.number ∷ [] = map-append (λ (t : Ticket). t.number) ks (k ∷ []) in
    rw (s, e) (differ_last (least_unused (numbers ks)) (numbers ks) d (fresh (numbers ks)))

pub stored_waited : (first len : ℕ) (taken : List ByteRange) (gaps : List OpenGap) (ks : List Ticket) (k : Ticket) → IsStored first len taken gaps ks → k.number ≡ least_unused (numbers ks) → k.start < k.end → k.end ≤ len → IsStored first len taken gaps (ks ++ k ∷ [])
stored_waited first len taken gaps ks k s e h m = record {
  len = s.len;
  most = s.most;
  past = s.past;
  gaps = s.gaps;
  apart = s.apart;
  ids = s.ids;
  tickets = all_inside len ks k s.tickets h m;
  numbers = waited_numbers ks k s.numbers e;
}

pub left_inside : (n len : ℕ) (ks : List Ticket) → AllInside len ks → AllInside len (without_ticket n ks)
left_inside n len [] a = tt
left_inside n len (k ∷ ks) a = elim (cases_Bool (k.number == n)) [
  | inl e ↦ rw e a.2
  | inr e ↦ rw e (a.0, a.1, left_inside n len ks a.2)
]

pub left_any : (n m : ℕ) (ks : List Ticket) → list_any (λ x. x == m) (numbers ks) ≡ false → list_any (λ x. x == m) (numbers (without_ticket n ks)) ≡ false
left_any n m [] h = refl
left_any n m (k ∷ ks) h = elim (cases_Bool (k.number == m)) [
  | inl f ↦ absurd (let r = rw f at h in cc)
  | inr f ↦ let r = rw f at h in elim (cases_Bool (k.number == n)) [
    | inl e ↦ rw e r
    | inr e ↦ rw (e, f) (left_any n m ks r)
  ]
]

pub left_numbers : (n : ℕ) (ks : List Ticket) → AllDiffer (numbers ks) → AllDiffer (numbers (without_ticket n ks))
left_numbers n [] d = tt
left_numbers n (k ∷ ks) d = elim (cases_Bool (k.number == n)) [
  | inl e ↦ rw e d.1
  | inr e ↦ rw e (left_any n k.number ks d.0, left_numbers n ks d.1)
]

pub stored_left : (n first len : ℕ) (taken : List ByteRange) (gaps : List OpenGap) (ks : List Ticket) → IsStored first len taken gaps ks → IsStored first len taken gaps (without_ticket n ks)
stored_left n first len taken gaps ks s = record {
  len = s.len;
  most = s.most;
  past = s.past;
  gaps = s.gaps;
  apart = s.apart;
  ids = s.ids;
  tickets = left_inside n len ks s.tickets;
  numbers = left_numbers n ks s.numbers;
}

-- ---- progress

pub stored_moved : (g to first len : ℕ) (taken : List ByteRange) (gaps : List OpenGap) (ks : List Ticket) (o : OpenGap) → IsStored first len taken gaps ks → find (is_id g) gaps ≡ Some o → o.upto ≤ to → to ≤ o.end → IsStored first len taken (move_gap g to gaps) ks
stored_moved g to first len taken gaps ks o s f low high = record {
  len = s.len;
  most = s.most;
  past = s.past;
  tickets = s.tickets;
  numbers = s.numbers;
  gaps = moved_taken g to len taken gaps o s.gaps f low high;
  apart = moved_apart g to len taken gaps o s.apart f low;
  ids = moved_ids g to len taken gaps s.ids;
}

pub progressed : (g to first len : ℕ) (taken : List ByteRange) (gaps : List OpenGap) (ks : List Ticket) (o : OpenGap) → IsStored first len taken gaps ks → find (is_id g) gaps ≡ Some o → o.upto ≤ to → to ≤ o.end → seen len taken (move_gap g to gaps) ks ≡ progress g to (seen len taken gaps ks)
progressed g to first len taken gaps ks o s f low high = rw (moved_byte_states g to len taken gaps o s.gaps s.apart s.ids f low high) refl

-- the gap that was found is not empty and ends in the tracker
pub bounds_of : (g len : ℕ) (taken : List ByteRange) (gaps : List OpenGap) (o : OpenGap) → AllTaken len taken gaps → find (is_id g) gaps ≡ Some o → (o.upto < o.end) × (o.end ≤ len)
bounds_of g len taken [] o t f = absurd (cc)
bounds_of g len taken (x ∷ xs) o t f = elim (cases_Bool (x.id == g)) [
  | inl e ↦ let s = rw e at f in let same : x ≡ o = cc in
      let begins : x.upto ≡ o.upto = ap (λ (y : OpenGap). y.upto) same in
      let ends : x.end ≡ o.end = ap (λ (y : OpenGap). y.end) same in
      (omega (arith, t.0), omega (arith, t.1))
  | inr e ↦ let s = rw e at f in bounds_of g len taken xs o t.3 s
]

-- ---- the calls

abbrev pub viewed : ℕ → ℕ → Tracker → TrackerView
viewed first spare t = record { tracker = t; first_len = first; spare = spare }

pub found_id : (g : ℕ) (gaps : List OpenGap) (o : OpenGap) → find (is_id g) gaps ≡ Some o → o.id ≡ g
found_id g [] o f = absurd (cc)
found_id g (x ∷ xs) o f = elim (cases_Bool (x.id == g)) [
  | inl e ↦ let s = rw e at f in let same : x ≡ o = cc in let i : x.id ≡ g = grind (arith, nat_tests) in ap (λ (y : OpenGap). y.id) (sym same) ∙ i
  | inr e ↦ let s = rw e at f in found_id g xs o s
]

pub completed : (g first len : ℕ) (taken : List ByteRange) (gaps : List OpenGap) (ks : List Ticket) (o : OpenGap) → IsStored first len taken gaps ks → find (is_id g) gaps ≡ Some o → seen len taken (move_gap g o.end gaps) ks ≡ complete g (seen len taken gaps ks)
completed g first len taken gaps ks o s f =
    let b = bounds_of g len taken gaps o s.gaps f in
    progressed g o.end first len taken gaps ks o s f (omega (arith, b)) (omega arith) ∙ sym (rw (f, found_id g gaps o f) refl)

pub ticket_inside : (n len : ℕ) (ks : List Ticket) (k : Ticket) → AllInside len ks → find (λ t. t.number == n) ks ≡ Some k → (k.start < k.end) × (k.end ≤ len)
ticket_inside n len [] k a f = absurd (cc)
ticket_inside n len (t ∷ ts) k a f = elim (cases_Bool (t.number == n)) [
  | inl e ↦ let s = rw e at f in let same : t ≡ k = cc in
      let begins : t.start ≡ k.start = ap (λ (y : Ticket). y.start) same in
      let ends : t.end ≡ k.end = ap (λ (y : Ticket). y.end) same in
      (omega (arith, a.0), omega (arith, a.1))
  | inr e ↦ let s = rw e at f in ticket_inside n len ts k a.2 s
]

pub status_told : (n : ℕ) (k : Ticket) (t : Tracker) (x : Status) → find (λ (m : Ticket). m.number == n) t.tickets ≡ Some k → status k t ≡ x → option_map (λ (m : Ticket). status m t) (ticket_of n t) ≡ Some x
status_told n k t x f e = rw (f, e) refl

pub joined_none : (sub : ByteRange) (t : Tracker) → lacks sub t ≡ true → t ≡ wait_if_pending sub t
joined_none sub t h = rw h refl

pub joined_some : (sub : ByteRange) (t : Tracker) → lacks sub t ≡ false → with_ticket sub t ≡ wait_if_pending sub t
joined_some sub t h = rw h refl

pub asked_none : (sub : ByteRange) (t : Tracker) → lacks sub t ≡ true → None ≡ pending_ticket sub t
asked_none sub t h = rw h refl

pub asked_some : (sub : ByteRange) (t : Tracker) → lacks sub t ≡ false → Some (least_unused (numbers t.tickets)) ≡ pending_ticket sub t
asked_some sub t h = rw h refl

-- ---- a claim

pub waited_claim_none : (range sub : ByteRange) (t : Tracker) → claimed_run range sub t ≡ None → record { gap = None; ticket = least_unused (numbers t.tickets) } ≡ new_claim range sub t
waited_claim_none range sub t e = rw e refl

pub waited_claim_some : (range sub run : ByteRange) (t : Tracker) → claimed_run range sub t ≡ Some run → record { gap = Some (record { id = least_unused (ids t.gaps); range = run }); ticket = least_unused (numbers t.tickets) } ≡ new_claim range sub t
waited_claim_some range sub run t e = rw e refl

pub viewed_same : (first first' spare spare' : ℕ) (t t' : Tracker) → first ≡ first' → spare ≡ spare' → t ≡ t' → viewed first spare t ≡ viewed first' spare' t'
viewed_same first first' spare spare' t t' a b d = rw (a, b, d) refl

pub any_both : (g : OpenGap) (gs : List OpenGap) (i : ℕ) → in_any gs i ≡ false → in_gap g i ≡ false → in_any (gs ++ g ∷ []) i ≡ false
any_both g [] i h k = rw k refl
any_both g (x ∷ xs) i h k = elim (cases_Bool (in_gap x i)) [
  | inl e ↦ absurd (let r = rw e at h in cc)
  | inr e ↦ let r = rw e at h in rw e (any_both g xs i r k)
]

pub apart_last : (len id : ℕ) (taken : List ByteRange) (run : ByteRange) (gs : List OpenGap) → AllTaken len taken gs → AllApart gs → ((i : ℕ) → inside run i ≡ true → has taken i ≡ false) → AllApart (gs ++ gap_on id run ∷ [])
apart_last len id taken run [] t a free = ((λ i h. refl), tt)
apart_last len id taken run (x ∷ xs) t a free = (
  (λ i h. any_both (gap_on id run) xs i (a.0 i h) (elim (cases_Bool (inside run i)) [
    | inl e ↦ absurd (let w : true ≡ false = sym (t.2 i h) ∙ free i e in cc)
    | inr e ↦ e
  ])),
  apart_last len id taken run xs t.3 a.1 free,
)

pub opened_ids : (gs : List OpenGap) (g : OpenGap) → AllDiffer (ids gs) → g.id ≡ least_unused (ids gs) → AllDiffer (ids (gs ++ g ∷ []))
opened_ids gs g d e =
    let s : ids (gs ++ g ∷ []) ≡ ids gs ++ g.id ∷ [] = map-append (λ (o : OpenGap). o.id) gs (g ∷ []) in
    rw (s, e) (differ_last (least_unused (ids gs)) (ids gs) d (fresh (ids gs)))

pub stored_opened : (first len id : ℕ) (taken more : List ByteRange) (run : ByteRange) (gaps : List OpenGap) (ks : List Ticket) → IsStored first len taken gaps ks → id ≡ least_unused (ids gaps)
    → ((i : ℕ) → has more i ≡ (inside run i || has taken i)) → ((i : ℕ) → inside run i ≡ true → has taken i ≡ false) → run.start < run.end → run.end ≤ len → IsStored first len more (gaps ++ gap_on id run ∷ []) ks
stored_opened first len id taken more run gaps ks s e added free some most = record {
  len = s.len;
  most = s.most;
  tickets = s.tickets;
  numbers = s.numbers;
  past = none_past len taken more run id added free s.past most;
  gaps = all_taken len taken more run id added free gaps s.gaps some most;
  apart = apart_last len id taken run gaps s.gaps s.apart free;
  ids = opened_ids gaps (gap_on id run) s.ids e;
}

-- ---- failure

pub without_any : (g : ℕ) (gs : List OpenGap) (i : ℕ) → in_any gs i ≡ false → in_any (without_gap g gs) i ≡ false
without_any g [] i h = refl
without_any g (x ∷ xs) i h = elim (cases_Bool (in_gap x i)) [
  | inl e ↦ absurd (let r = rw e at h in cc)
  | inr e ↦ let r = rw e at h in elim (cases_Bool (x.id == g)) [
    | inl k ↦ rw k r
    | inr k ↦ rw (k, e) (without_any g xs i r)
  ]
]

pub without_apart : (g : ℕ) (gs : List OpenGap) → AllApart gs → AllApart (without_gap g gs)
without_apart g [] a = tt
without_apart g (x ∷ xs) a = elim (cases_Bool (x.id == g)) [
  | inl k ↦ rw k a.1
  | inr k ↦ rw k ((λ i h. without_any g xs i (a.0 i h)), without_apart g xs a.1)
]

pub without_ids_any : (g n : ℕ) (gs : List OpenGap) → list_any (λ m. m == n) (ids gs) ≡ false → list_any (λ m. m == n) (ids (without_gap g gs)) ≡ false
without_ids_any g n [] h = refl
without_ids_any g n (x ∷ xs) h = elim (cases_Bool (x.id == n)) [
  | inl e ↦ absurd (let r = rw e at h in cc)
  | inr e ↦ let r = rw e at h in elim (cases_Bool (x.id == g)) [
    | inl k ↦ rw k r
    | inr k ↦ rw (k, e) (without_ids_any g n xs r)
  ]
]

pub without_ids : (g : ℕ) (gs : List OpenGap) → AllDiffer (ids gs) → AllDiffer (ids (without_gap g gs))
without_ids g [] d = tt
without_ids g (x ∷ xs) d = elim (cases_Bool (x.id == g)) [
  | inl k ↦ rw k d.1
  | inr k ↦ rw k (without_ids_any g x.id xs d.0, without_ids g xs d.1)
]

pub without_taken : (g len : ℕ) (taken : List ByteRange) (gs : List OpenGap) → AllTaken len taken gs → AllTaken len taken (without_gap g gs)
without_taken g len taken [] t = tt
without_taken g len taken (x ∷ xs) t = elim (cases_Bool (x.id == g)) [
  | inl k ↦ rw k t.3
  | inr k ↦ rw k (t.0, t.1, t.2, without_taken g len taken xs t.3)
]

pub taken_on : (len : ℕ) (taken less : List ByteRange) (gs : List OpenGap) → AllTaken len taken gs → ((i : ℕ) → in_any gs i ≡ true → has taken i ≡ true → has less i ≡ true) → AllTaken len less gs
taken_on len taken less [] t h = tt
taken_on len taken less (x ∷ xs) t h = (
  t.0,
  t.1,
  (λ i k. h i (let e : in_any (x ∷ xs) i ≡ true = rw k refl in e) (t.2 i k)),
  taken_on len taken less xs t.3 (λ i k. h i (elim (cases_Bool (in_gap x i)) [ inl e ↦ rw e refl | inr e ↦ rw (e, k) refl ])),
)

-- the other gaps hold no place of the one that was found
pub others_apart : (g : ℕ) (gs : List OpenGap) (o : OpenGap) (i : ℕ) → AllApart gs → find (is_id g) gs ≡ Some o → in_any (without_gap g gs) i ≡ true → in_gap o i ≡ false
others_apart g [] o i a f h = absurd (cc)
others_apart g (x ∷ xs) o i a f h = elim (cases_Bool (x.id == g)) [
  | inl k ↦
      let s = rw k at f in let same : x ≡ o = cc in
      let r = rw k at h in
      elim (cases_Bool (in_gap x i)) [
        | inl e ↦ absurd (let w : true ≡ false = sym r ∙ a.0 i e in cc)
        | inr e ↦ ap (λ (y : OpenGap). in_gap y i) (sym same) ∙ e
      ]
  | inr k ↦
      let s = rw k at f in
      let r = rw k at h in
      elim (cases_Bool (in_gap x i)) [
        | inl e ↦ found_in g xs o i s (a.0 i e)
        | inr e ↦ let q = rw e at r in others_apart g xs o i a.1 s q
      ]
]

pub failed_byte_state : (g : ℕ) (taken less : List ByteRange) (gs : List OpenGap) (o : OpenGap) (len i : ℕ) → AllTaken len taken gs → AllApart gs → AllDiffer (ids gs) → find (is_id g) gs ≡ Some o
    → has less i ≡ (has taken i && not (in_gap o i)) → byte_state_at less (without_gap g gs) i ≡ (if is_under g (byte_state_at taken gs i) then absent else byte_state_at taken gs i)
failed_byte_state g taken less [] o len i t a d f h = absurd (cc)
failed_byte_state g taken less (x ∷ xs) o len i t a d f h = elim (cases_Bool (x.id == g)) [
  | inl e ↦
      let s = rw e at f in let same : x ≡ o = cc in
      let here : in_gap x i ≡ in_gap o i = ap (λ (y : OpenGap). in_gap y i) same in
      elim (cases_Bool (in_gap x i)) [
        | inl k ↦
            let n : has less i ≡ false = h ∙ rw (sym here ∙ k, t.2 i k) refl in
            let l : byte_state_at less xs i ≡ (if has less i then present else absent) = outside less xs i (a.0 i k) in
            rw (e, k, e, l, n) refl
        | inr k ↦
            let n : has less i ≡ has taken i = h ∙ rw (sym here ∙ k) (elim (cases_Bool (has taken i)) [ inl v ↦ rw v refl | inr v ↦ rw v refl ]) in
            let none : is_under g (byte_state_at taken xs i) ≡ false = not_under g taken xs i (others_differ g x xs e d.0) in
            rw (e, k, none) (same_byte_state taken less xs i n)
      ]
  | inr e ↦ let s = rw e at f in elim (cases_Bool (in_gap x i)) [
    | inl k ↦ rw (e, k, e) refl
    | inr k ↦ rw (e, k) (failed_byte_state g taken less xs o len i t.3 a.1 d.1 s h)
  ]
]

pub marked_inside : (len : ℕ) (o : OpenGap) (ks : List Ticket) → AllInside len ks → AllInside len (map (mark o) ks)
marked_inside len o [] a = tt
marked_inside len o (k ∷ ks) a = (a.0, a.1, marked_inside len o ks a.2)

pub marked_numbers : (o : OpenGap) (ks : List Ticket) → numbers (map (mark o) ks) ≡ numbers ks
marked_numbers o [] = refl
marked_numbers o (k ∷ ks) = ap (λ (ns : List ℕ). k.number ∷ ns) (marked_numbers o ks)

module _ (g first len : ℕ) (taken less : List ByteRange) (gaps : List OpenGap) (ks : List Ticket) (o : OpenGap) (s : IsStored first len taken gaps ks) (f : find (is_id g) gaps ≡ Some o) (removed : (i : ℕ) → has less i ≡ (has taken i && not (in_gap o i))) where
  stays_taken : (i : ℕ) → in_any (without_gap g gaps) i ≡ true → has taken i ≡ true → has less i ≡ true
  stays_taken i h k = removed i ∙ rw (k, others_apart g gaps o i s.apart f h) refl

  stays_free : (i : ℕ) → len ≤ i → has less i ≡ false
  stays_free i h = removed i ∙ rw (s.past i h) refl

  pub stored_failed : IsStored first len less (without_gap g gaps) (map (mark o) ks)
  stored_failed = record {
    len = s.len;
    most = s.most;
    past = stays_free;
    gaps = taken_on len taken less (without_gap g gaps) (without_taken g len taken gaps s.gaps) stays_taken;
    apart = without_apart g gaps s.apart;
    ids = without_ids g gaps s.ids;
    tickets = marked_inside len o ks s.tickets;
    numbers = rw (marked_numbers o ks) s.numbers;
  }

  failed_byte_states : byte_states_of len less (without_gap g gaps) ≡ map (λ l. if is_under g l then absent else l) (byte_states_of len taken gaps)
  failed_byte_states =
      map_same (byte_state_at less (without_gap g gaps)) (λ i. if is_under g (byte_state_at taken gaps i) then absent else byte_state_at taken gaps i) 0 len (λ i a b. failed_byte_state g taken less gaps o len i s.gaps s.apart s.ids f (removed i))
      ∙ sym (map_range (λ l. if is_under g l then absent else l) (byte_state_at taken gaps) 0 len)

  pub failed_is : seen len less (without_gap g gaps) (map (mark o) ks) ≡ fail g (seen len taken gaps ks)
  failed_is =
      let b = bounds_of g len taken gaps o s.gaps f in
      rw (failed_byte_states, marked_are g len taken gaps o s.apart s.ids f b.0 ks s.tickets) refl

pub renewed : (len : ℕ) → seen len [] [] [] ≡ new_tracker len
renewed len = rw (no_byte_states 0 len) refl

pub first_part : (n : ℕ) (xs ys : List Ticket) → length xs ≡ n → take n (xs ++ ys) ≡ xs
first_part n xs ys e = let h : n ≤ length xs = omega arith in take-append-le n xs ys h ∙ take_all n xs (omega arith)
