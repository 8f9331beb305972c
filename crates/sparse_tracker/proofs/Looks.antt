-- What is read from the states of a sub-range, and what the code looks at in place of them.
use Rattle.std.proofs.Common.{arith, ◌≡◌, ◌<◌, ◌≤◌, ◌+◌, ◌-◌, ℕ, zero, suc, Bool, true, false, List, [], ◌∷◌, sym, ◌∙◌, ap, inl, inr, refl, drop, take, Option, Some, None}
use Rattle.std.specs.Prelude.{max, not, map, find, if◌then◌else◌, is_some, IfSome, IfNone}
use Rattle.std.specs.List.{list_any, list_all, range_with_len}
use Rattle.std.proofs.lemmas.Bool.{cases_Bool, cases_lt}
use Rattle.std.proofs.lemmas.Bool.Decides.{nat_tests}
use Rattle.region_ranges.specs.declared.ranges.ByteRange.{ByteRange}
use Rattle.region_ranges.specs.Ranges.{has, IsFirstRun}
use Rattle.sparse_tracker.specs.declared.gaps.OpenGap.{OpenGap}
use Rattle.sparse_tracker.specs.declared.tickets.Ticket.{Ticket}
use Rattle.sparse_tracker.specs.declared.status.Status.TheVariants.{Ready, Waiting, Failed, Open}
use Rattle.sparse_tracker.specs.ByteStates.{ByteState, absent, pending, present, is_absent, is_present, is_under, byte_states_in, ids, status_of, fail_ticket}
use Rattle.sparse_tracker.specs.Kept.{byte_state_at, byte_states_of, in_gap, in_any, meets, any_free, mark, AllTaken, AllApart, AllDiffer, AllInside}
use Rattle.sparse_tracker.proofs.Ties.{take_range, absent_is}
use Rattle.sparse_tracker.proofs.Moves.{outside, under_is, is_id}

pub drop_range : {X : Type 0} (f : ℕ → X) (a n m : ℕ) → m ≤ n → drop m (map f (range_with_len a n)) ≡ map f (range_with_len (a + m) (n - m))
drop_range f a n zero h = let e : a + 0 ≡ a = omega arith in let k : n - 0 ≡ n = omega arith in rw (e, k) refl
drop_range f a zero (suc m) h = absurd (omega arith)
drop_range f a (suc n) (suc m) h = let e : a + 1 + m ≡ a + suc m = omega arith in let k : n - m ≡ suc n - suc m = omega arith in drop_range f (a + 1) n m (omega arith) ∙ ap (λ (s : ℕ). map f (range_with_len s (n - m))) e ∙ ap (λ (s : ℕ). map f (range_with_len (a + suc m) s)) k

-- the states of a sub-range, place by place
pub cut : (f : ℕ → ByteState) (len start end : ℕ) → start ≤ end → end ≤ len → byte_states_in start end (map f (range_with_len 0 len)) ≡ map f (range_with_len start (end - start))
cut f len start end h k =
    let z : 0 + start ≡ start = omega arith in
    ap (take (end - start)) (drop_range f 0 len start (omega arith))
    ∙ ap (λ (s : ℕ). take (end - start) (map f (range_with_len s (len - start)))) z
    ∙ take_range f start (len - start) (end - start) (omega arith)

pub any_at : {X : Type 0} (p : X → Bool) (f : ℕ → X) (a n i : ℕ) → a ≤ i → i < a + n → p (f i) ≡ true → list_any p (map f (range_with_len a n)) ≡ true
any_at p f a zero i h k e = absurd (omega arith)
any_at p f a (suc n) i h k e = elim (cases_lt a i) [
  | inl l ↦ rw (any_at p f (a + 1) n i (omega arith) (omega arith) e) (elim (cases_Bool (p (f a))) [ inl t ↦ rw t refl | inr t ↦ rw t refl ])
  | inr l ↦ let s : a ≡ i = omega arith in let t : p (f a) ≡ true = ap (λ (x : ℕ). p (f x)) s ∙ e in rw t refl
]

pub any_none : {X : Type 0} (p : X → Bool) (f : ℕ → X) (a n : ℕ) → ((i : ℕ) → a ≤ i → i < a + n → p (f i) ≡ false) → list_any p (map f (range_with_len a n)) ≡ false
any_none p f a zero h = refl
any_none p f a (suc n) h = rw (h a (omega arith) (omega arith), any_none p f (a + 1) n (λ i k l. h i (omega arith) (omega arith))) refl

pub all_of : {X : Type 0} (p : X → Bool) (f : ℕ → X) (a n : ℕ) → ((i : ℕ) → a ≤ i → i < a + n → p (f i) ≡ true) → list_all p (map f (range_with_len a n)) ≡ true
all_of p f a zero h = refl
all_of p f a (suc n) h = rw (h a (omega arith) (omega arith), all_of p f (a + 1) n (λ i k l. h i (omega arith) (omega arith))) refl

pub not_all : {X : Type 0} (p : X → Bool) (f : ℕ → X) (a n i : ℕ) → a ≤ i → i < a + n → p (f i) ≡ false → list_all p (map f (range_with_len a n)) ≡ false
not_all p f a zero i h k e = absurd (omega arith)
not_all p f a (suc n) i h k e = elim (cases_lt a i) [
  | inl l ↦ rw (not_all p f (a + 1) n i (omega arith) (omega arith) e) (elim (cases_Bool (p (f a))) [ inl t ↦ rw t refl | inr t ↦ rw t refl ])
  | inr l ↦ let s : a ≡ i = omega arith in let t : p (f a) ≡ false = ap (λ (x : ℕ). p (f x)) s ∙ e in rw t refl
]

pub any_same : {X : Type 0} (p : X → Bool) (f : ℕ → X) (q : ℕ → Bool) (a n : ℕ) → ((i : ℕ) → p (f i) ≡ q i) → list_any p (map f (range_with_len a n)) ≡ list_any q (range_with_len a n)
any_same p f q a zero h = refl
any_same p f q a (suc n) h = rw (h a, any_same p f q (a + 1) n h) refl

-- whether a byte is absent is whether a place is not taken
pub lacks_is : (len : ℕ) (taken : List ByteRange) (gaps : List OpenGap) (sub : ByteRange) → AllTaken len taken gaps → sub.start ≤ sub.end → sub.end ≤ len
    → list_any is_absent (byte_states_in sub.start sub.end (byte_states_of len taken gaps)) ≡ any_free taken sub
lacks_is len taken gaps sub t h k =
    ap (list_any is_absent) (cut (byte_state_at taken gaps) len sub.start sub.end h k)
    ∙ any_same is_absent (byte_state_at taken gaps) (λ i. not (has taken i)) sub.start (sub.end - sub.start) (λ i. absent_is len taken gaps i t)

-- what the first run without a member tells of it
pub free_is : (rs : List ByteRange) (sub : ByteRange) (o : Option ByteRange) → IfSome o (IsFirstRun (has rs) sub sub.start) → IfNone o ((i : ℕ) → sub.start ≤ i → sub.start ≤ i → i < sub.end → has rs i ≡ true) → is_some o ≡ any_free rs sub
free_is rs sub (Some run) some none =
    let free : has rs run.start ≡ false = some.free run.start (omega arith) (omega (arith, some.inside)) in
    let at : not (has rs run.start) ≡ true = rw free refl in
    sym (sym (any_same (λ (b : Bool). b) (λ i. not (has rs i)) (λ i. not (has rs i)) sub.start (sub.end - sub.start) (λ i. refl)) ∙ any_at (λ (b : Bool). b) (λ i. not (has rs i)) sub.start (sub.end - sub.start) run.start (omega (arith, some.inside)) (omega (arith, some.inside)) at)
free_is rs sub None some none =
    sym (sym (any_same (λ (b : Bool). b) (λ i. not (has rs i)) (λ i. not (has rs i)) sub.start (sub.end - sub.start) (λ i. refl)) ∙ any_none (λ (b : Bool). b) (λ i. not (has rs i)) sub.start (sub.end - sub.start) (λ i a b. let e : has rs i ≡ true = none i a a (omega arith) in rw e refl))

pub free_none : (rs : List ByteRange) (sub : ByteRange) (i : ℕ) → any_free rs sub ≡ false → sub.start ≤ i → i < sub.end → has rs i ≡ true
free_none rs sub i h a b = elim (cases_Bool (has rs i)) [
  | inl e ↦ e
  | inr e ↦
      let at : not (has rs i) ≡ true = rw e refl in
      let some = sym (any_same (λ (b : Bool). b) (λ j. not (has rs j)) (λ j. not (has rs j)) sub.start (sub.end - sub.start) (λ j. refl)) ∙ any_at (λ (b : Bool). b) (λ j. not (has rs j)) sub.start (sub.end - sub.start) i a (omega arith) at in
      absurd (let w : true ≡ false = sym some ∙ h in cc)
]

-- ---- the gaps that a sub-range meets

pub none_meet : (sub : ByteRange) (gs : List OpenGap) (i : ℕ) → list_any (meets sub) gs ≡ false → sub.start ≤ i → i < sub.end → in_any gs i ≡ false
none_meet sub [] i h a b = refl
none_meet sub (g ∷ gs) i h a b = elim (cases_Bool (meets sub g)) [
  | inl e ↦ absurd (let r = rw e at h in cc)
  | inr e ↦
      let r = rw e at h in
      let k : in_gap g i ≡ false = grind (arith, nat_tests) in
      rw (k, none_meet sub gs i r a b) refl
]

-- a place that is in the sub-range and in a gap
pub record Met (sub : ByteRange) (gs : List OpenGap) : Type 0 where
  pub at : ℕ
  pub within : (sub.start ≤ at) × (at < sub.end)
  pub held : in_any gs at ≡ true

pub some_meet : (len : ℕ) (taken : List ByteRange) (sub : ByteRange) (gs : List OpenGap) → AllTaken len taken gs → sub.start < sub.end → list_any (meets sub) gs ≡ true → Met sub gs
some_meet len taken sub [] t n h = absurd (cc)
some_meet len taken sub (g ∷ gs) t n h = elim (cases_Bool (meets sub g)) [
  | inl e ↦
      let low : g.upto < sub.end = grind (arith, nat_tests) in
      let high : sub.start < g.end = grind (arith, nat_tests) in
      let k : in_gap g (max sub.start g.upto) ≡ true = grind (arith, nat_tests, t.0) in
      record { at = max sub.start g.upto; within = (omega arith, omega arith); held = rw k refl }
  | inr e ↦
      let r = rw e at h in
      let m = some_meet len taken sub gs t.3 n r in
      let k : in_any (g ∷ gs) m.at ≡ true = elim (cases_Bool (in_gap g m.at)) [ inl f ↦ rw f refl | inr f ↦ rw (f, m.held) refl ] in
      record { at = m.at; within = m.within; held = k }
]

pub held_byte_state : (taken : List ByteRange) (gs : List OpenGap) (i : ℕ) → in_any gs i ≡ true → is_present (byte_state_at taken gs i) ≡ false
held_byte_state taken [] i h = absurd (cc)
held_byte_state taken (g ∷ gs) i h = elim (cases_Bool (in_gap g i)) [
  | inl e ↦ rw e refl
  | inr e ↦ let r = rw e at h in rw e (held_byte_state taken gs i r)
]

-- ---- the status of a ticket

pub lacks_some : (ls : List ByteState) → list_any is_absent ls ≡ true → list_all is_present ls ≡ false
lacks_some [] h = absurd (cc)
lacks_some (absent ∷ ls) h = refl
lacks_some (pending g ∷ ls) h = refl
lacks_some (present ∷ ls) h = lacks_some ls h

pub status_lost : (ls : List ByteState) (failed : Bool) → list_any is_absent ls ≡ true → status_of ls failed ≡ (if failed then Failed else Open)
status_lost ls failed h = rw (lacks_some ls h, h) refl

module _ (len : ℕ) (taken : List ByteRange) (gaps : List OpenGap) (sub : ByteRange) (t : AllTaken len taken gaps) (some : sub.start < sub.end) (most : sub.end ≤ len) (full : any_free taken sub ≡ false) where
  pub status_waiting : (failed : Bool) → list_any (meets sub) gaps ≡ true → status_of (byte_states_in sub.start sub.end (byte_states_of len taken gaps)) failed ≡ Waiting
  status_waiting failed h =
      let ls = byte_states_in sub.start sub.end (byte_states_of len taken gaps) in
      let m = some_meet len taken sub gaps t some h in
      let a : list_any is_absent ls ≡ false = lacks_is len taken gaps sub t (omega arith) most ∙ full in
      let b : list_all is_present ls ≡ false = ap (list_all is_present) (cut (byte_state_at taken gaps) len sub.start sub.end (omega arith) most) ∙ not_all is_present (byte_state_at taken gaps) sub.start (sub.end - sub.start) m.at m.within.0 (omega (arith, m.within)) (held_byte_state taken gaps m.at m.held) in
      rw (b, a) refl

  pub status_ready : (failed : Bool) → list_any (meets sub) gaps ≡ false → status_of (byte_states_in sub.start sub.end (byte_states_of len taken gaps)) failed ≡ Ready
  status_ready failed h =
      let ls = byte_states_in sub.start sub.end (byte_states_of len taken gaps) in
      let here : (i : ℕ) → sub.start ≤ i → i < sub.start + (sub.end - sub.start) → is_present (byte_state_at taken gaps i) ≡ true = λ i p q.
      let e : has taken i ≡ true = free_none taken sub i full p (omega arith) in
      let l : byte_state_at taken gaps i ≡ (if has taken i then present else absent) = outside taken gaps i (none_meet sub gaps i h p (omega arith)) in
      rw (l, e) refl in
      let b : list_all is_present ls ≡ true = ap (list_all is_present) (cut (byte_state_at taken gaps) len sub.start sub.end (omega arith) most) ∙ all_of is_present (byte_state_at taken gaps) sub.start (sub.end - sub.start) here in
      rw b refl

-- ---- the tickets that a failed gap marks

module _ (g len : ℕ) (taken : List ByteRange) (gaps : List OpenGap) (o : OpenGap) (apart : AllApart gaps) (differ : AllDiffer (ids gaps)) (f : find (is_id g) gaps ≡ Some o) (some : o.upto < o.end) where
  pub mark_is : (k : Ticket) → k.start < k.end → k.end ≤ len → mark o k ≡ fail_ticket g (byte_states_of len taken gaps) k
  mark_is k s m =
      let c : list_any (is_under g) (byte_states_in k.start k.end (byte_states_of len taken gaps)) ≡ list_any (is_under g) (map (byte_state_at taken gaps) (range_with_len k.start (k.end - k.start))) = ap (list_any (is_under g)) (cut (byte_state_at taken gaps) len k.start k.end (omega arith) m) in
      elim (cases_Bool (meets (record { start = k.start; end = k.end }) o)) [
        | inl e ↦
            let low : o.upto < k.end = grind (arith, nat_tests) in
            let high : k.start < o.end = grind (arith, nat_tests) in
            let u : is_under g (byte_state_at taken gaps (max k.start o.upto)) ≡ true = under_is g taken gaps o (max k.start o.upto) apart differ f ∙ (let w : in_gap o (max k.start o.upto) ≡ true = grind (arith, nat_tests) in w) in
            let a = any_at (is_under g) (byte_state_at taken gaps) k.start (k.end - k.start) (max k.start o.upto) (omega arith) (omega arith) u in
            rw (e, c, a) refl
        | inr e ↦
            let a = any_none (is_under g) (byte_state_at taken gaps) k.start (k.end - k.start) (λ i p q. under_is g taken gaps o i apart differ f ∙ (let w : in_gap o i ≡ false = grind (arith, nat_tests) in w)) in
            rw (e, c, a) refl
      ]

  pub marked_are : (ks : List Ticket) → AllInside len ks → map (mark o) ks ≡ map (fail_ticket g (byte_states_of len taken gaps)) ks
  marked_are [] a = refl
  marked_are (k ∷ ks) a = rw (mark_is k a.0 a.1, marked_are ks a.2) refl

-- ---- whether all bytes are present, read from the status

pub waiting_lacks : (ls : List ByteState) (failed : Bool) → status_of ls failed ≡ Waiting → list_all is_present ls ≡ false
waiting_lacks ls failed e = elim (cases_Bool (list_all is_present ls)) [ inl t ↦ absurd (let r = rw t at e in cc) | inr t ↦ t ]

pub ready_has : (ls : List ByteState) → status_of ls false ≡ Ready → list_all is_present ls ≡ true
ready_has ls e = elim (cases_Bool (list_all is_present ls)) [
  | inl t ↦ t
  | inr t ↦ elim (cases_Bool (list_any is_absent ls)) [
    | inl a ↦ absurd (let r = rw (t, a) at e in cc)
    | inr a ↦ absurd (let r = rw (t, a) at e in cc)
  ]
]
