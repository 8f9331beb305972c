-- What the type keeps, told by the places in the lists.
use Rattle.std.proofs.Common.{arith, ◌≡◌, ◌<◌, ◌≤◌, ◌+◌, ℕ, zero, suc, true, false, List, [], ◌∷◌, sym, ◌∙◌, ap, inl, inr, refl, length, Some, None}
use Rattle.std.specs.Prelude.{◌==◌, map, slice_get}
use Rattle.std.specs.List.{list_any, range_with_len}
use Rattle.std.proofs.lemmas.Bool.{cases_Bool, cases_lt}
use Rattle.std.proofs.lemmas.Bool.Decides.{nat_tests}
use Rattle.region_ranges.specs.declared.ranges.ByteRange.{ByteRange}
use Rattle.region_ranges.specs.Ranges.{has}
use Rattle.sparse_tracker.specs.declared.gaps.OpenGap.{OpenGap}
use Rattle.sparse_tracker.specs.declared.tickets.Ticket.{Ticket}
use Rattle.sparse_tracker.specs.ByteStates.{ByteState, pending}
use Rattle.sparse_tracker.specs.Kept.{byte_state_at, byte_states_of, in_gap, in_any, AllTaken, AllApart, AllDiffer, AllInside, IsStored, GapsFit, IsGood}
use Rattle.sparse_tracker.proofs.Ties.{seen, length-byte_states}

pub slot_in : {X : Type 0} (f : ℕ → X) (a n i : ℕ) → i < n → slice_get (map f (range_with_len a n)) i ≡ Some (f (a + i))
slot_in f a zero i h = absurd (omega arith)
slot_in f a (suc n) zero h = let e : a ≡ a + 0 = omega arith in ap (λ (k : ℕ). Some (f k)) e
slot_in f a (suc n) (suc i) h = let e : a + 1 + i ≡ a + suc i = omega arith in slot_in f (a + 1) n i (omega arith) ∙ ap (λ (k : ℕ). Some (f k)) e

pub slot_past : {X : Type 0} (f : ℕ → X) (a n i : ℕ) → n ≤ i → slice_get (map f (range_with_len a n)) i ≡ None
slot_past f a zero i h = refl
slot_past f a (suc n) zero h = absurd (omega arith)
slot_past f a (suc n) (suc i) h = slot_past f (a + 1) n i (omega arith)

pub slot_is : (f : ℕ → ByteState) (n i : ℕ) (l : ByteState) → slice_get (map f (range_with_len 0 n)) i ≡ Some l → (i < n) × (f i ≡ l)
slot_is f n i l e = elim (cases_lt i n) [
  | inl h ↦ let z : 0 + i ≡ i = omega arith in let s : Some (f i) ≡ Some l = ap (λ (k : ℕ). Some (f k)) (sym z) ∙ sym (slot_in f 0 n i h) ∙ e in (h, cc)
  | inr h ↦ absurd (let s : None ≡ Some l = sym (slot_past f 0 n i h) ∙ e in cc)
]

pub gap_bounds : (len : ℕ) (taken : List ByteRange) (gs : List OpenGap) (j : ℕ) (g : OpenGap) → AllTaken len taken gs → slice_get gs j ≡ Some g → (g.upto < g.end) × (g.end ≤ len)
gap_bounds len taken [] j g t e = absurd (cc)
gap_bounds len taken (x ∷ xs) zero g t e =
    let same : x ≡ g = cc in
    let begins : x.upto ≡ g.upto = ap (λ (y : OpenGap). y.upto) same in
    let ends : x.end ≡ g.end = ap (λ (y : OpenGap). y.end) same in
    (omega (arith, t.0), omega (arith, t.1))
gap_bounds len taken (x ∷ xs) (suc j) g t e = gap_bounds len taken xs j g t.3 e

pub ticket_bounds : (len : ℕ) (ks : List Ticket) (j : ℕ) (k : Ticket) → AllInside len ks → slice_get ks j ≡ Some k → (k.start < k.end) × (k.end ≤ len)
ticket_bounds len [] j k t e = absurd (cc)
ticket_bounds len (x ∷ xs) zero k t e =
    let same : x ≡ k = cc in
    let begins : x.start ≡ k.start = ap (λ (y : Ticket). y.start) same in
    let ends : x.end ≡ k.end = ap (λ (y : Ticket). y.end) same in
    (omega (arith, t.0), omega (arith, t.1))
ticket_bounds len (x ∷ xs) (suc j) k t e = ticket_bounds len xs j k t.2 e

pub held_by : (gs : List OpenGap) (j : ℕ) (g : OpenGap) (i : ℕ) → slice_get gs j ≡ Some g → in_gap g i ≡ true → in_any gs i ≡ true
held_by [] j g i e h = absurd (cc)
held_by (x ∷ xs) zero g i e h = let same : x ≡ g = cc in let k : in_gap x i ≡ true = ap (λ (y : OpenGap). in_gap y i) same ∙ h in rw k refl
held_by (x ∷ xs) (suc j) g i e h = elim (cases_Bool (in_gap x i)) [
  | inl k ↦ rw k refl
  | inr k ↦ rw (k, held_by xs j g i e h) refl
]

pub byte_state_of : (taken : List ByteRange) (gs : List OpenGap) (j : ℕ) (g : OpenGap) (i : ℕ) → AllApart gs → slice_get gs j ≡ Some g → in_gap g i ≡ true → byte_state_at taken gs i ≡ pending g.id
byte_state_of taken [] j g i a e h = absurd (cc)
byte_state_of taken (x ∷ xs) zero g i a e h =
    let same : x ≡ g = cc in
    let k : in_gap x i ≡ true = ap (λ (y : OpenGap). in_gap y i) same ∙ h in
    rw k (ap (λ (y : OpenGap). pending y.id) same)
byte_state_of taken (x ∷ xs) (suc j) g i a e h = elim (cases_Bool (in_gap x i)) [
  | inl k ↦ absurd (let w : true ≡ false = sym (held_by xs j g i e h) ∙ a.0 i k in cc)
  | inr k ↦ rw k (byte_state_of taken xs j g i a.1 e h)
]

pub only_one : (gs : List OpenGap) (j k : ℕ) (g h : OpenGap) (i : ℕ) → AllApart gs → slice_get gs j ≡ Some g → slice_get gs k ≡ Some h → in_gap g i ≡ true → in_gap h i ≡ true → j ≡ k
only_one [] j k g h i a e f p q = absurd (cc)
only_one (x ∷ xs) zero zero g h i a e f p q = refl
only_one (x ∷ xs) zero (suc k) g h i a e f p q =
    let same : x ≡ g = cc in
    let r : in_gap x i ≡ true = ap (λ (y : OpenGap). in_gap y i) same ∙ p in
    absurd (let w : true ≡ false = sym (held_by xs k h i f q) ∙ a.0 i r in cc)
only_one (x ∷ xs) (suc j) zero g h i a e f p q =
    let same : x ≡ h = cc in
    let r : in_gap x i ≡ true = ap (λ (y : OpenGap). in_gap y i) same ∙ q in
    absurd (let w : true ≡ false = sym (held_by xs j g i e p) ∙ a.0 i r in cc)
only_one (x ∷ xs) (suc j) (suc k) g h i a e f p q = ap suc (only_one xs j k g h i a.1 e f p q)

pub owner : (taken : List ByteRange) (gs : List OpenGap) (i h : ℕ) → byte_state_at taken gs i ≡ pending h → (j : ℕ) × (g : OpenGap) × (slice_get gs j ≡ Some g) × (g.id ≡ h) × (g.upto ≤ i) × (i < g.end)
owner taken [] i h e = elim (cases_Bool (has taken i)) [
  | inl k ↦ absurd (let r = rw k at e in cc)
  | inr k ↦ absurd (let r = rw k at e in cc)
]
owner taken (x ∷ xs) i h e = elim (cases_Bool (in_gap x i)) [
  | inl k ↦
      let r = rw k at e in
      let same : x.id ≡ h = cc in
      (0, x, refl, same, (let l : x.upto ≤ i = grind (arith, nat_tests) in l), (let l : i < x.end = grind (arith, nat_tests) in l))
  | inr k ↦
      let r = rw k at e in
      let o = owner taken xs i h r in
      (suc o.0, o.1, o.2, o.3, o.4, o.5)
]

pub slot_any : {X : Type 0} (f : X → ℕ) (xs : List X) (k : ℕ) (b : X) (n : ℕ) → slice_get xs k ≡ Some b → f b ≡ n → list_any (λ m. m == n) (map f xs) ≡ true
slot_any f [] k b n e h = absurd (cc)
slot_any f (x ∷ xs) zero b n e h =
    let same : x ≡ b = cc in
    let s : f x ≡ n = ap f same ∙ h in
    let t : (f x == n) ≡ true = grind (arith, nat_tests) in
    rw t refl
slot_any f (x ∷ xs) (suc k) b n e h = elim (cases_Bool (f x == n)) [
  | inl t ↦ rw t refl
  | inr t ↦ rw (t, slot_any f xs k b n e h) refl
]

pub slots_differ : {X : Type 0} (f : X → ℕ) (xs : List X) (j k : ℕ) (a b : X) → AllDiffer (map f xs) → slice_get xs j ≡ Some a → slice_get xs k ≡ Some b → f a ≡ f b → j ≡ k
slots_differ f [] j k a b d e g h = absurd (cc)
slots_differ f (x ∷ xs) zero zero a b d e g h = refl
slots_differ f (x ∷ xs) zero (suc k) a b d e g h =
    let same : x ≡ a = cc in
    let s : f b ≡ f x = sym (ap f same ∙ h) in
    absurd (let w : true ≡ false = sym (slot_any f xs k b (f x) g s) ∙ d.0 in cc)
slots_differ f (x ∷ xs) (suc j) zero a b d e g h =
    let same : x ≡ b = cc in
    let s : f a ≡ f x = h ∙ sym (ap f same) in
    absurd (let w : true ≡ false = sym (slot_any f xs j a (f x) e s) ∙ d.0 in cc)
slots_differ f (x ∷ xs) (suc j) (suc k) a b d e g h = ap suc (slots_differ f xs j k a b d.1 e g h)

module _ (first len : ℕ) (taken : List ByteRange) (gaps : List OpenGap) (ks : List Ticket) (s : IsStored first len taken gaps ks) where
  count : length (byte_states_of len taken gaps) ≡ len
  count = length-byte_states len (byte_state_at taken gaps) 0

  holds : (g : OpenGap) (i : ℕ) → g.upto ≤ i → i < g.end → in_gap g i ≡ true
  holds g i a b = grind (arith, nat_tests)

  fit : GapsFit (seen len taken gaps ks)
  fit = record {
    bounds = λ j g e. rw count (gap_bounds len taken gaps j g s.gaps e);
    apart = λ j k i g h e f a b c d. only_one gaps j k g h i s.apart e f (holds g i a b) (holds h i c d);
    byte_states = λ j g i e a b.
        let z : 0 + i ≡ i = omega arith in
        let n = gap_bounds len taken gaps j g s.gaps e in
        slot_in (byte_state_at taken gaps) 0 len i (omega (arith, n)) ∙ ap (λ (k : ℕ). Some (byte_state_at taken gaps k)) z ∙ ap (λ (l : ByteState). Some l) (byte_state_of taken gaps j g i s.apart e (holds g i a b));
    owned = λ i h e. owner taken gaps i h (slot_is (byte_state_at taken gaps) len i (pending h) e).1;
  }

  pub good : IsGood (seen len taken gaps ks)
  good = record {
    gaps = fit;
    ids = λ j k g h e f i. slots_differ (λ (o : OpenGap). o.id) gaps j k g h s.ids e f i;
    numbers = λ j k m n e f i. slots_differ (λ (t : Ticket). t.number) ks j k m n s.numbers e f i;
    tickets = λ j k e. rw count (ticket_bounds len ks j k s.tickets e);
  }
