-- States and bytes place by place.
use Rattle.std.proofs.Common.{arith, ◌≡◌, ◌<◌, ◌≤◌, ◌+◌, ◌-◌, ℕ, zero, suc, Bool, true, List, [], ◌∷◌, ◌++◌, sym, ◌∙◌, ap, inl, inr, refl, length, drop, take, Some, None}
use Rattle.std.specs.Prelude.{◌⊎◌, ◌==◌, map, find, replicate, slice_get}
use Rattle.std.specs.List.{list_any, list_all}
use Rattle.std.proofs.lemmas.Bool.{cases_Bool, cases_lt}
use Rattle.std.proofs.lemmas.Map.Keys.{any_passes_from_place}
use Rattle.sparse_tracker.specs.declared.tickets.Ticket.{Ticket}
use Rattle.sparse_tracker.specs.ByteStates.{ByteState, absent, pending, present, is_absent, is_present, change_from, byte_states_in, without_ticket}

-- ---- places of lists

pub get_drop : {X : Type 0} (n : ℕ) (xs : List X) (i : ℕ) → slice_get (drop n xs) i ≡ slice_get xs (n + i)
get_drop zero xs i = let e : 0 + i ≡ i = omega arith in rw e refl
get_drop (suc n) [] i = refl
get_drop (suc n) (x ∷ xs) i = let e : suc n + i ≡ suc (n + i) = omega arith in rw e (get_drop n xs i)

pub get_take : {X : Type 0} (n : ℕ) (xs : List X) (i : ℕ) → i < n → slice_get (take n xs) i ≡ slice_get xs i
get_take zero xs i h = absurd (omega arith)
get_take (suc n) [] i h = refl
get_take (suc n) (x ∷ xs) zero h = refl
get_take (suc n) (x ∷ xs) (suc i) h = get_take n xs i (omega arith)

pub get_take_past : {X : Type 0} (n : ℕ) (xs : List X) (i : ℕ) → n ≤ i → slice_get (take n xs) i ≡ None
get_take_past zero xs i h = refl
get_take_past (suc n) [] i h = refl
get_take_past (suc n) (x ∷ xs) zero h = absurd (omega arith)
get_take_past (suc n) (x ∷ xs) (suc i) h = get_take_past n xs i (omega arith)

pub get_back : {X : Type 0} (xs ys : List X) (i : ℕ) → slice_get (xs ++ ys) (length xs + i) ≡ slice_get ys i
get_back [] ys i = let e : 0 + i ≡ i = omega arith in rw e refl
get_back (x ∷ xs) ys i = let e : length (x ∷ xs) + i ≡ suc (length xs + i) = omega arith in rw e (get_back xs ys i)

-- two lists that agree at a range of places have the same slice there
pub same_take : {X : Type 0} (n : ℕ) (xs ys : List X) → ((i : ℕ) → i < n → slice_get xs i ≡ slice_get ys i) → take n xs ≡ take n ys
same_take zero xs ys h = refl
same_take (suc n) [] [] h = refl
same_take (suc n) [] (y ∷ ys) h = absurd (let e : None ≡ Some y = h 0 (omega arith) in cc)
same_take (suc n) (x ∷ xs) [] h = absurd (let e : Some x ≡ None = h 0 (omega arith) in cc)
same_take (suc n) (x ∷ xs) (y ∷ ys) h =
    let e : Some x ≡ Some y = h 0 (omega arith) in
    let s : x ≡ y = cc in
    let r : take n xs ≡ take n ys = same_take n xs ys (λ i k. h (suc i) (omega arith)) in
    cc

pub same_slice : {X : Type 0} (at n : ℕ) (xs ys : List X) → ((i : ℕ) → at ≤ i → i < at + n → slice_get xs i ≡ slice_get ys i) → take n (drop at xs) ≡ take n (drop at ys)
same_slice at n xs ys h = same_take n (drop at xs) (drop at ys) (λ i k. get_drop at xs i ∙ h (at + i) (omega arith) (omega arith) ∙ sym (get_drop at ys i))

-- ---- places of states

pub slot_map : {X Y : Type 0} (f : X → Y) (xs : List X) (i : ℕ) (y : Y) → slice_get (map f xs) i ≡ Some y → (x : X) × (slice_get xs i ≡ Some x) × (f x ≡ y)
slot_map f [] i y e = absurd (cc)
slot_map f (x ∷ xs) zero y e = (x, refl, cc)
slot_map f (x ∷ xs) (suc i) y e = slot_map f xs i y e

pub slot_change : (f : ℕ → ByteState → ByteState) (a : ℕ) (ls : List ByteState) (i : ℕ) (l : ByteState) → slice_get (change_from a f ls) i ≡ Some l → (k : ByteState) × (slice_get ls i ≡ Some k) × (f (a + i) k ≡ l)
slot_change f a [] i l e = absurd (cc)
slot_change f a (x ∷ xs) zero l e = let z : a + 0 ≡ a = omega arith in (x, refl, rw z (cc))
slot_change f a (x ∷ xs) (suc i) l e = let s : a + suc i ≡ a + 1 + i = omega arith in rw s (slot_change f (a + 1) xs i l e)

pub length_change : (f : ℕ → ByteState → ByteState) (a : ℕ) (ls : List ByteState) → length (change_from a f ls) ≡ length ls
length_change f a [] = refl
length_change f a (x ∷ xs) = let e = length_change f (a + 1) xs in omega (arith, e)

pub slot_replicate : {X : Type 0} (n : ℕ) (x y : X) (i : ℕ) → slice_get (replicate n x) i ≡ Some y → x ≡ y
slot_replicate zero x y i e = absurd (cc)
slot_replicate (suc n) x y zero e = cc
slot_replicate (suc n) x y (suc i) e = slot_replicate n x y i e

pub slot_behind : {X : Type 0} (xs : List X) (x y : X) (j : ℕ) → slice_get (xs ++ x ∷ []) j ≡ Some y → (slice_get xs j ≡ Some y) ⊎ (x ≡ y)
slot_behind [] x y zero e = inr (cc)
slot_behind [] x y (suc j) e = absurd (cc)
slot_behind (z ∷ xs) x y zero e = inl e
slot_behind (z ∷ xs) x y (suc j) e = slot_behind xs x y j e

pub slot_without : (n : ℕ) (ks : List Ticket) (j : ℕ) (k : Ticket) → slice_get (without_ticket n ks) j ≡ Some k → (i : ℕ) × (slice_get ks i ≡ Some k)
slot_without n [] j k e = absurd (cc)
slot_without n (x ∷ xs) zero k e = elim (cases_Bool (x.number == n)) [ inl t ↦ (1, (rw t at e)) | inr t ↦ (0, (rw t at e)) ]
slot_without n (x ∷ xs) (suc j) k e = elim (cases_Bool (x.number == n)) [
  | inl t ↦ (suc (suc j), (rw t at e))
  | inr t ↦ let r = slot_without n xs j k (rw t at e) in (suc r.0, r.1)
]

pub slot_find : {X : Type 0} (p : X → Bool) (xs : List X) (x : X) → find p xs ≡ Some x → (j : ℕ) × (slice_get xs j ≡ Some x) × (p x ≡ true)
slot_find p [] x e = absurd (cc)
slot_find p (y ∷ ys) x e = elim (cases_Bool (p y)) [
  | inl t ↦ let s = rw t at e in let same : y ≡ x = cc in (0, ap Some same, ap p (sym same) ∙ t)
  | inr t ↦ let r = slot_find p ys x (rw t at e) in (suc r.0, r.1, r.2)
]

-- ---- the states of a sub-range

pub any_gives : {X : Type 0} (p : X → Bool) (xs : List X) → list_any p xs ≡ true → (j : ℕ) × (x : X) × (slice_get xs j ≡ Some x) × (p x ≡ true)
any_gives p [] h = absurd (cc)
any_gives p (x ∷ xs) h = elim (cases_Bool (p x)) [
  | inl t ↦ (0, x, refl, t)
  | inr t ↦ let r = any_gives p xs (rw t at h) in (suc r.0, r.1, r.2, r.3)
]

pub all_gives : {X : Type 0} (p : X → Bool) (xs : List X) (j : ℕ) (x : X) → list_all p xs ≡ true → slice_get xs j ≡ Some x → p x ≡ true
all_gives p [] j x h e = absurd (cc)
all_gives p (y ∷ ys) zero x h e = elim (cases_Bool (p y)) [ inl t ↦ let same : y ≡ x = cc in ap p (sym same) ∙ t | inr t ↦ absurd (let r = rw t at h in cc) ]
all_gives p (y ∷ ys) (suc j) x h e = elim (cases_Bool (p y)) [ inl t ↦ all_gives p ys j x (rw t at h) e | inr t ↦ absurd (let r = rw t at h in cc) ]

pub in_from : (ls : List ByteState) (start end i : ℕ) (l : ByteState) → start ≤ i → i < end → slice_get ls i ≡ Some l → slice_get (byte_states_in start end ls) (i - start) ≡ Some l
in_from ls start end i l a b e =
    let s : start + (i - start) ≡ i = omega arith in
    get_take (end - start) (drop start ls) (i - start) (omega arith) ∙ get_drop start ls (i - start) ∙ ap (slice_get ls) s ∙ e

pub in_gives : (ls : List ByteState) (start end j : ℕ) (l : ByteState) → slice_get (byte_states_in start end ls) j ≡ Some l → (start + j < end) × (slice_get ls (start + j) ≡ Some l)
in_gives ls start end j l e = elim (cases_lt j (end - start)) [
  | inl h ↦ (omega arith, sym (get_drop start ls j) ∙ sym (get_take (end - start) (drop start ls) j h) ∙ e)
  | inr h ↦ absurd (let w : None ≡ Some l = sym (get_take_past (end - start) (drop start ls) j h) ∙ e in cc)
]

-- a place of the sub-range with a state of a kind
pub record Spot (p : ByteState → Bool) (ls : List ByteState) (start end : ℕ) : Type 0 where
  pub at : ℕ
  pub byte_state : ByteState
  pub within : (start ≤ at) × (at < end)
  pub here : slice_get ls at ≡ Some byte_state
  pub kind : p byte_state ≡ true

pub spot_of : (p : ByteState → Bool) (ls : List ByteState) (start end : ℕ) → list_any p (byte_states_in start end ls) ≡ true → Spot p ls start end
spot_of p ls start end h =
    let r = any_gives p (byte_states_in start end ls) h in
    let g = in_gives ls start end r.0 r.1 r.2 in
    record { at = start + r.0; byte_state = r.1; within = (omega arith, g.0); here = g.1; kind = r.3 }

pub spot_from : (p : ByteState → Bool) (ls : List ByteState) (start end i : ℕ) (l : ByteState) → start ≤ i → i < end → slice_get ls i ≡ Some l → p l ≡ true → list_any p (byte_states_in start end ls) ≡ true
spot_from p ls start end i l a b e h = any_passes_from_place p (byte_states_in start end ls) (i - start) l (in_from ls start end i l a b e) h

pub is_absent_gives : (l : ByteState) → is_absent l ≡ true → l ≡ absent
is_absent_gives absent h = refl
is_absent_gives (pending g) h = absurd (cc)
is_absent_gives present h = absurd (cc)

pub is_present_gives : (l : ByteState) → is_present l ≡ true → l ≡ present
is_present_gives absent h = absurd (cc)
is_present_gives (pending g) h = absurd (cc)
is_present_gives present h = refl

pub byte_state_here : (ls : List ByteState) (i : ℕ) → i < length ls → (l : ByteState) × (slice_get ls i ≡ Some l)
byte_state_here [] i h = absurd (omega arith)
byte_state_here (l ∷ ls) zero h = (l, refl)
byte_state_here (l ∷ ls) (suc i) h = byte_state_here ls i (omega arith)
