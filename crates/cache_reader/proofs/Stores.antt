-- A gap that is stored in pieces is stored whole.
use Rattle.std.proofs.Common.{arith, ◌≡◌, ◌<◌, ◌≤◌, ◌+◌, ◌-◌, ℕ, suc, Bool, true, false, List, [], ◌∷◌, ◌++◌, sym, subst, ◌∙◌, ap, inl, inr, refl, length, take, drop, set, Option, Some, None}
use Rattle.std.specs.Prelude.{◌==◌, ◌&&◌, nat_lt, cond, slice_get, IfSome, option_map, if◌then◌else◌}
use Rattle.std.proofs.lemmas.Bool.{cases_lt, cases_Bool, eq-eqb}
use Rattle.std.proofs.lemmas.Bool.Decides.{nat_tests}
use Rattle.std.proofs.lemmas.List.{append-nil, append_assoc, length-append, length-take, drop-drop, take_all, drop_all, take_at, drop_at, set-set, length-set, get_or-set_same}
use Rattle.region_ranges.specs.declared.ranges.ByteRange.{ByteRange}
use Rattle.sparse_tracker.specs.declared.gaps.OpenGap.{OpenGap}
use Rattle.sparse_tracker.specs.ByteStates as byte_states
use Rattle.sparse_tracker.specs.ByteStates.{ByteState, absent, pending, present, Tracker, is_under, change_from, move_gap}
use Rattle.sparse_tracker.specs.Weights.{total, by_gap}
use Rattle.cache_outside.specs.Frames.{put_at}
use Rattle.blob_parts.specs.Content.{slice_of}
use Rattle.blob_parts.proofs.Taken.{slice_more}
use Rattle.region_cell.specs.Cells as cells
use Rattle.cache_door.specs.declared.hold.Hold.{Hold}
use Rattle.cache_door.specs.declared.answers.Entered.TheVariants.{Held}
use Rattle.cache_door.specs.Machine.{State, Cell, cell_at, hold_at, no_cell, with_cell, with_hold, store, store_into, leave}
use Rattle.cache_door.specs.Good.{Good, weigh_hold, hold_gap}
use Rattle.cache_door.specs.Doors.{DoorView, Agrees, HoldView, hold_view}
use Rattle.cache_door.specs.Takes.{after}
use Rattle.cache_reader.specs.Parts.{ReadSetting, bytes_of}
use Rattle.cache_reader.specs.Stored.{rest_stored, gap_stored, StoredTo}
use Rattle.cache_reader.proofs.Fills.{slice_length}
use Rattle.sparse_tracker.proofs.Heavy.{heavy}
use Rattle.cache_door.proofs.OneOwner.{held_inside as actor_inside}
use Rattle.cache_door.proofs.Weighs.{total-at as total_at}
use Rattle.cache_door.proofs.Found.{marked, mark_self}

-- ---- bytes: a piece behind a piece

put_behind : (at : ℕ) (front xs ys b : List ℕ) → front ≡ take at b → at ≤ length b → put_at (at + length xs) ys (put_at at xs b) ≡ put_at at (xs ++ ys) b
put_behind at front xs ys b is le =
    let head : length (take at b ++ xs) ≡ at + length xs = length-append (take at b) xs ∙ omega (arith, length-take at b, le) in
    let rest = drop (at + length xs) b in
    let whole = (take at b ++ xs) ++ rest in
    let n : at + length xs + length ys ≡ at + length (xs ++ ys) = omega (arith, length-append xs ys) in
    let first : take (at + length xs) whole ≡ take at b ++ xs = take_at (take at b ++ xs) rest (at + length xs) head in
    let last : drop (at + length xs + length ys) whole ≡ drop (at + length (xs ++ ys)) b =
    sym (drop-drop (length ys) (at + length xs) whole)
    ∙ ap (drop (length ys)) (drop_at (take at b ++ xs) rest (at + length xs) head)
    ∙ drop-drop (length ys) (at + length xs) b
    ∙ ap (λ k. drop k b) n in
    ap (λ l. (l ++ ys) ++ drop (at + length xs + length ys) whole) first
    ∙ ap (λ l. ((take at b ++ xs) ++ ys) ++ l) last
    ∙ ap (λ l. l ++ drop (at + length (xs ++ ys)) b) (append_assoc (take at b) xs ys)

-- behind the last byte
put_past : (at : ℕ) (xs ys b : List ℕ) → length b < at → put_at (at + length xs) ys (put_at at xs b) ≡ put_at at (xs ++ ys) b
put_past at xs ys b less =
    let low : length b ≤ at = omega (arith, less) in
    let put : (zs : List ℕ) → put_at at zs b ≡ b ++ zs = λ zs.
    ap (λ l. (l ++ zs) ++ drop (at + length zs) b) (take_all at b low)
    ∙ ap (λ l. (b ++ zs) ++ l) (drop_all (at + length zs) b (omega (arith, low)))
    ∙ append-nil (b ++ zs) in
    let size = length-append b xs in
    let more : put_at (at + length xs) ys (b ++ xs) ≡ (b ++ xs) ++ ys =
    ap (λ l. (l ++ ys) ++ drop (at + length xs + length ys) (b ++ xs)) (take_all (at + length xs) (b ++ xs) (omega (arith, size, low)))
    ∙ ap (λ l. ((b ++ xs) ++ ys) ++ l) (drop_all (at + length xs + length ys) (b ++ xs) (omega (arith, size, low)))
    ∙ append-nil ((b ++ xs) ++ ys) in
    ap (put_at (at + length xs) ys) (put xs) ∙ more ∙ append_assoc b xs ys ∙ sym (put (xs ++ ys))

pub put_more : (at : ℕ) (xs ys b : List ℕ) → put_at (at + length xs) ys (put_at at xs b) ≡ put_at at (xs ++ ys) b
put_more at xs ys b = elim (cases_lt (length b) at) [
  | inl less ↦ put_past at xs ys b less
  | inr le ↦ put_behind at (take at b) xs ys b refl le
]

told_more : (told : Bool) (at : ℕ) (xs ys b : List ℕ)
    → (if told then put_at (at + length xs) ys (if told then put_at at xs b else b) else (if told then put_at at xs b else b)) ≡ (if told then put_at at (xs ++ ys) b else b)
told_more true at xs ys b = put_more at xs ys b
told_more false at xs ys b = refl

-- ---- states: progress behind progress

abbrev moved_byte_state : ℕ → ℕ → ℕ → ByteState → ByteState
moved_byte_state g to i l = if is_under g l && nat_lt i to then present else l

byte_state_more : (g to more i : ℕ) (l : ByteState) → to ≤ more → moved_byte_state g more i (moved_byte_state g to i l) ≡ moved_byte_state g more i l
byte_state_more g to more i absent le = refl
byte_state_more g to more i present le = refl
byte_state_more g to more i (pending h) le = elim (cases_Bool (h == g)) [
  | inr n ↦ rw (n, n) refl
  | inl y ↦ elim (cases_lt i to) [
    | inl l ↦
        let a : nat_lt i to ≡ true = grind (arith, nat_tests) in
        let b : nat_lt i more ≡ true = grind (arith, nat_tests) in
        rw (y, a, b) refl
    | inr l ↦ let a : nat_lt i to ≡ false = grind (arith, nat_tests) in rw (y, a, y) refl
  ]
]

byte_states_more : (g to more i : ℕ) (ls : List ByteState) → to ≤ more → change_from i (moved_byte_state g more) (change_from i (moved_byte_state g to) ls) ≡ change_from i (moved_byte_state g more) ls
byte_states_more g to more i [] le = refl
byte_states_more g to more i (l ∷ ls) le =
    ap (λ x. x ∷ change_from (i + 1) (moved_byte_state g more) (change_from (i + 1) (moved_byte_state g to) ls)) (byte_state_more g to more i l le)
    ∙ ap (λ xs. moved_byte_state g more i l ∷ xs) (byte_states_more g to more (i + 1) ls le)

-- each gap of that number ends behind `to`
abbrev pub EndsBehind : ℕ → ℕ → List OpenGap → Type 0
EndsBehind g to os = (j : ℕ) (o : OpenGap) → slice_get os j ≡ Some o → o.id ≡ g → to < o.end

gaps_more : (g to more : ℕ) (os : List OpenGap) → EndsBehind g to os → move_gap g more (move_gap g to os) ≡ move_gap g more os
gaps_more g to more [] h = refl
gaps_more g to more (o ∷ os) h = elim (cases_Bool (o.id == g)) [
  | inr n ↦ rw (n, n) (ap (λ l. o ∷ l) (gaps_more g to more os (λ j p e i. h (suc j) p e i)))
  | inl y ↦
      let same : o.id ≡ g = grind (arith, nat_tests) in
      let less : to < o.end = h 0 o refl same in
      let unmet : (to == o.end) ≡ false = grind (arith, nat_tests) in
      rw (y, unmet, y) refl
]

same_tracker : (t : Tracker) (a b : List ByteState) (x y : List OpenGap) → a ≡ b → x ≡ y → let p : Tracker = record t { byte_states = a; gaps = x } in let q : Tracker = record t { byte_states = b; gaps = y } in p ≡ q
same_tracker t a b x y e f =
    ap (λ (l : List ByteState). let p : Tracker = record t { byte_states = l; gaps = x } in p) e
    ∙ ap (λ (l : List OpenGap). let p : Tracker = record t { byte_states = b; gaps = l } in p) f

pub progress_more : (g to more : ℕ) (t : Tracker) → to ≤ more → EndsBehind g to t.gaps → byte_states.progress g more (byte_states.progress g to t) ≡ byte_states.progress g more t
progress_more g to more t le h = same_tracker t _ _ _ _ (byte_states_more g to more 0 t.byte_states le) (gaps_more g to more t.gaps h)

-- ---- the gap of a hold is in its region's cell

-- 1 at these three numbers, else 0
abbrev mark : ℕ → ℕ → ℕ → ℕ → ℕ → ℕ → ℕ
mark a b d x y z = cond (x == a) (cond (y == b) (cond (z == d) 1 0) 0) 0

hold_weighs : (s : State) (a : ℕ) (h : Hold) → hold_at s a ≡ Some h → h.gap.upto < h.gap.end
    → 1 ≤ total (weigh_hold h.region (hold_gap (mark h.gap.id h.gap.upto h.gap.end))) s.holds
hold_weighs s a h e opened =
    let f = mark h.gap.id h.gap.upto h.gap.end in
    let t = total_at (weigh_hold h.region (hold_gap f)) s.holds a None (actor_inside s a h e) in
    let l : nat_lt h.gap.upto h.gap.end ≡ true = grind (arith, nat_tests) in
    let w : weigh_hold h.region (hold_gap f) (hold_at s a) ≡ 1 = rw (e, eq-eqb h.region h.region refl, l) (mark_self h.gap.id h.gap.upto h.gap.end) in
    omega (arith, t, w)

-- the gaps of its number in its region's cell end where it ends
gap_ends : {tells : Bool} {files : ℕ → ℕ → List ℕ} (s : State) (a : ℕ) (h : Hold) → Good tells files s → hold_at s a ≡ Some h → h.gap.upto < h.gap.end
    → (j : ℕ) (o : OpenGap) → slice_get (cell_at s h.region).region.tracker.gaps j ≡ Some o → o.id ≡ h.gap.id → o.end ≡ h.gap.end
gap_ends s a h good e opened j o at is =
    let fits = good.holds a h e in
    let f = mark h.gap.id h.gap.upto h.gap.end in
    let t = (cell_at s h.region).region.tracker in
    let w = hold_weighs s a h e opened in
    let owned = good.gaps h.region f fits.region in
    let x = heavy (by_gap f) t.gaps (omega (arith, w, owned)) in
    let k = marked h.gap.id h.gap.upto h.gap.end x.1.0.id x.1.0.upto x.1.0.end x.1.2 in
    let i = (good.cells h.region fits.region).tracker.ids j x.0 o x.1.0 at x.1.1 (is ∙ sym k.0) in
    let P : ℕ → Type 0 = λ q. slice_get t.gaps q ≡ Some o in
    let same : o ≡ x.1.0 = (let g = subst P i at in let m = x.1.1 in cc) in
    ap (λ (q : OpenGap). q.end) same ∙ k.2

-- ---- a state behind a store

abbrev pub moved_hold : ℕ → Hold → Hold
moved_hold to h = record h { gap = record h.gap { upto = to } }

pub stored_hold_at : (s : State) (a : ℕ) (h : Hold) (piece : List ℕ) → hold_at s a ≡ Some h → hold_at (store a (hold_at s a) piece s) a ≡ Some (moved_hold (h.gap.upto + length piece) h)
stored_hold_at s a h piece e = rw e (get_or-set_same s.holds a (Some (moved_hold (h.gap.upto + length piece) h)) None (actor_inside s a h e))

-- the cell of a hold, behind a piece
abbrev stored_cell : Bool → Hold → List ℕ → Cell → Cell
stored_cell told h piece x = record { region = cells.progress h.gap.id (h.gap.upto + length piece) x.region; bytes = if told then put_at h.gap.upto piece x.bytes else x.bytes }

same_cell : (x y : Cell) → x.region.tag ≡ y.region.tag → x.region.tracker ≡ y.region.tracker → x.bytes ≡ y.bytes → x ≡ y
same_cell x y t r b =
    ap (λ q. let k : Cell = record { region = record { tag = q; tracker = x.region.tracker }; bytes = x.bytes } in k) t
    ∙ ap (λ q. let k : Cell = record { region = record { tag = y.region.tag; tracker = q }; bytes = x.bytes } in k) r
    ∙ ap (λ q. let k : Cell = record { region = y.region; bytes = q } in k) b

cell_more : (told : Bool) (h : Hold) (xs ys : List ℕ) (x : Cell) → EndsBehind h.gap.id (h.gap.upto + length xs) x.region.tracker.gaps
    → stored_cell told (moved_hold (h.gap.upto + length xs) h) ys (stored_cell told h xs x) ≡ stored_cell told h (xs ++ ys) x
cell_more told h xs ys x behind =
    let to = h.gap.upto + length xs in
    let n : to + length ys ≡ h.gap.upto + length (xs ++ ys) = omega (arith, length-append xs ys) in
    same_cell (stored_cell told (moved_hold to h) ys (stored_cell told h xs x)) (stored_cell told h (xs ++ ys) x) refl
    (progress_more h.gap.id to (to + length ys) x.region.tracker (omega arith) behind ∙ ap (λ k. byte_states.progress h.gap.id k x.region.tracker) n)
    (told_more told h.gap.upto xs ys x.bytes)

hold_more : (h : Hold) (xs ys : List ℕ) → moved_hold (h.gap.upto + length xs + length ys) (moved_hold (h.gap.upto + length xs) h) ≡ moved_hold (h.gap.upto + length (xs ++ ys)) h
hold_more h xs ys = ap (λ k. moved_hold k h) (omega (arith, length-append xs ys))

-- a store twice in one cell and one hold
abbrev put_in : ℕ → ℕ → Cell → Hold → State → State
put_in a r x h s = with_hold a (Some h) (with_cell r x s)

put_twice : (a r : ℕ) (x y : Cell) (h k : Hold) (s : State) → put_in a r y k (put_in a r x h s) ≡ put_in a r y k s
put_twice a r x y h k s =
    ap (λ l. let t : State = record s { cells = l; holds = set (set s.holds a (Some h)) a (Some k) } in t) (set-set s.cells r x y)
    ∙ ap (λ l. let t : State = record s { cells = set s.cells r y; holds = l } in t) (set-set s.holds a (Some h) (Some k))

into_is : (a : ℕ) (h : Hold) (piece : List ℕ) (s : State) → store_into a h piece s ≡ put_in a h.region (stored_cell s.told h piece (cell_at s h.region)) (moved_hold (h.gap.upto + length piece) h) s
into_is a h piece s = refl

into_more : (a : ℕ) (h : Hold) (xs ys : List ℕ) (s : State) → h.region < length s.cells → EndsBehind h.gap.id (h.gap.upto + length xs) (cell_at s h.region).region.tracker.gaps
    → store_into a (moved_hold (h.gap.upto + length xs) h) ys (store_into a h xs s) ≡ store_into a h (xs ++ ys) s
into_more a h xs ys s inside behind =
    let to = h.gap.upto + length xs in
    let x = cell_at s h.region in
    let y = stored_cell s.told h xs x in
    let k = moved_hold to h in
    let t = put_in a h.region y k s in
    let here : cell_at t h.region ≡ y = get_or-set_same s.cells h.region y no_cell inside in
    ap (λ (q : Cell). put_in a h.region (stored_cell s.told k ys q) (moved_hold (to + length ys) k) t) here
    ∙ put_twice a h.region y (stored_cell s.told k ys y) k (moved_hold (to + length ys) k) s
    ∙ ap (λ (q : Cell). put_in a h.region q (moved_hold (to + length ys) k) s) (cell_more s.told h xs ys x behind)
    ∙ ap (λ (q : Hold). put_in a h.region (stored_cell s.told h (xs ++ ys) x) q s) (hold_more h xs ys)

pub store_more : {tells : Bool} {files : ℕ → ℕ → List ℕ} (s : State) (a : ℕ) (h : Hold) (xs ys : List ℕ) → Good tells files s → hold_at s a ≡ Some h
    → 0 < length ys → h.gap.upto + length xs + length ys ≤ h.gap.end
    → let t = store a (hold_at s a) xs s in store a (hold_at t a) ys t ≡ store a (hold_at s a) (xs ++ ys) s
store_more s a h xs ys good e some most =
    let opened : h.gap.upto < h.gap.end = omega (arith, some, most) in
    let behind : EndsBehind h.gap.id (h.gap.upto + length xs) (cell_at s h.region).region.tracker.gaps =
    λ j o at is. (let n = gap_ends s a h good e opened j o at is in omega (arith, n, some, most)) in
    let k = moved_hold (h.gap.upto + length xs) h in
    let t = store a (hold_at s a) xs s in
    ap (λ q. store a q ys t) (stored_hold_at s a h xs e)
    ∙ ap (λ q. store_into a k ys (store a q xs s)) e
    ∙ into_more a h xs ys s (good.holds a h e).region behind
    ∙ ap (λ q. store a q (xs ++ ys) s) (sym e)

-- ---- what a store keeps

pub record Moved (a : ℕ) (h : Hold) (n : ℕ) (s t : State) : Type 0 where
  pub hold : hold_at t a ≡ Some (moved_hold (h.gap.upto + n) h)
  pub actors : length t.holds ≡ length s.holds
  pub config : t.config ≡ s.config
  pub policy : t.policy ≡ s.policy
  pub gone : t.gone ≡ s.gone
  pub told : t.told ≡ s.told

pub held_more : (s : State) (a : ℕ) (h : Hold) (piece : List ℕ) → hold_at s a ≡ Some h → Moved a h (length piece) s (store a (hold_at s a) piece s)
held_more s a h piece e = record {
  hold = stored_hold_at s a h piece e;
  actors = rw e (length-set s.holds a _);
  config = rw e refl;
  policy = rw e refl;
  gone = rw e refl;
  told = rw e refl;
}

-- ---- what is left of a gap

-- what is told of the state where there is one
pub told_of : (P : State → Type 0) (o : Option State) (s : State) → IfSome o P → o ≡ Some s → P s
told_of P o s h e = let Q : Option State → Type 0 = λ q. IfSome q P in subst Q e h

-- what is told of a door
pub at_rest : (tells : Bool) (files : ℕ → ℕ → List ℕ) (d : DoorView) (s : State) → IfSome d.state (Agrees tells files d) → d.state ≡ Some s → Agrees tells files d s
at_rest tells files d s h e = told_of (Agrees tells files d) d.state s h e

-- what is told of a hold that has an open gap
hold_of : (o : Option Hold) → (hold_view o).upto < (hold_view o).gap_end → (h : Hold) × (o ≡ Some h)
hold_of None h = absurd (omega (arith, h))
hold_of (Some k) h = (k, refl)

rest_cut : (xs : List ℕ) (base from n end : ℕ) → n ≤ end - from → slice_of xs (base + from) n ++ slice_of xs (base + (from + n)) (end - (from + n)) ≡ slice_of xs (base + from) (end - from)
rest_cut xs base from n end le =
    let place : base + (from + n) ≡ base + from + n = omega arith in
    let sum : n + (end - (from + n)) ≡ end - from = omega (arith, le) in
    ap (λ k. slice_of xs (base + from) n ++ slice_of xs k (end - (from + n))) place
    ∙ slice_more xs (base + from) n (end - (from + n))
    ∙ ap (slice_of xs (base + from)) sum

-- n bytes of the file from `from` on, and then the rest, is the rest from `from` on: `told` is what is told of the actor's hold
pub rest_more : {tells : Bool} {files : ℕ → ℕ → List ℕ} (c : ReadSetting) (a file base from n end : ℕ) (s : State) (told : HoldView) → Good tells files s
    → told ≡ hold_view (hold_at s a) → told.upto ≡ from → told.gap_end ≡ end → n < end - from → base + end ≤ length (bytes_of c file)
    → rest_stored c a file base (from + n) end (store a (hold_at s a) (slice_of (bytes_of c file) (base + from) n) s) ≡ rest_stored c a file base from end s
rest_more c a file base from n end s told good is starts ends less inside =
    let upto : (hold_view (hold_at s a)).upto ≡ from = ap (λ (t : HoldView). t.upto) (sym is) ∙ starts in
    let last : (hold_view (hold_at s a)).gap_end ≡ end = ap (λ (t : HoldView). t.gap_end) (sym is) ∙ ends in
    let k = hold_of (hold_at s a) (omega (arith, upto, last, less)) in
    let first : k.0.gap.upto ≡ from = sym (ap (λ o. (hold_view o).upto) k.1) ∙ upto in
    let final : k.0.gap.end ≡ end = sym (ap (λ o. (hold_view o).gap_end) k.1) ∙ last in
    let xs = slice_of (bytes_of c file) (base + from) n in
    let ys = slice_of (bytes_of c file) (base + (from + n)) (end - (from + n)) in
    let m : length xs ≡ n = slice_length (bytes_of c file) (base + from) n (omega (arith, inside, less)) in
    let r : length ys ≡ end - (from + n) = slice_length (bytes_of c file) (base + (from + n)) (end - (from + n)) (omega (arith, inside, less)) in
    store_more s a k.0 xs ys good k.1 (omega (arith, r, less)) (omega (arith, m, r, first, final, less))
    ∙ ap (λ l. store a (hold_at s a) l s) (rest_cut (bytes_of c file) base from n end (omega (arith, less)))

-- the last piece
pub rest_last : (c : ReadSetting) (a file base from n end : ℕ) (s : State) → n ≡ end - from → store a (hold_at s a) (slice_of (bytes_of c file) (base + from) n) s ≡ rest_stored c a file base from end s
rest_last c a file base from n end s e = ap (λ k. store a (hold_at s a) (slice_of (bytes_of c file) (base + from) k) s) e

-- nothing is stored yet
pub stored_none : (c : ReadSetting) (a file base from end : ℕ) (s : State) (now : Option State) → now ≡ Some s → from < end → StoredTo c a file base from from end s now
stored_none c a file base from end s now is less = record {
  state = s;
  is = is;
  actors = refl;
  more = λ h. refl;
  all = λ h. absurd (omega (arith, less, h));
}

store_actors : (a : ℕ) (o : Option Hold) (piece : List ℕ) (s : State) → length (store a o piece s).holds ≡ length s.holds
store_actors a None piece s = refl
store_actors a (Some h) piece s = length-set s.holds a _

-- and one piece more: `good` and `told` are those of the state before the piece
pub stored_more : {tells : Bool} {files : ℕ → ℕ → List ℕ} (c : ReadSetting) (a file base from at n end : ℕ) (s : State) (before now : Option State) (piece : List ℕ) (told : HoldView)
    → at < end → at + n ≤ end → base + end ≤ length (bytes_of c file) → piece ≡ slice_of (bytes_of c file) (base + at) n
    → ((t : State) → before ≡ Some t → Good tells files t × (told ≡ hold_view (hold_at t a))) → told.upto ≡ at → told.gap_end ≡ end
    → now ≡ option_map (λ t. store a (hold_at t a) piece t) before → StoredTo c a file base from at end s before → StoredTo c a file base from (at + n) end s now
stored_more c a file base from at n end s before now piece told less most inside is known starts ends stored h =
    let t = h.state in
    let g = known t h.is in
    let xs = slice_of (bytes_of c file) (base + at) n in
    let was : rest_stored c a file base at end t ≡ rest_stored c a file base from end s = h.more less in
    record {
      state = store a (hold_at t a) xs t;
      is = stored ∙ ap (option_map (λ u. store a (hold_at u a) piece u)) h.is ∙ ap (λ l. Some (store a (hold_at t a) l t)) is;
      actors = store_actors a (hold_at t a) xs t ∙ h.actors;
      more = λ rest. rest_more c a file base at n end t told g.0 g.1 starts ends (omega (arith, rest)) inside ∙ was;
      all = λ done. rest_last c a file base at n end t (omega (arith, done, most)) ∙ was;
    }

-- the gap is stored
pub stored_all : (c : ReadSetting) (a file base : ℕ) (gap : ByteRange) (s : State) (now : Option State) → StoredTo c a file base gap.start gap.end gap.end s now → now ≡ Some (gap_stored c a file base (Some gap) s)
stored_all c a file base gap s now h = h.is ∙ ap Some (h.all (omega arith))

-- behind an entry that holds a region: its gap is stored, and the hold given back
pub after_gap : (c : ReadSetting) (a file base r : ℕ) (gap : Option ByteRange) (s : State) → let t = gap_stored c a file base gap s in after (Held r gap) a (bytes_of c file) base s ≡ leave a (hold_at t a) t
after_gap c a file base r None s = refl
after_gap c a file base r (Some g) s = refl
