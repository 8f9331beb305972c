-- Where one actor works alone and its gap is closed, no byte is pending.
use Rattle.std.proofs.Common.{arith, ◌≡◌, ◌<◌, ◌≤◌, ℕ, zero, suc, Bool, true, false, List, [], ◌∷◌, sym, subst, ◌∙◌, ap, inl, inr, refl, length, take, drop, get_or, Option, Some, None}
use Rattle.std.specs.Prelude.{◌==◌, nat_lt, slice_get, slice_range}
use Rattle.std.specs.List.{list_any, list_all}
use Rattle.std.proofs.lemmas.Bool.{cases_Bool, false≢true}
use Rattle.std.proofs.lemmas.Bool.Decides.{nat_tests}
use Rattle.sparse_tracker.specs.declared.gaps.OpenGap.{OpenGap}
use Rattle.sparse_tracker.specs.ByteStates.{ByteState, absent, pending, present, Tracker, is_absent, is_present, byte_states_in}
use Rattle.sparse_tracker.specs.Kept.{GapsFit}
use Rattle.sparse_tracker.specs.Weights.{total}
use Rattle.region_cell.specs.declared.taken.Taken.TheVariants as taken
use Rattle.cache_door.specs.declared.hold.Hold.{Hold}
use Rattle.cache_door.specs.Machine.{State, cell_at, hold_at, take_bytes}
use Rattle.cache_door.specs.Good.{Good, weigh_hold, hold_gap}
use Rattle.cache_door.specs.Doors.{hold_view}
use Rattle.cache_door.specs.Laws.{NeverWaits}
use Rattle.cache_door.proofs.Mapping.{no_weight}
use Rattle.cache_door.proofs.OneOwner.{some_none, held_inside}

-- ---- lists

-- a list of one entry weighs what that does
pub one_total : {X : Type 0} (f : X → ℕ) (xs : List X) (a : ℕ) (x d : X) → length xs ≡ 1 → a < length xs → get_or xs a d ≡ x → total f xs ≡ f x
one_total f [] a x d l h e = absurd (omega (arith, l))
one_total f (y ∷ []) zero x d l h e = let k = ap f e in omega (arith, k)
one_total f (y ∷ []) (suc a) x d l h e = absurd (omega (arith, h))
one_total f (y ∷ z ∷ zs) a x d l h e = absurd (omega (arith, l))

pub take_get : {X : Type 0} (k i : ℕ) (xs : List X) (x : X) → slice_get (take k xs) i ≡ Some x → slice_get xs i ≡ Some x
take_get zero i xs x e = absurd (some_none e)
take_get (suc k) i [] x e = absurd (some_none e)
take_get (suc k) zero (y ∷ ys) x e = e
take_get (suc k) (suc i) (y ∷ ys) x e = take_get k i ys x e

pub drop_get : {X : Type 0} (k i : ℕ) (xs : List X) (x : X) → slice_get (drop k xs) i ≡ Some x → (j : ℕ) × (slice_get xs j ≡ Some x)
drop_get zero i xs x e = (i, e)
drop_get (suc k) i [] x e = absurd (some_none e)
drop_get (suc k) i (y ∷ ys) x e = let r = drop_get k i ys x e in (suc r.0, r.1)

-- the states of a sub-range are states of the list
pub cut_get : {X : Type 0} (start end i : ℕ) (xs : List X) (x : X) → slice_get (slice_range xs start end) i ≡ Some x → (j : ℕ) × (slice_get xs j ≡ Some x)
cut_get start end i xs x e = drop_get start i xs x (take_get _ i (drop start xs) x e)

pub all_there : (ls : List ByteState) → list_any is_absent ls ≡ false → ((i g : ℕ) → slice_get ls i ≡ Some (pending g) → ⊥) → list_all is_present ls ≡ true
all_there [] e n = refl
all_there (absent ∷ ls) e n = absurd (false≢true (sym e))
all_there (pending g ∷ ls) e n = absurd (n 0 g refl)
all_there (present ∷ ls) e n = all_there ls e (λ i g. n (suc i) g)

-- ---- the only actor

pub weigh_closed : (r : ℕ) (f : ℕ → ℕ → ℕ → ℕ) (h : Hold) → h.gap.end ≤ h.gap.upto → weigh_hold r (hold_gap f) (Some h) ≡ 0
weigh_closed r f h closed =
    let t : nat_lt h.gap.upto h.gap.end ≡ false = grind (arith, nat_tests) in
    rw t (elim (cases_Bool (h.region == r)) [ inl u ↦ rw u refl | inr u ↦ rw u refl ])

-- where it holds no open gap, no cell has one
pub no_gaps : {tells : Bool} {files : ℕ → ℕ → List ℕ} (s : State) (a r : ℕ) (h : Hold) → Good tells files s → length s.holds ≡ 1 → hold_at s a ≡ Some h → h.gap.end ≤ h.gap.upto → r < length s.cells
    → (cell_at s r).region.tracker.gaps ≡ []
no_gaps s a r h good one held closed inside =
    let f : ℕ → ℕ → ℕ → ℕ = λ n i e. 1 in
    no_weight (cell_at s r).region.tracker.gaps (
    sym (good.gaps r f inside)
    ∙ one_total (weigh_hold r (hold_gap f)) s.holds a (Some h) None one (held_inside s a h held) held
    ∙ weigh_closed r f h closed)

pub none_pending : (t : Tracker) → GapsFit t → t.gaps ≡ [] → (i g : ℕ) → slice_get t.byte_states i ≡ Some (pending g) → ⊥
none_pending t fit none i g e =
    let o = fit.owned i g e in
    let P : List OpenGap → Type 0 = λ l. slice_get l o.0 ≡ Some o.1 in
    some_none (subst P none o.2)

-- where none of its wanted bytes is absent, all are present
pub alone_present : {tells : Bool} {files : ℕ → ℕ → List ℕ} (s : State) (a : ℕ) (h : Hold) → Good tells files s → length s.holds ≡ 1 → hold_at s a ≡ Some h → h.gap.end ≤ h.gap.upto
    → let ls = byte_states_in h.sub.start h.sub.end (cell_at s h.region).region.tracker.byte_states in list_any is_absent ls ≡ false → list_all is_present ls ≡ true
alone_present s a h good one held closed none =
    let inside = (good.holds a h held).region in
    let t = (cell_at s h.region).region.tracker in
    let n = no_gaps s a h.region h good one held closed inside in
    all_there (byte_states_in h.sub.start h.sub.end t.byte_states) none
    (λ i g e. let c = cut_get h.sub.start h.sub.end i t.byte_states (pending g) e in none_pending t (good.cells h.region inside).tracker.gaps n c.0 g c.1)

failed_waits : taken.Failed ≡ taken.Waiting → ⊥
failed_waits e = cc

copied_waits : taken.Copied ≡ taken.Waiting → ⊥
copied_waits e = cc

held_waits : {tells : Bool} {files : ℕ → ℕ → List ℕ} (s : State) (a : ℕ) (o : Option Hold) → Good tells files s → length s.holds ≡ 1 → hold_at s a ≡ o → (hold_view o).gap_end ≤ (hold_view o).upto → take_bytes o s ≡ taken.Waiting → ⊥
held_waits s a None good one held closed e = failed_waits e
held_waits s a (Some h) good one held closed e =
    let ls = byte_states_in h.sub.start h.sub.end (cell_at s h.region).region.tracker.byte_states in
    elim (cases_Bool (list_any is_absent ls)) [
      | inl any ↦ elim (cases_Bool (list_all is_present ls)) [
        | inl all ↦ copied_waits (rw all at e)
        | inr some ↦ failed_waits (rw (some, any) at e)
      ]
      | inr none ↦ copied_waits (rw (alone_present s a h good one held closed none) at e)
    ]

pub never_waits : (tells : Bool) (files : ℕ → ℕ → List ℕ) → NeverWaits tells files
never_waits tells files s a good one closed e = held_waits s a (hold_at s a) good one refl closed e
