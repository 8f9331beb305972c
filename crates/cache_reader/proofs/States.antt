-- What calls of a door make of the state, where it is told.
use Rattle.std.proofs.Common.{arith, ◌≡◌, ◌≢◌, ◌≤◌, ◌-◌, ◌∙◌, ℕ, List, Bool, true, false, Option, Some, None, Result, Ok, Err, refl, ap, sym, subst, length}
use Rattle.std.specs.Prelude.{OnOk, OnErr, IfSome, option_map, is_ok}
use Rattle.region_ranges.specs.declared.ranges.ByteRange.{ByteRange}
use Rattle.region_ranges.specs.declared.keys.Config.{Config}
use Rattle.region_cell.specs.Cells.{region_bytes}
use Rattle.blob_parts.specs.Content.{slice_of}
use Rattle.cache_reader.specs.Filling.{SameHold}
use Rattle.byte_text.specs.Counts.{Rose}
use Rattle.region_cell.specs.declared.taken.Taken.{Taken}
use Rattle.region_cell.specs.declared.taken.Taken.TheVariants as taken
use Rattle.cache_door.specs.declared.hold.Hold.{Hold}
use Rattle.cache_door.specs.Machine.{State, hold_at, fail, leave, take_bytes}
use Rattle.cache_door.specs.Good.{Good}
use Rattle.cache_door.specs.Doors.{DoorView, HoldView, hold_view, nothing, SameState, Becomes, CopyOrFault, AnswersCopy, FrameFails, taking, storing, failing, leaving}
use Rattle.cache_reader.specs.Reports.{Grew}
use Rattle.cache_reader.specs.Parts.{ReadSetting}
use Rattle.cache_reader.specs.Stored.{gap_stored}
use Rattle.cache_reader.specs.Holds.{Unfailed}
use Rattle.cache_reader.specs.Alone.{SamePolicy, Copies}
use Rattle.cache_reader.proofs.Joins.{rose_first, rose_then, grew_more}
use Rattle.cache_reader.proofs.Rooms.{policy_more, stored_policy, left_policy, present_policy}
use Rattle.cache_reader.proofs.Gaps.{gap_copied}

pub on_ok : {T E : Type 0} (r : Result T E) (P : Type 0) → OnOk r P → is_ok r ≡ true → P
on_ok (Ok x) P h e = h
on_ok (Err x) P h e = absurd (cc)

-- ---- the policy

fail_policy : (s : State) (a : ℕ) (o : Option Hold) → SamePolicy (Some s) (Some (fail a o s))
fail_policy s a None = (refl, refl, refl)
fail_policy s a (Some h) = (refl, refl, refl)

failed_policy : (a : ℕ) (x : Option State) → SamePolicy x (option_map (failing a) x)
failed_policy a None = refl
failed_policy a (Some s) = fail_policy s a (hold_at s a)

pub stored_kept : {T E : Type 0} (r : Result T E) (a : ℕ) (piece : List ℕ) (x y : Option State) → OnOk r (y ≡ option_map (storing piece a) x) → OnErr r (SameState x y) → SamePolicy x y
stored_kept (Ok v) a piece x y h k = subst (λ o. SamePolicy x o) (sym h) (stored_policy a piece x)
stored_kept (Err e) a piece x y h k = present_policy x y k

pub failed_kept : (a : ℕ) (x y z : Option State) → SamePolicy x y → z ≡ option_map (failing a) y → SamePolicy x z
failed_kept a x y z h e = policy_more x y z h (subst (λ o. SamePolicy y o) (sym e) (failed_policy a y))

pub left_kept : (a : ℕ) (x y z : Option State) → SamePolicy x y → z ≡ option_map (leaving a) y → SamePolicy x z
left_kept a x y z h e = policy_more x y z h (subst (λ o. SamePolicy y o) (sym e) (left_policy a y))

-- ---- a hold that is given back

pub left_by : (d e f : DoorView) → Becomes e f leaving → e.state ≡ d.state → e.actor ≡ d.actor → Becomes d f leaving
left_by d e f left same actor = left ∙ ap (option_map (leaving e.actor)) same ∙ ap (λ n. option_map (leaving n) d.state) actor

pub left_at : (a b : ℕ) (y z : Option State) (t : State) → z ≡ option_map (leaving b) y → y ≡ Some t → b ≡ a → z ≡ Some (leave a (hold_at t a) t)
left_at a b y z t e f g = e ∙ ap (option_map (leaving b)) f ∙ ap (λ n. Some (leaving n t)) g

pub told_none : (o : Option Hold) → nothing ≡ hold_view o → o ≡ None
told_none None e = refl
told_none (Some h) e = let k : false ≡ true = ap (λ (t : HoldView). t.held) e in absurd (cc)

-- ---- a take

copies_not : (r : Taken) (x : Option State) (a before mid now : ℕ) → r ≢ taken.Copied → IfSome x (λ s. CopyOrFault taken.Copied taken.FrameFault (taking a s) r) → (r ≡ taken.FrameFault → Rose before mid) → mid ≤ now
    → IfSome x (Copies a before now false)
copies_not r None a before mid now other answer fault le = tt
copies_not taken.Copied (Some s) a before mid now other answer fault le = absurd (other refl)
copies_not taken.Waiting (Some s) a before mid now other answer fault le = λ took calm. (let e : taken.Waiting ≡ taken.Copied = answer.same (λ f. (cc)) ∙ took in absurd (cc))
copies_not taken.Failed (Some s) a before mid now other answer fault le = λ took calm. (let e : taken.Failed ≡ taken.Copied = answer.same (λ f. (cc)) ∙ took in absurd (cc))
copies_not taken.FrameFault (Some s) a before mid now other answer fault le = λ took calm. absurd (calm (rose_first before mid now le (fault refl)))

pub copies_true : (x : Option State) (a before now : ℕ) → IfSome x (Copies a before now true)
copies_true None a before now = tt
copies_true (Some s) a before now = λ took calm. refl

pub copies_false : (r : Taken) (d e f : DoorView) → r ≢ taken.Copied → AnswersCopy d taken.Copied taken.FrameFault taking r → (r ≡ taken.FrameFault → FrameFails d e) → e.frame_faults ≤ f.frame_faults
    → IfSome d.state (Copies d.actor d.frame_faults f.frame_faults false)
copies_false r d e f other answer fault le = copies_not r d.state d.actor d.frame_faults e.frame_faults f.frame_faults other answer (λ is. (fault is).rose) le

-- behind the store of its gap a hold is copied
pub held_copies : {tells : Bool} {files : ℕ → ℕ → List ℕ} (c : ReadSetting) (a b file base : ℕ) (gap : Option ByteRange) (s : State) (told : HoldView) (before mid now : ℕ) (copied : Bool)
    → Unfailed a s → length s.holds ≡ 1 → Good tells files (gap_stored c a file base gap s) → told ≡ hold_view (hold_at (gap_stored c a file base gap s) b) → b ≡ a → told.gap_end ≤ told.upto
    → Copies b mid now copied (gap_stored c a file base gap s) → before ≤ mid → (Rose before now → ⊥) → copied ≡ true
held_copies c a b file base gap s told before mid now copied u one good is same closed copies le calm =
    let t = gap_stored c a file base gap s in
    let own : told ≡ hold_view (hold_at t a) = is ∙ ap (λ n. hold_view (hold_at t n)) same in
    let P : HoldView → Type 0 = λ k. k.gap_end ≤ k.upto in
    let took : take_bytes (hold_at t a) t ≡ taken.Copied = gap_copied c a file base gap s u one good (subst P own closed) in
    let Q : ℕ → Type 0 = λ n. take_bytes (hold_at t n) t ≡ taken.Copied in
    copies (subst Q (sym same) took) (λ rose. calm (rose_then before mid now le rose))

pub grew_then : (a b d n : ℕ) → Grew a b n → Grew b d 0 → Grew a d n
grew_then a b d n h k = subst (λ m. Grew a d m) (omega arith) (grew_more a b d n 0 h k)

-- the wanted bytes of a hold that stayed but for its gap
pub same_bytes : (files : ℕ → ℕ → List ℕ) (k j : Config) (h o : HoldView) → j ≡ k → SameHold h o
    → slice_of (region_bytes files j.region o.tag) o.sub.start (o.sub.end - o.sub.start) ≡ slice_of (region_bytes files k.region h.tag) h.sub.start (h.sub.end - h.sub.start)
same_bytes files k j h o e same =
    ap (λ (g : Config). slice_of (region_bytes files g.region o.tag) o.sub.start (o.sub.end - o.sub.start)) e
    ∙ ap (λ t. slice_of (region_bytes files k.region t) o.sub.start (o.sub.end - o.sub.start)) same.tag
    ∙ ap (λ (u : ByteRange). slice_of (region_bytes files k.region h.tag) u.start (u.end - u.start)) same.sub
