-- A part whose bytes are all present in the region that its key is mapped to: an entry claims nothing, and leaving gives the state back.
use Rattle.std.proofs.Common.{arith, ◌≡◌, ◌<◌, ◌≤◌, ◌+◌, ◌-◌, ◌*◌, ◌/◌, ℕ, zero, suc, Bool, true, List, [], ◌∷◌, ◌++◌, sym, subst, ◌∙◌, ap, inl, inr, refl, length, drop, set, get_or, Option, Some, None, length-drop, length-take}
use Rattle.std.specs.Prelude.{◌==◌, ◌&&◌, nat_le, slice_get, slice_range, option_and_then, IsTrue, min}
use Rattle.std.specs.List.{position_from, list_all}
use Rattle.std.proofs.Math.Nat.{lt-div-mul-add, div-mul-le_self}
use Rattle.std.proofs.lemmas.Bool.{cases_Bool, false≢true, and_parts}
use Rattle.std.proofs.lemmas.Bool.Decides.{nat_tests}
use Rattle.std.proofs.lemmas.List.{get_or-drop, get_or-take, get_or-set_same}
use Rattle.region_ranges.specs.declared.ranges.ByteRange.{ByteRange}
use Rattle.region_ranges.specs.Keys.{tag_of}
use Rattle.sparse_tracker.specs.declared.tickets.Ticket.{Ticket}
use Rattle.sparse_tracker.specs.ByteStates as byte_states
use Rattle.sparse_tracker.specs.ByteStates.{ByteState, absent, present, Tracker, is_present, least_unused, numbers, new_ticket, with_ticket, without_ticket, open_gap_at}
use Rattle.sparse_tracker.specs.Weights.{total}
use Rattle.cache_policy.specs.Policy.{PolicyView, find, is_tag}
use Rattle.region_cell.specs.Cells as cells
use Rattle.region_cell.specs.Cells.{Region, claim_run, range_round, len_of, are_present, region_bytes}
use Rattle.cache_door.specs.declared.answers.Want.{Want}
use Rattle.cache_door.specs.declared.answers.Entered.{Entered}
use Rattle.cache_door.specs.declared.answers.Entered.TheVariants.{Held}
use Rattle.cache_door.specs.declared.answers.Glance.TheVariants as glance
use Rattle.cache_door.specs.declared.hold.Hold.{Hold}
use Rattle.cache_door.specs.Machine as machine
use Rattle.cache_door.specs.Machine.{State, Cell, cell_at, hold_at, no_cell, hold_on, enter, leave, look, look_at}
use Rattle.cache_door.specs.Good.{Good, weigh_hold, hold_ticket}
use Rattle.cache_door.specs.Doors.{IsWant, HasLength}
use Rattle.cache_door.specs.Takes.{want_of, visit, taken_by, after, spread_over}
use Rattle.cache_reader.specs.declared.part.Last.{Last}
use Rattle.cache_reader.specs.Parts.{ReadSetting, bytes_of, places_of}
use Rattle.cache_reader.specs.Alone.{Fits, Outcome, part_outcome, unchanged, entry_of, fetched_by, direct_by}
use Rattle.cache_reader.proofs.Rooms.{found_inside}
use Rattle.sparse_tracker.proofs.Spots.{claim_some}
use Rattle.std.proofs.lemmas.List.Folds.{list_all_at}
use Rattle.std.proofs.lemmas.Option.{slice_get_within, get_or_from_slice_get}
use Rattle.cache_policy.proofs.Tags.{not_below, is_tag_at}
use Rattle.cache_door.proofs.Mapping.{no_weight}
use Rattle.cache_door.proofs.Frames.{set_twice}
use Rattle.cache_door.proofs.OneOwner.{some_none}

-- ---- a claim over present bytes

no_absent : (ls : List ByteState) (sub : ByteRange) (at : ℕ) → list_all is_present (slice_range ls sub.start sub.end) ≡ true → sub.start ≤ at → at < sub.end → slice_get ls at ≡ Some absent → ⊥
no_absent ls sub at all low high here =
    let within = slice_get_within ls at absent here in
    let there : get_or (slice_range ls sub.start sub.end) (at - sub.start) present ≡ absent =
    get_or-take (sub.end - sub.start) (drop sub.start ls) (at - sub.start) present (omega (arith, low, high))
    ∙ get_or-drop sub.start ls (at - sub.start) present
    ∙ ap (λ (i : ℕ). get_or ls i present) (let e : sub.start + (at - sub.start) ≡ at = omega (arith, low) in e)
    ∙ get_or_from_slice_get ls at absent present here in
    let long : length (slice_range ls sub.start sub.end) ≡ min (sub.end - sub.start) (length ls - sub.start) = length-take (sub.end - sub.start) (drop sub.start ls) ∙ ap (λ (n : ℕ). min (sub.end - sub.start) n) (length-drop sub.start ls) in
    let inside : at - sub.start < length (slice_range ls sub.start sub.end) = omega (arith, long, within, low, high) in
    false≢true (sym (list_all_at is_present (slice_range ls sub.start sub.end) (at - sub.start) present inside (ap is_present there)) ∙ all)

-- it takes nothing
claim_none : (range : ℕ) (sub : ByteRange) (c : Region) → 0 < range → sub.start < sub.end → sub.end ≤ len_of c → sub.start / range ≡ (sub.end - 1) / range → are_present sub c ≡ true → claim_run range sub c ≡ None
claim_none range sub c pos some inside one all = by_answer (claim_run range sub c) refl
  where
    low : sub.start / range * range ≤ sub.start
    low = div-mul-le_self sub.start range

    high : sub.end ≤ sub.start / range * range + range
    high =
        let last : sub.end - 1 < (sub.end - 1) / range * range + range = lt-div-mul-add {a = sub.end - 1} pos in
        let row : (sub.end - 1) / range * range ≡ sub.start / range * range = ap (λ n. n * range) (sym one) in
        omega (arith, last, row, some)

    by_answer : (o : Option ByteRange) → claim_run range sub c ≡ o → claim_run range sub c ≡ None
    by_answer None e = e
    by_answer (Some run) e =
        let first = claim_some (range_round range sub c) sub run c.tracker low some (omega (arith, high, inside)) (omega arith) e in
        absurd (no_absent c.tracker.byte_states sub first.0 all first.1.0.within.0 first.1.0.within.1 first.1.0.here)

-- ---- an entry that takes nothing, and the leave behind it

set_same : {X : Type 0} (xs : List X) (i : ℕ) (d x : X) → get_or xs i d ≡ x → i < length xs → set xs i x ≡ xs
set_same [] i d x e h = refl
set_same (y ∷ ys) zero d x e h = ap (λ (z : _). z ∷ ys) (sym e)
set_same (y ∷ ys) (suc i) d x e h = ap (λ (l : List _). y ∷ l) (set_same ys i d x e (omega (arith, h)))

-- the ticket that came last is the only one
without_new : (ts : List Ticket) (k : Ticket) → ts ≡ [] → without_ticket k.number (ts ++ k ∷ []) ≡ ts
without_new [] k e = let y : (k.number == k.number) ≡ true = grind (arith, nat_tests) in rw y refl
without_new (t ∷ ts) k e = absurd (cc)

left_tracker : (sub : ByteRange) (t : Tracker) (o : Option ByteRange) → o ≡ None → t.tickets ≡ [] → byte_states.leave (least_unused (numbers t.tickets)) (with_ticket sub (open_gap_at o t)) ≡ t
left_tracker sub t (Some run) n e = absurd (cc)
left_tracker sub t None n e = ap (λ (l : List Ticket). let r : Tracker = record t { tickets = l } in r) (without_new t.tickets (new_ticket sub t) e)

left_region : (range : ℕ) (sub : ByteRange) (c : Region) → claim_run range sub c ≡ None → c.tracker.tickets ≡ [] → cells.leave (least_unused (numbers c.tracker.tickets)) (cells.claim range sub c) ≡ c
left_region range sub c n e = ap (λ (t : Tracker). let r : Region = record c { tracker = t } in r) (left_tracker sub c.tracker (claim_run range sub c) n e)

hold_leave : (s : State) (a r : ℕ) (want : Want) → hold_at s a ≡ None → a < length s.holds → r < length s.cells → claim_run s.config.range want.sub (cell_at s r).region ≡ None → (cell_at s r).region.tracker.tickets ≡ []
    → leave a (hold_at (machine.hold a r want s).1 a) (machine.hold a r want s).1 ≡ s
hold_leave s a r want none actor inside run tickets =
    let c = cell_at s r in
    let k = hold_on s.config.range r want c.region in
    let x : Cell = record { region = cells.claim s.config.range want.sub c.region; bytes = c.bytes } in
    let u = (machine.hold a r want s).1 in
    let held : hold_at u a ≡ Some k = get_or-set_same s.holds a (Some k) None actor in
    let here : cell_at u r ≡ x = get_or-set_same s.cells r x no_cell inside in
    let left : Cell → Cell = λ y. record { region = cells.leave k.ticket y.region; bytes = y.bytes } in
    let back : left x ≡ c = ap (λ (g : Region). let y : Cell = record { region = g; bytes = c.bytes } in y) (left_region s.config.range want.sub c.region run tickets) in
    let made : List Cell → List (Option Hold) → State = λ cs hs. record s { cells = cs; holds = hs } in
    ap (λ (o : Option Hold). leave a o u) held
    ∙ ap (λ (y : Cell). made (set (set s.cells r x) r (left y)) (set (set s.holds a (Some k)) a None)) here
    ∙ ap (λ (y : Cell). made (set (set s.cells r x) r y) (set (set s.holds a (Some k)) a None)) back
    ∙ ap (λ (l : List Cell). made l (set (set s.holds a (Some k)) a None)) (set_twice s.cells r x c ∙ set_same s.cells r no_cell c refl inside)
    ∙ ap (λ (l : List (Option Hold)). made s.cells l) (set_twice s.holds a (Some k) None ∙ set_same s.holds a None None none actor)

-- ---- a region that nobody holds has no tickets

none_total : {X : Type 0} (f : X → ℕ) (xs : List X) (a : ℕ) (d : X) → length xs ≡ 1 → a < length xs → f (get_or xs a d) ≡ 0 → total f xs ≡ 0
none_total f [] a d l h e = absurd (omega (arith, l))
none_total f (y ∷ []) zero d l h e = omega (arith, e)
none_total f (y ∷ []) (suc a) d l h e = absurd (omega (arith, h))
none_total f (y ∷ z ∷ zs) a d l h e = absurd (omega (arith, l))

-- ---- what a look tells

looked : (want : Want) (c : Region) → look_at want c ≡ glance.Copied → (nat_le want.sub.end (len_of c) ≡ true) × (are_present want.sub c ≡ true)
looked want c e = elim (cases_Bool (c.tag == tag_of want.key)) [
  | inr f ↦ absurd (moved_copied (rw f at e))
  | inl t ↦ elim (cases_Bool (nat_le want.sub.end (len_of c) && are_present want.sub c)) [
    | inl y ↦ and_parts (nat_le want.sub.end (len_of c)) (are_present want.sub c) y
    | inr n ↦ absurd (absent_copied (rw (t, n) at e))
  ]
]
  where
    moved_copied : {w : ℕ} → glance.Moved w ≡ glance.Copied → ⊥
    moved_copied e = cc

    absent_copied : glance.Absent ≡ glance.Copied → ⊥
    absent_copied e = cc

-- what is found has the key
found_at : (tag : ℕ) (ts : List (Option ℕ)) (i g k : ℕ) → position_from (is_tag tag) i ts ≡ Some g → g ≡ i + k → option_and_then (λ t. t) (slice_get ts k) ≡ Some tag
found_at tag [] i g k h s = absurd (some_none h)
found_at tag (t ∷ ts) i g zero h s = elim (cases_Bool (is_tag tag t)) [
  | inl p ↦ is_tag_at tag t p
  | inr p ↦ let e = rw p at h in absurd (omega (arith, s, not_below (is_tag tag) ts (i + 1) g e))
]
found_at tag (t ∷ ts) i g (suc k) h s = elim (cases_Bool (is_tag tag t)) [
  | inl p ↦ let e : Some i ≡ Some g = rw p at h in let f : i ≡ g = cc in absurd (omega (arith, s, f))
  | inr p ↦ let e = rw p at h in found_at tag ts (i + 1) g k e (omega (arith, s))
]

module _ {tells : Bool} {files : ℕ → ℕ → List ℕ} (s : State) (good : Good tells files s) (archive : IsTrue tells) (a mount now : ℕ) (want : Want) (l : Last)
    (one : length s.holds ≡ 1) (actor : a < length s.holds) (none : hold_at s a ≡ None) (delta : 0 < s.config.min_delta) (fits : Fits mount now l s) (key : l.key ≡ want.key)
    (is_want : IsWant s.config want) (long : HasLength files s.config want) (copied : look l.region want s ≡ glance.Copied) where
  found : find (tag_of want.key) s.policy ≡ Some l.region
  found = let P : _ → Type 0 = λ k. find (tag_of k) s.policy ≡ Some l.region in subst P key fits.mapped

  inside : l.region < length s.cells
  inside = found_inside s good (tag_of want.key) l.region found

  len_is : (len_of (cell_at s l.region).region == want.len) ≡ true
  len_is =
      let m = good.mapped l.region (tag_of want.key) (found_at (tag_of want.key) s.policy.tags 0 l.region l.region found (omega arith)) in
      let w = (good.cells l.region inside).whole archive (λ e. m.1 (sym m.0 ∙ e)) in
      let e : len_of (cell_at s l.region).region ≡ want.len = w ∙ ap (λ (t : ℕ). length (region_bytes files s.config.region t)) m.0 ∙ sym long in
      grind (arith, nat_tests)

  run_none : claim_run s.config.range want.sub (cell_at s l.region).region ≡ None
  run_none =
      let seen = looked want (cell_at s l.region).region copied in
      let short = seen.0 in
      claim_none s.config.range want.sub (cell_at s l.region).region good.config.range.0 is_want.sub.0 (grind (arith, nat_tests)) is_want.sub.2 seen.1

  tickets_none : (cell_at s l.region).region.tracker.tickets ≡ []
  tickets_none =
      let f : ℕ → ℕ → ℕ → ℕ = λ n i e. 1 in
      let w : weigh_hold l.region (hold_ticket f) (hold_at s a) ≡ 0 = rw none refl in
      no_weight (cell_at s l.region).region.tracker.tickets (sym (good.tickets l.region f inside) ∙ none_total (weigh_hold l.region (hold_ticket f)) s.holds a None one actor w)

  entry_is : enter a mount want now s ≡ machine.hold a l.region want s
  entry_is = rw (fits.there, found, len_is) (ap (λ (p : PolicyView). let t : State = record s { policy = p } in machine.hold a l.region want t) (fits.touched delta))

  -- the entry takes no gap, and leaving gives the state back
  pub glanced : ((enter a mount want now s).0 ≡ Held l.region None) × (leave a (hold_at (enter a mount want now s).1 a) (enter a mount want now s).1 ≡ s)
  glanced = (
    ap (λ (x : Entered × State). x.0) entry_is ∙ ap (λ (o : Option ByteRange). Held l.region o) run_none,
    ap (λ (x : Entered × State). leave a (hold_at x.1 a) x.1) entry_is ∙ hold_leave s a l.region want none actor inside run_none tickets_none,
  )

-- ---- so a visit of the part takes nothing and changes nothing

abbrev pair : List ByteRange → State → List ByteRange × State
pair l s = (l, s)

none_taken : (x : Entered × State) (a r base : ℕ) (bytes : List ℕ) (p : ByteRange) (s : State) → x.0 ≡ Held r None → leave a (hold_at x.1 a) x.1 ≡ s → pair (taken_by x.0 base p) (after x.0 a bytes base x.1) ≡ pair [] s
none_taken x a r base bytes p s e back =
    let P : Entered → Type 0 = λ y. pair (taken_by y base p) (after y a bytes base x.1) ≡ pair [] s in
    subst P (sym e) (ap (λ (t : State). pair [] t) back)

module _ {tells : Bool} {files : ℕ → ℕ → List ℕ} (s : State) (good : Good tells files s) (archive : IsTrue tells) (a : ℕ) (p : ByteRange) (l : Last) (one : length s.holds ≡ 1) (actor : a < length s.holds) (none : hold_at s a ≡ None) (delta : 0 < s.config.min_delta) where
  pub visited : (mount m f now : ℕ) (bytes : List ℕ) → Fits mount now l s → let want = want_of s.config.region m f (length bytes) p in
      l.key ≡ want.key → IsWant s.config want → HasLength files s.config want → look l.region want s ≡ glance.Copied → visit a mount m f bytes now p s ≡ ([], s)
  visited mount m f now bytes fits key is_want long copied =
      let want = want_of s.config.region m f (length bytes) p in
      let g = glanced s good archive a mount now want l one actor none delta fits key is_want long copied in
      none_taken (enter a mount want now s) a l.region (p.start / s.config.region * s.config.region) bytes p s g.0 g.1

  pub glanced_part : (c : ReadSetting) (file : ℕ) → Fits c.mount c.now l s → let want = want_of s.config.region c.table.number file (length (bytes_of c file)) p in
      l.key ≡ want.key → IsWant s.config want → HasLength files s.config want → look l.region want s ≡ glance.Copied → part_outcome c a file p s ≡ unchanged s
  glanced_part c file fits key is_want long copied =
      let want = want_of s.config.region c.table.number file (length (bytes_of c file)) p in
      let g = glanced s good archive a c.mount c.now want l one actor none delta fits key is_want long copied in
      let made : List ByteRange × State → Entered → Outcome = λ x e. record { places = spread_over (places_of c file) x.0; fetched = fetched_by e; direct = direct_by e p; state = x.1 } in
      ap (λ (x : List ByteRange × State). made x (entry_of c a file p s)) (visited c.mount c.table.number file c.now (bytes_of c file) fits key is_want long copied)
      ∙ ap (λ (e : Entered). made (pair [] s) e) g.0
