-- What an entry leaves of the policy: the key is mapped to the answer's region, and an access at the same time changes nothing.
use Rattle.std.proofs.Common.{append-nil, append_assoc, arith, ◌≡◌, ◌<◌, ◌+◌, ◌-◌, ◌*◌, ℕ, zero, suc, Bool, true, false, List, [], ◌∷◌, ◌++◌, sym, subst, ◌∙◌, ap, inl, inr, refl, length, set, get_or, Option, Some, None}
use Rattle.std.specs.Prelude.{◌==◌, ◌&&◌, nat_lt, nat_le, not, slice_index, IfSome, option_map}
use Rattle.std.specs.List.{position_from}
use Rattle.std.proofs.lemmas.Bool.{cases_Bool, false≢true, or_cases, eq-eqb, eqb-true}
use Rattle.std.proofs.lemmas.Bool.Decides.{nat_tests}
use Rattle.std.proofs.lemmas.List.{get_or-set_same, length-set}
use Rattle.std.proofs.lemmas.List.Folds.{list_any-append}
use Rattle.region_ranges.specs.declared.ranges.ByteRange.{ByteRange}
use Rattle.region_ranges.specs.declared.keys.Config.{Config}
use Rattle.region_ranges.specs.Keys.{tag_of}
use Rattle.freq_lists.specs.Lists.{is_in, times, list_of, push_back, unlink, head}
use Rattle.freq_lists.proofs.Counts.{is_in_times}
use Rattle.cache_policy.specs.Policy.{PolicyView, find, is_tag, settle, settle_all, rise}
use Rattle.cache_policy.specs.Ageing.{touch, touch_at, waited, map_front, candidates, candidates_in}
use Rattle.cache_policy.specs.Kept as policy
use Rattle.region_cell.specs.Cells.{claim_run, len_of}
use Rattle.cache_door.specs.declared.answers.Want.{Want}
use Rattle.cache_door.specs.declared.answers.Entered.TheVariants.{Held}
use Rattle.cache_door.specs.declared.hold.Hold.{Hold}
use Rattle.cache_door.specs.Machine.{State, cell_at, is_gone, is_held_by, unheld_by, settled_by, evicted, room_by, make_room, place, enter, enter_at, store, leave, hold_at}
use Rattle.cache_door.specs.Good.{Good}
use Rattle.cache_door.specs.Doors.{SameState, storing, leaving}
use Rattle.cache_reader.specs.declared.part.Last.{Last}
use Rattle.cache_reader.specs.Alone.{Fits, LastFits, SamePolicy}
use Rattle.cache_door.proofs.OneOwner.{some_none}
use Rattle.cache_door.proofs.ClaimsAbsent.{room_held, gone_held}
use Rattle.cache_door.proofs.Places.{kept_in}
use Rattle.cache_door.proofs.Fronts.{placed_inside as below}
use Rattle.cache_door.proofs.Mapping.{head_in}
use Rattle.cache_door.proofs.Enters.{room_find}

-- ---- members of lists

listed_times : (r : ℕ) (ls : List (List ℕ)) → is_in r (candidates_in ls) ≡ true → 0 < times r ls
listed_times r [] e = absurd (false≢true e)
listed_times r (l ∷ ls) e = elim (or_cases (is_in r l) (is_in r (candidates_in ls)) (sym (list_any-append (λ m. m == r) l (candidates_in ls)) ∙ e)) [
  | inl i ↦ let k = is_in_times r l i in omega (arith, k)
  | inr i ↦ let k = listed_times r ls i in omega (arith, k)
]

-- ---- room for a key: regions, times and the least interval stay, and each free region is one of the policy's

pub record Roomed (p q : PolicyView) : Type 0 where
  pub tags : length q.tags ≡ length p.tags
  pub last_accesses : q.last_accesses ≡ p.last_accesses
  pub delta : q.min_delta ≡ p.min_delta
  pub inside : (r : ℕ) → is_in r q.free ≡ true → r < length p.tags

record Settled (rs : List ℕ) (p q : PolicyView) : Type 0 where
  tags : q.tags ≡ p.tags
  lists : q.lists ≡ p.lists
  last_accesses : q.last_accesses ≡ p.last_accesses
  delta : q.min_delta ≡ p.min_delta
  free : q.free ≡ p.free ++ rs

settled_all : (rs : List ℕ) (p : PolicyView) → Settled rs p (settle_all rs p)
settled_all [] p = record { tags = refl; lists = refl; last_accesses = refl; delta = refl; free = sym (append-nil p.free) }
settled_all (r ∷ rs) p = let k = settled_all rs (settle r p) in record {
  tags = k.tags;
  lists = k.lists;
  last_accesses = k.last_accesses;
  delta = k.delta;
  free = k.free ∙ append_assoc p.free (r ∷ []) rs;
}

module _ (holds : List (Option Hold)) (p : PolicyView) (good : policy.IsGood p) where
  abbrev rs : List ℕ
  rs = unheld_by holds p.leaving

  settled_is : Settled rs p (settled_by holds p)
  settled_is = settled_all rs p

  free_inside : (r : ℕ) → is_in r (settled_by holds p).free ≡ true → r < length p.tags
  free_inside r e =
      let P : List ℕ → Type 0 = λ l. is_in r l ≡ true in
      elim (or_cases (is_in r p.free) (is_in r rs) (sym (list_any-append (λ m. m == r) p.free rs) ∙ subst P settled_is.free e)) [
        | inl i ↦ let k = is_in_times r p.free i in below p r good (omega (arith, k))
        | inr i ↦ let k = is_in_times r p.leaving (kept_in (λ m. not (is_held_by holds m)) r p.leaving i) in below p r good (omega (arith, k))
      ]

  settled_room : Roomed p (settled_by holds p)
  settled_room = record { tags = ap (λ (l : List (Option ℕ)). length l) settled_is.tags; last_accesses = settled_is.last_accesses; delta = settled_is.delta; inside = free_inside }

  evicted_room : (o : Option ℕ) → head (unheld_by holds (candidates (settled_by holds p))) ≡ o → Roomed p (evicted o (settled_by holds p))
  evicted_room None e = settled_room
  evicted_room (Some q) e =
      let s = settled_by holds p in
      let c = kept_in (λ m. not (is_held_by holds m)) q (candidates s) (head_in q (unheld_by holds (candidates s)) e) in
      let P : List (List ℕ) → Type 0 = λ l. is_in q (candidates_in l) ≡ true in
      let t = listed_times q p.lists (subst P settled_is.lists c) in
      record {
        tags = length-set s.tags q None ∙ settled_room.tags;
        last_accesses = settled_is.last_accesses;
        delta = settled_is.delta;
        inside = λ r i. elim (or_cases (is_in r s.free) (is_in r (q ∷ [])) (sym (list_any-append (λ m. m == r) s.free (q ∷ [])) ∙ i)) [
          | inl j ↦ free_inside r j
          | inr j ↦ elim (cases_Bool (q == r)) [
            | inl y ↦ (let f = below p q good (omega (arith, t)) in let g = eqb-true q r y in omega (arith, f, g))
            | inr n ↦ absurd (false≢true (rw n at j))
          ]
        ];
      }

  pub roomed : Roomed p (room_by holds p)
  roomed = elim (cases_Bool (0 == length (settled_by holds p).free)) [
    | inl t ↦ rw t (evicted_room (head (unheld_by holds (candidates (settled_by holds p)))) refl)
    | inr f ↦ rw f settled_room
  ]

-- ---- what a search for the key finds then

find_mapped : (tag i r : ℕ) (ts : List (Option ℕ)) → position_from (is_tag tag) i ts ≡ None → r < length ts → position_from (is_tag tag) i (set ts r (Some tag)) ≡ Some (i + r)
find_mapped tag i r [] e h = absurd (omega (arith, h))
find_mapped tag i zero (t ∷ ts) e h = let y : (tag == tag) ≡ true = eq-eqb tag tag refl in let z : i ≡ i + 0 = omega arith in rw y (ap (λ (k : ℕ). Some k) z)
find_mapped tag i (suc r) (t ∷ ts) e h = elim (cases_Bool (is_tag tag t)) [
  | inl y ↦ absurd (some_none (sym (rw y at e)))
  | inr n ↦ let z : i + 1 + r ≡ i + suc r = omega arith in rw n (find_mapped tag (i + 1) r ts (rw n at e) (omega (arith, h)) ∙ ap (λ (k : ℕ). Some k) z)
]

find_inside : (tag i r : ℕ) (ts : List (Option ℕ)) → position_from (is_tag tag) i ts ≡ Some r → r < i + length ts
find_inside tag i r [] e = absurd (some_none e)
find_inside tag i r (t ∷ ts) e = elim (cases_Bool (is_tag tag t)) [
  | inl y ↦ let f : Some i ≡ Some r = rw y at e in let g : i ≡ r = (cc) in omega (arith, g)
  | inr n ↦ let k = find_inside tag (i + 1) r ts (rw n at e) in omega (arith, k)
]

-- ---- an access at the time of the last one changes nothing

not_waited : (p : PolicyView) (r now : ℕ) → slice_index p.last_accesses r ≡ now → 0 < p.min_delta → waited 1 r now p ≡ false
not_waited p r now e some = rw e (let t : nat_le (1 * p.min_delta) (now - now) ≡ false = grind (arith, nat_tests) in t)

touch_stands : (o : Option ℕ) (p : PolicyView) (r now : ℕ) → waited 1 r now p ≡ false → touch_at o r now p ≡ p
touch_stands None p r now e = refl
touch_stands (Some f) p r now e = rw e refl

touched_again : (o : Option ℕ) (p : PolicyView) (r now : ℕ) → list_of r p.lists ≡ o → 0 < p.min_delta → r < length p.last_accesses → touch r now (touch_at o r now p) ≡ touch_at o r now p
touched_again None p r now e some inside = rw e refl
touched_again (Some f) p r now e some inside = elim (cases_Bool (waited 1 r now p && nat_lt (f + 1) (length p.lists))) [
  | inl t ↦
      let q : PolicyView = record p { lists = push_back (f + 1) r (unlink r p.lists); last_accesses = set p.last_accesses r now; promotions = rise p.promotions 1 } in
      rw t (touch_stands (list_of r q.lists) q r now (not_waited q r now (get_or-set_same p.last_accesses r now 0 inside) some))
  | inr n ↦ rw n (rw e (rw n refl))
]

pub touch_again : (p : PolicyView) (r now : ℕ) → 0 < p.min_delta → r < length p.last_accesses → touch r now (touch r now p) ≡ touch r now p
touch_again p r now some inside = touched_again (list_of r p.lists) p r now refl some inside

touched_tags : (o : Option ℕ) (p : PolicyView) (r now : ℕ) → (touch_at o r now p).tags ≡ p.tags
touched_tags None p r now = refl
touched_tags (Some f) p r now = elim (cases_Bool (waited 1 r now p && nat_lt (f + 1) (length p.lists))) [ inl t ↦ rw t refl | inr n ↦ rw n refl ]

pub touch_find : (tag : ℕ) (p : PolicyView) (r now : ℕ) → find tag (touch r now p) ≡ find tag p
touch_find tag p r now = ap (λ (l : List (Option ℕ)). position_from (is_tag tag) 0 l) (touched_tags (list_of r p.lists) p r now)

-- ---- the entry

pub held_same : (r q : ℕ) (o p : Option ByteRange) → Held r o ≡ Held q p → (r ≡ q) × (o ≡ p)
held_same r q o p e = (cc, cc)

module _ {tells : Bool} {files : ℕ → ℕ → List ℕ} (s : State) (good : Good tells files s) where
  pub found_inside : (tag r : ℕ) → find tag s.policy ≡ Some r → r < length s.cells
  found_inside tag r e = let k = find_inside tag 0 r s.policy.tags e in omega (arith, k, good.counts.tags, good.counts.cells)

  pub front_inside : (r : ℕ) → head (make_room s).free ≡ Some r → r < length s.cells
  front_inside r e =
      let k = (roomed s.holds s.policy good.policy).inside r (head_in r (make_room s).free e) in
      omega (arith, k, good.counts.tags, good.counts.cells)

  accessed : (r : ℕ) → r < length s.cells → r < length s.policy.last_accesses
  accessed r h = omega (arith, h, good.policy.last_accesses, good.counts.tags, good.counts.cells)

  delta : 0 < s.config.min_delta → 0 < s.policy.min_delta
  delta h = omega (arith, h, good.counts.delta)

  module _ (a mount now : ℕ) (want : Want) (live : is_gone s mount ≡ false) where
    place_fits : (o : Option ℕ) (r : ℕ) (gap : Option ByteRange) → head (make_room s).free ≡ o → find (tag_of want.key) s.policy ≡ None → (place a o (make_room s) want now s).0 ≡ Held r gap
        → Fits mount now (record { key = want.key; region = r }) (place a o (make_room s) want now s).1
    place_fits None r gap front none e = absurd (room_held e)
    place_fits (Some q) r gap front none e =
        let same = (held_same q r _ gap e).0 in
        let p = make_room s in
        let room = roomed s.holds s.policy good.policy in
        let inside = front_inside q front in
        let n : q < length p.tags = omega (arith, room.tags, inside, good.counts.tags, good.counts.cells) in
        let m : q < length p.last_accesses = (let l = ap (λ (l : List ℕ). length l) room.last_accesses in let k = accessed q inside in omega (arith, l, k)) in
        let w = map_front q (tag_of want.key) now p in
        let P : ℕ → Type 0 = λ k. Fits mount now (record { key = want.key; region = k }) (place a (Some q) (make_room s) want now s).1 in
        let z : 0 + q ≡ q = omega arith in
        subst P same (record {
          there = live;
          mapped = find_mapped (tag_of want.key) 0 q p.tags (room_find (tag_of want.key) s.holds s.policy none) n ∙ ap (λ (k : ℕ). Some k) z;
          touched = λ some. touch_stands (list_of q w.lists) w q now (not_waited w q now (get_or-set_same p.last_accesses q now 0 m) (let d = delta some in omega (arith, d, room.delta)));
        })

    found_fits : (o : Option ℕ) (r : ℕ) (gap : Option ByteRange) → find (tag_of want.key) s.policy ≡ o → (enter_at o a want now s).0 ≡ Held r gap
        → Fits mount now (record { key = want.key; region = r }) (enter_at o a want now s).1
    found_fits None r gap found e = place_fits (head (make_room s).free) r gap refl found e
    found_fits (Some q) r gap found e = elim (cases_Bool (len_of (cell_at s q).region == want.len)) [
      | inl t ↦
          let f : Held q (claim_run s.config.range want.sub (cell_at s q).region) ≡ Held r gap = rw t at e in
          let same = (held_same q r (claim_run s.config.range want.sub (cell_at s q).region) gap f).0 in
          let P : ℕ → Type 0 = λ k. Fits mount now (record { key = want.key; region = k }) (enter_at (Some q) a want now s).1 in
          subst P same (rw t (record {
            there = live;
            mapped = touch_find (tag_of want.key) s.policy q now ∙ found;
            touched = λ some. touch_again s.policy q now (delta some) (accessed q (found_inside (tag_of want.key) q found));
          }))
      | inr n ↦ absurd (room_held (rw n at e))
    ]

-- an entry that was answered by a hold leaves its mount, its key's region and the time of its access
pub room_policy : {tells : Bool} {files : ℕ → ℕ → List ℕ} (s : State) (a mount now : ℕ) (want : Want) (r : ℕ) (gap : Option ByteRange) → Good tells files s → (enter a mount want now s).0 ≡ Held r gap
    → Fits mount now (record { key = want.key; region = r }) (enter a mount want now s).1
room_policy s a mount now want r gap good e = elim (cases_Bool (is_gone s mount)) [
  | inl t ↦ absurd (gone_held (rw t at e))
  | inr f ↦ rw f (found_fits s good a mount now want f (find (tag_of want.key) s.policy) r gap refl (rw f at e))
]

-- ---- stores and leaves keep it

pub store_policy : (s : State) (a : ℕ) (o : Option Hold) (piece : List ℕ) → SamePolicy (Some s) (Some (store a o piece s))
store_policy s a None piece = (refl, refl, refl)
store_policy s a (Some h) piece = (refl, refl, refl)

pub leave_policy : (s : State) (a : ℕ) (o : Option Hold) → SamePolicy (Some s) (Some (leave a o s))
leave_policy s a None = (refl, refl, refl)
leave_policy s a (Some h) = (refl, refl, refl)

pub fits_kept : (mount now : ℕ) (l : Last) (s t : State) → SamePolicy (Some s) (Some t) → Fits mount now l s → Fits mount now l t
fits_kept mount now l s t same fits = record {
  there = let P : List Bool → Type 0 = λ g. get_or g mount false ≡ false in subst P (sym same.2) fits.there;
  mapped = let P : PolicyView → Type 0 = λ p. find (tag_of l.key) p ≡ Some l.region in subst P (sym same.1) fits.mapped;
  touched = λ some.
      let P : PolicyView → Type 0 = λ p. touch l.region now p ≡ p in
      let d : 0 < s.config.min_delta = (let e = ap (λ (c : Config). c.min_delta) same.0 in omega (arith, e, some)) in
      subst P (sym same.1) (fits.touched d);
}

pub last_kept : (mount now : ℕ) (l : Option Last) (x y : Option State) → SamePolicy x y → LastFits mount now l x → LastFits mount now l y
last_kept mount now None x y same fits = tt
last_kept mount now (Some l) None y same fits = let P : Option State → Type 0 = λ o. LastFits mount now (Some l) o in subst P (sym same) tt
last_kept mount now (Some l) (Some s) None same fits = tt
last_kept mount now (Some l) (Some s) (Some t) same fits = fits_kept mount now l s t same fits

-- ---- the same of states that may be told

pub policy_same : (x : Option State) → SamePolicy x x
policy_same None = refl
policy_same (Some s) = (refl, refl, refl)

pub policy_more : (x y z : Option State) → SamePolicy x y → SamePolicy y z → SamePolicy x z
policy_more None y z p q = let P : Option State → Type 0 = λ o. SamePolicy o z in subst P p q
policy_more (Some s) None z p q = absurd p
policy_more (Some s) (Some t) None p q = absurd q
policy_more (Some s) (Some t) (Some u) p q = (q.0 ∙ p.0, q.1 ∙ p.1, q.2 ∙ p.2)

pub present_policy : (x y : Option State) → SameState x y → SamePolicy x y
present_policy None None p = refl
present_policy None (Some t) p = absurd p
present_policy (Some s) None p = absurd p
present_policy (Some s) (Some t) p = (p.config, p.policy, p.gone)

pub stored_policy : (a : ℕ) (piece : List ℕ) (x : Option State) → SamePolicy x (option_map (storing piece a) x)
stored_policy a piece None = refl
stored_policy a piece (Some s) = store_policy s a (hold_at s a) piece

pub left_policy : (a : ℕ) (x : Option State) → SamePolicy x (option_map (leaving a) x)
left_policy a None = refl
left_policy a (Some s) = leave_policy s a (hold_at s a)

-- behind an entry that was answered by a hold
pub entered_fits : {tells : Bool} {files : ℕ → ℕ → List ℕ} (a mount now : ℕ) (want : Want) (r : ℕ) (gap : Option ByteRange) (x : Option State) → ((s : State) → x ≡ Some s → Good tells files s)
    → IfSome x (λ s. Held r gap ≡ (enter a mount want now s).0) → LastFits mount now (Some (record { key = want.key; region = r })) (option_map (λ (s : State). (enter a mount want now s).1) x)
entered_fits a mount now want r gap None good e = tt
entered_fits a mount now want r gap (Some s) good e = room_policy s a mount now want r gap (good s refl) (sym e)
