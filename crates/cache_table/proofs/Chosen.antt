-- Regions that are passed over while one is chosen, and what an entry tells of the choice.
use Rattle.std.proofs.Common.{arith, ◌≡◌, ◌≢◌, ◌⊎◌, ◌<◌, ◌≤◌, ◌+◌, ℕ, zero, suc, true, false, List, [], ◌∷◌, ◌++◌, sym, subst, ◌∙◌, ap, refl, length, get_or, take, drop, Option, Some, None, inl, inr}
use Rattle.std.specs.Prelude.{◌==◌, ◌&&◌, not, if◌then◌else◌, slice_set, slice_get}
use Rattle.std.proofs.lemmas.Bool.{cases_Bool, cases_eq, cases_lt, eq-eqb, ne_eqb}
use Rattle.std.proofs.lemmas.List.{append_assoc, append-nil}
use Rattle.region_ranges.specs.Keys.{tag_of as key_tag}
use Rattle.region_ranges.specs.declared.ranges.ByteRange.{ByteRange}
use Rattle.freq_lists.specs.Lists.{times_in, head, without}
use Rattle.freq_lists.proofs.Counts.{times_append}
use Rattle.cache_policy.specs.Policy.{PolicyView, tag_at, leave}
use Rattle.region_cell.specs.Cells.{claim_run, len_of}
use Rattle.cache_policy.specs.Ageing.{map_front, candidates, touch}
use Rattle.cache_policy.specs.Laws.{FreeRegionLeaves, CandidatesLeft}
use Rattle.cache_policy.specs.Kept as policy
use Rattle.cache_policy.proofs.Candidates.{head_times}
use Rattle.cache_policy.proofs.Lowered.{take_whole}
use Rattle.cache_door.specs.declared.answers.Want.{Want}
use Rattle.cache_door.specs.declared.answers.Entered.{Entered}
use Rattle.cache_door.specs.declared.answers.Entered.TheVariants.{Held, NoRoom}
use Rattle.cache_table.specs.Abouts.{About}
use Rattle.cache_table.specs.declared.view.View.{View}
use Rattle.cache_table.specs.Rule.{place, Governs, count_in}
use Rattle.cache_table.specs.Calls.{PassedOver, FoundAll, Stays-same, Stays-on}
use Rattle.cache_table.specs.Entries.{Scanned, differs, Unmapped, IsChoice, IsFull, EntersChosen, EntersBy, FindsNoRoom, blank}
use Rattle.cache_table.proofs.Settles.{is_region}

pub front_near : (a : About) (p : PolicyView) (r : ℕ) → Governs a p → head p.free ≡ Some r → r + 1 ≤ a.config.regions
front_near a p r g e = omega (arith, g.regions, is_region p g.good r (omega (arith, head_times r p.free e)))

-- ---- one more free region is passed over

drop_more : (n : ℕ) (r : ℕ) (xs : List ℕ) → head (drop n xs) ≡ Some r → (drop 1 (drop n xs) ≡ drop (suc n) xs) × (take (suc n) xs ≡ take n xs ++ r ∷ [])
drop_more zero r [] e = absurd (cc)
drop_more zero r (x ∷ xs) e = let i : x ≡ r = cc in (refl, ap (λ (y : ℕ). y ∷ []) i)
drop_more (suc n) r [] e = absurd (cc)
drop_more (suc n) r (x ∷ xs) e = let k = drop_more n r xs e in (k.0, ap (λ (l : List ℕ). x ∷ l) k.1)

pub passed_more : FreeRegionLeaves → (p q o : PolicyView) (n r tag now : ℕ) → policy.IsGood q → PassedOver n p q → head q.free ≡ Some r → o ≡ leave r (map_front r tag now q) → PassedOver (suc n) p o
passed_more law p q o n r tag now good over e is =
    let free : q.free ≡ drop n p.free = ap (λ (z : PolicyView). z.free) over in
    let k = drop_more n r p.free (sym (ap head free) ∙ e) in
    let z = is ∙ law q r tag now good e in
    let s : o.last_accesses ≡ slice_set q.last_accesses r now = ap (λ (y : PolicyView). y.last_accesses) z in
    let f : drop 1 q.free ≡ drop (suc n) p.free = ap (λ (l : List ℕ). drop 1 l) free ∙ k.0 in
    let l : q.leaving ++ r ∷ [] ≡ p.leaving ++ take (suc n) p.free = ap (λ (y : PolicyView). y.leaving ++ r ∷ []) over ∙ append_assoc p.leaving (take n p.free) (r ∷ []) ∙ ap (λ (l : List ℕ). p.leaving ++ l) (sym k.1) in
    let base : record q { free = drop 1 q.free; last_accesses = slice_set q.last_accesses r now; leaving = q.leaving ++ r ∷ [] } ≡ record p { free = drop 1 q.free; last_accesses = slice_set q.last_accesses r now; leaving = q.leaving ++ r ∷ [] } = ap (λ (y : PolicyView). record y { free = drop 1 q.free; last_accesses = slice_set q.last_accesses r now; leaving = q.leaving ++ r ∷ [] }) over in
    z ∙ base ∙ (λ i. record p { free = f i; last_accesses = (sym s) i; leaving = l i })

pub passed_none : (p : PolicyView) → PassedOver 0 p p
passed_none p = λ i. record p { leaving = sym (append-nil p.leaving) i }

-- ---- what is found held

pub found_nothing : (found : List ℕ) → FoundAll [] found
found_nothing found r h = absurd (omega arith)

pub found_later : (xs old new : List ℕ) → ((x : ℕ) → count_in x old ≤ count_in x new) → FoundAll xs old → FoundAll xs new
found_later xs old new more all r h = omega (arith, all r h, more (place r))

pub found_more : (xs old new : List ℕ) (r : ℕ) → ((x : ℕ) → count_in x old ≤ count_in x new) → FoundAll xs old → 0 < count_in (place r) new → FoundAll (xs ++ r ∷ []) new
found_more xs old new r more all here j h = elim (cases_lt 0 (times_in j xs)) [
  | inl l ↦ omega (arith, all j l, more (place j))
  | inr g ↦ elim (cases_eq r j) [
    | inl e ↦ subst (λ (n : ℕ). 0 < count_in (place n) new) e here
    | inr d ↦ absurd (let t = times_append j xs (r ∷ []) in let u = rw (ne_eqb r j d) at t in omega (arith, u, h, g))
  ]
]

pub found_take : (n : ℕ) (r : ℕ) (xs found : List ℕ) → head (drop n xs) ≡ Some r → FoundAll (take n xs ++ r ∷ []) found → FoundAll (take (suc n) xs) found
found_take n r xs found e h = subst (λ (l : List ℕ). FoundAll l found) (sym (drop_more n r xs e).1) h

-- the next one of a list is at place n
abbrev get_of : ℕ → List ℕ → Option ℕ
get_of n xs = slice_get xs n

get_more : (n r : ℕ) (xs : List ℕ) → slice_get xs n ≡ Some r → take (suc n) xs ≡ take n xs ++ r ∷ []
get_more n r [] e = absurd (nothing n e)
  where
    nothing : (k : ℕ) → get_of k [] ≡ Some r → ⊥
    nothing zero h = cc
    nothing (suc k) h = cc
get_more zero r (x ∷ xs) e = let i : x ≡ r = cc in ap (λ (y : ℕ). y ∷ []) i
get_more (suc n) r (x ∷ xs) e = ap (λ (l : List ℕ). x ∷ l) (get_more n r xs e)

pub found_get : (n r : ℕ) (xs found : List ℕ) → slice_get xs n ≡ Some r → FoundAll (take n xs ++ r ∷ []) found → FoundAll (take (n + 1) xs) found
found_get n r xs found e h =
    let k : n + 1 ≡ suc n = omega arith in
    subst (λ (m : ℕ). FoundAll (take m xs) found) (sym k) (subst (λ (l : List ℕ). FoundAll l found) (sym (get_more n r xs e)) h)

place_more : (n : ℕ) (xs : List ℕ) → n < length xs → take (suc n) xs ≡ take n xs ++ get_or xs n 0 ∷ []
place_more n [] h = absurd (omega arith)
place_more zero (x ∷ xs) h = refl
place_more (suc n) (x ∷ xs) h = ap (λ (l : List ℕ). x ∷ l) (place_more n xs (omega arith))

pub found_place : (n r : ℕ) (xs old new : List ℕ) → n < length xs → r ≡ get_or xs n 0 → ((x : ℕ) → count_in x old ≤ count_in x new) → FoundAll (take n xs) old → 0 < count_in (place r) new → FoundAll (take (n + 1) xs) new
found_place n r xs old new lt is more all here =
    let e : n + 1 ≡ suc n = omega arith in
    subst (λ (k : ℕ). FoundAll (take k xs) new) (sym e) (subst (λ (l : List ℕ). FoundAll l new) (sym (place_more n xs lt ∙ ap (λ (y : ℕ). take n xs ++ y ∷ []) (sym is))) (found_more (take n xs) old new r more all here))

pub found_whole : (n : ℕ) (xs found : List ℕ) → length xs ≤ n → FoundAll (take n xs) found → FoundAll xs found
found_whole n xs found h all = subst (λ (l : List ℕ). FoundAll l found) (take_whole n xs h) all

none_past : (n : ℕ) (xs : List ℕ) → slice_get xs n ≡ None → length xs ≤ n
none_past n [] e = omega arith
none_past zero (x ∷ xs) e = absurd (cc)
none_past (suc n) (x ∷ xs) e = omega (arith, none_past n xs e)

pub found_end : (n : ℕ) (xs found : List ℕ) → slice_get xs n ≡ None → FoundAll (take n xs) found → FoundAll xs found
found_end n xs found e all = found_whole n xs found (none_past n xs e) all

-- where nothing is free any more, all that was free was passed over
empty_past : (n : ℕ) (xs : List ℕ) → drop n xs ≡ [] → length xs ≤ n
empty_past n [] e = omega arith
empty_past zero (x ∷ xs) e = absurd (cc)
empty_past (suc n) (x ∷ xs) e = omega (arith, empty_past n xs e)

pub found_free : (n : ℕ) (p q : PolicyView) (found : List ℕ) → PassedOver n p q → q.free ≡ [] → FoundAll (take n p.free) found → FoundAll p.free found
found_free n p q found over none all = found_whole n p.free found (empty_past n p.free (sym (ap (λ (z : PolicyView). z.free) over) ∙ none)) all

-- what was leaving is leaving
pub found_leaving : (n : ℕ) (p q : PolicyView) (found : List ℕ) → PassedOver n p q → FoundAll q.leaving found → FoundAll p.leaving found
found_leaving n p q found over all r h = all r (let e = ap (λ (z : PolicyView). times_in r z.leaving) over in omega (arith, e, times_append r p.leaving (take n p.free), h))

-- one that is leaving was free or leaving
pub was_leaving : (n : ℕ) (p q : PolicyView) (r : ℕ) → PassedOver n p q → 0 < times_in r q.leaving → 0 < times_in r p.free + times_in r p.leaving
was_leaving n p q r over h = let e = ap (λ (z : PolicyView). times_in r z.leaving) over in omega (arith, e, h, times_append r p.leaving (take n p.free), less n p.free)
  where
    less : (k : ℕ) (xs : List ℕ) → times_in r (take k xs) ≤ times_in r xs
    less zero xs = omega arith
    less (suc k) [] = omega arith
    less (suc k) (x ∷ xs) = omega (arith, less k xs)

pub was_front : (n : ℕ) (p q : PolicyView) (r : ℕ) → PassedOver n p q → head q.free ≡ Some r → 0 < times_in r p.free + times_in r p.leaving
was_front n p q r over h = let e = sym (ap (λ (z : PolicyView). head z.free) over) ∙ h in omega (arith, after n p.free e)
  where
    after : (k : ℕ) (xs : List ℕ) → head (drop k xs) ≡ Some r → 0 < times_in r xs
    after zero xs d = head_times r xs d
    after (suc k) [] d = absurd (cc)
    after (suc k) (x ∷ xs) d = omega (arith, after k xs d)

-- ---- a region that left before the choice

-- the region r stands in the list, and each one before it was found held
abbrev Reached : List ℕ → ℕ → List ℕ → Type 0
Reached xs r found = (j : ℕ) × (slice_get xs j ≡ Some r) × FoundAll (take j xs) found

one_more : (x r : ℕ) (xs found : List ℕ) → 0 < count_in (place x) found → Reached xs r found → Reached (x ∷ xs) r found
one_more x r xs found here k = (
  suc k.0,
  k.1,
  λ n h. elim (cases_eq x n) [
    | inl w ↦ subst (λ (m : ℕ). 0 < count_in (place m) found) w here
    | inr d ↦ k.2 n (let u = rw (ne_eqb x n d) at h in omega (arith, u))
  ],
)

first_found : (x : ℕ) (xs found : List ℕ) → FoundAll (x ∷ xs) found → 0 < count_in (place x) found
first_found x xs found all = all x (rw (eq-eqb x x refl) (omega arith))

-- among all, from those without it
back : (xs : List ℕ) (s i r : ℕ) (found : List ℕ) → slice_get (without s xs) i ≡ Some r → FoundAll (take i (without s xs)) found → 0 < count_in (place s) found → Reached xs r found
back [] s i r found e all here = (i, e, all)
back (x ∷ xs) s zero r found e all here = elim (cases_eq x s) [
  | inl is ↦
      let t = eq-eqb x s is in let e' = rw t at e in
      one_more x r xs found (subst (λ (m : ℕ). 0 < count_in (place m) found) (sym is) here) (back xs s zero r found e' (found_nothing found) here)
  | inr ne ↦ let f = ne_eqb x s ne in let e' = rw f at e in (0, e', found_nothing found)
]
back (x ∷ xs) s (suc i) r found e all here = elim (cases_eq x s) [
  | inl is ↦
      let t = eq-eqb x s is in let e' = rw t at e in let all' = rw t at all in
      one_more x r xs found (subst (λ (m : ℕ). 0 < count_in (place m) found) (sym is) here) (back xs s (suc i) r found e' all' here)
  | inr ne ↦
      let f = ne_eqb x s ne in let e' = rw f at e in let all' = rw f at all in
      one_more x r xs found (first_found x (take i (without s xs)) found all') (back xs s i r found e' (λ n h. all' n (omega arith)) here)
]

last_leaving : (s : ℕ) (l : List ℕ) → 0 < times_in s (l ++ s ∷ [])
last_leaving s l = let t = times_append s l (s ∷ []) in let u = rw (eq-eqb s s refl) at t in omega (arith, u)

leaving_is : (r s : ℕ) (l : List ℕ) → r ≢ s → times_in r (l ++ s ∷ []) ≡ times_in r l
leaving_is r s l ne = let t = times_append r l (s ∷ []) in let u = rw (ne_eqb s r (λ e. ne (sym e))) at t in omega (arith, u)

choice_before : CandidatesLeft → (p o : PolicyView) (s r tag : ℕ) (found : List ℕ) → o ≡ leave s p → tag_at p s ≡ Some tag → IsChoice r o found → (tag_at p r ≡ Some tag) ⊎ IsChoice r p found
choice_before law p o s r tag found is mapped (inl h) = elim (cases_eq r s) [
  | inl e ↦ inl (ap (tag_at p) e ∙ mapped)
  | inr ne ↦ inr (inl (let f = ap (λ (z : PolicyView). times_in r z.free) is in let l = ap (λ (z : PolicyView). times_in r z.leaving) is in omega (arith, h, f, l, leaving_is r s p.leaving ne)))
]
choice_before law p o s r tag found is mapped (inr (i, at, earlier, free, leaving)) =
    let c : candidates o ≡ without s (candidates p) = ap candidates is ∙ law p s in
    let held : 0 < count_in (place s) found = leaving s (subst (λ (l : List ℕ). 0 < times_in s l) (sym (ap (λ (z : PolicyView). z.leaving) is)) (last_leaving s p.leaving)) in
    let k = back (candidates p) s i r found (ap (λ (l : List ℕ). slice_get l i) (sym c) ∙ at) (subst (λ (l : List ℕ). FoundAll (take i l) found) c earlier) held in
    inr (inr (
      k.0,
      k.1,
      k.2,
      subst (λ (l : List ℕ). FoundAll l found) (ap (λ (z : PolicyView). z.free) is) free,
      (λ n h. leaving n (let l = ap (λ (z : PolicyView). times_in n z.leaving) is in omega (arith, l, h, times_append n p.leaving (s ∷ [])))),
    ))

-- ---- what a search leaves of the view

pub scanned_same : (a : About) (v : View) → Scanned a v v
scanned_same a v = record {
  stays = Stays-same v;
  cache = record { cache_turns = refl; taken = refl; given = refl; unmounted_then = refl; mount_word = refl };
  faults = record { later = omega arith; rose = λ f. absurd f; steady = λ s. (refl, λ f. f) };
  found = λ k. omega arith;
  noted = λ k want h. h;
}

pub scanned_on : (a : About) (u v w : View) → Scanned a u v → Scanned a v w → Scanned a u w
scanned_on a u v w p q = record {
  stays = Stays-on u v w p.stays q.stays;
  cache = record {
    cache_turns = q.cache.cache_turns ∙ p.cache.cache_turns;
    taken = q.cache.taken ∙ p.cache.taken;
    given = q.cache.given ∙ p.cache.given;
    unmounted_then = q.cache.unmounted_then ∙ p.cache.unmounted_then;
    mount_word = q.cache.mount_word ∙ p.cache.mount_word;
  };
  faults = record {
    later = omega (arith, p.faults.later, q.faults.later);
    rose = λ f. absurd f;
    steady = λ s. ((q.faults.steady s).0 ∙ (p.faults.steady s).0, λ f. f);
  };
  found = λ k. omega (arith, p.found k, q.found k);
  noted = λ k want h. q.noted k want (p.noted k want h);
}

-- one more cell was noted, and maybe one more word found held
pub differs_more : (k : ℕ) (want : Want) (t : ℕ × ℕ × ℕ) (noted : List (ℕ × ℕ × ℕ)) → differs k want noted ≡ true → differs k want (t ∷ noted) ≡ true
differs_more k want t noted h = elim (cases_Bool ((t.0 == k) && not ((t.1 == key_tag want.key) && (t.2 == want.len)))) [
  | inl e ↦ rw e refl
  | inr e ↦ rw e h
]

-- a cell of another key or length
pub differs_here : (k : ℕ) (want : Want) (tag len : ℕ) (noted : List (ℕ × ℕ × ℕ)) → (tag ≢ key_tag want.key) ⊎ (len ≢ want.len) → differs k want ((k, tag, len) ∷ noted) ≡ true
differs_here k want tag len noted (inl ne) = rw (eq-eqb k k refl, ne_eqb tag (key_tag want.key) ne) refl
differs_here k want tag len noted (inr ne) = elim (cases_Bool (tag == key_tag want.key)) [
  | inl e ↦ rw (eq-eqb k k refl, e, ne_eqb len want.len ne) refl
  | inr e ↦ rw (eq-eqb k k refl, e) refl
]

-- a cell of the key and the length, where no other was noted
pub differs_not : (k : ℕ) (want : Want) (tag len : ℕ) → tag ≡ key_tag want.key → len ≡ want.len → differs k want ((k, tag, len) ∷ []) ≡ false
differs_not k want tag len e f = rw (eq-eqb tag (key_tag want.key) e, eq-eqb len want.len f, eq-eqb k k refl) refl

-- ---- the whole entry

stays_left : (p o : PolicyView) (r s t tag : ℕ) → tag_at p r ≡ Some tag → ((n : ℕ) → tag_at o n ≡ (if n == r then None else tag_at p n)) → t ≢ tag → tag_at p s ≡ Some t → tag_at o s ≡ Some t
stays_left p o r s t tag mapped tags ne at = elim (cases_eq s r) [
  | inl e ↦ absurd (ne (let h : Some t ≡ Some tag = sym at ∙ ap (tag_at p) e ∙ mapped in cc))
  | inr d ↦ let h = tags s in rw (ne_eqb s r d) at h ∙ at
]

other_unmapped : (want : Want) (noted : List (ℕ × ℕ × ℕ)) (p o : PolicyView) (v : View) → policy.IsGood p → Unmapped want noted p o → ((k : ℕ) → differs k want noted ≡ true → differs k want v.noted ≡ true) → (s : ℕ) → tag_at p s ≡ Some (key_tag want.key) → differs (place s) want v.noted ≡ true
other_unmapped want noted p o v good (inl (same, none)) later s at = absurd (none s at)
other_unmapped want noted p o v good (inr (r, is, mapped, seen, tags)) later s at = later (place s) (ap (λ (n : ℕ). differs (place n) want noted) (good.keys s r (key_tag want.key) at mapped) ∙ seen)

others_stay : (want : Want) (noted : List (ℕ × ℕ × ℕ)) (p o : PolicyView) (s t : ℕ) → Unmapped want noted p o → t ≢ key_tag want.key → tag_at p s ≡ Some t → tag_at o s ≡ Some t
others_stay want noted p o s t (inl (same, none)) ne at = ap (λ (z : PolicyView). tag_at z s) same ∙ at
others_stay want noted p o s t (inr (r, is, mapped, seen, tags)) ne at = stays_left p o r s t (key_tag want.key) mapped tags ne at

chosen_by : CandidatesLeft → (want : Want) (noted : List (ℕ × ℕ × ℕ)) (p o : PolicyView) (r : ℕ) (found : List ℕ) → Unmapped want noted p o → IsChoice r o found → (tag_at p r ≡ Some (key_tag want.key)) ⊎ IsChoice r p found
chosen_by law want noted p o r found (inl (same, none)) c = inr (subst (λ (z : PolicyView). IsChoice r z found) same c)
chosen_by law want noted p o r found (inr (s, is, mapped, seen, tags)) c = choice_before law p o s r (key_tag want.key) found is mapped c

pub enters_other : CandidatesLeft → (a : About) (want : Want) (now : ℕ) (noted : List (ℕ × ℕ × ℕ)) (p o q : PolicyView) (e : _) (v : View) → policy.IsGood p → Unmapped want noted p o → ((k : ℕ) → differs k want noted ≡ true → differs k want v.noted ≡ true) → EntersChosen a want e o q v → EntersBy a want now e p q v
enters_other law a want now noted p o q (Held r gap) v good un later c = inr record {
  other = other_unmapped want noted p o v good un later;
  mapped = (let h = c.2 r in rw (eq-eqb r r refl) at h);
  claimed = c.1;
  choice = chosen_by law want noted p o r v.found_held un c.0;
  others = λ s t ne other at. (let h = c.2 s in rw (ne_eqb s r ne) at h) ∙ others_stay want noted p o s t un other at;
}
enters_other law a want now noted p o q NoRoom v good un later c = absurd c
enters_other law a want now noted p o q _ v good un later c = absurd c

pub finds_no_room : (a : About) (want : Want) (noted : List (ℕ × ℕ × ℕ)) (n : ℕ) (p o q : PolicyView) (v : View) → policy.IsGood p → Governs a o → Unmapped want noted p o → ((k : ℕ) → differs k want noted ≡ true → differs k want v.noted ≡ true) → IsFull o v.found_held → PassedOver n o q → FindsNoRoom a want p q v
finds_no_room a want noted n p o q v good g un later full over = record {
  held = λ r h. let once = g.good.once r (omega (arith, h, g.regions)) in elim (cases_lt 0 (times_in r o.free)) [
    | inl l ↦ full.free r l
    | inr z ↦ elim (cases_lt 0 (times_in r o.leaving)) [
      | inl l ↦ full.leaving r l
      | inr y ↦ full.mapped r (omega (arith, once, z, y))
    ]
  ];
  other = other_unmapped want noted p o v good un later;
  others = λ s t ne at. ap (λ (z : PolicyView). tag_at z s) over ∙ others_stay want noted p o s t un ne at;
}

pub positive : (n : ℕ) → n ≢ 0 → 0 < n
positive zero ne = absurd (ne refl)
positive (suc n) ne = omega arith

pub enters_known : (a : About) (want : Want) (now r : ℕ) (e : Entered) (p q : PolicyView) (v : View) → e ≡ Held r (claim_run a.config.range want.sub v.cell.region) → tag_at p r ≡ Some (key_tag want.key)
    → v.noted ≡ (place r, v.cell.region.tag, len_of v.cell.region) ∷ [] → v.cell.region.tag ≡ key_tag want.key → len_of v.cell.region ≡ want.len → q ≡ touch r now p → v.last_region ≡ place r → EntersBy a want now e p q v
enters_known a want now r e p q v is mapped noted tag len touched cell = subst (λ (z : Entered). EntersBy a want now z p q v) (sym is) (inl record {
  mapped = mapped;
  noted = ap (differs (place r) want) noted ∙ differs_not (place r) want v.cell.region.tag (len_of v.cell.region) tag len;
  touched = touched;
  cell = cell;
  claimed = refl;
})

pub enters_chosen : (a : About) (want : Want) (r : ℕ) (gap : Option ByteRange) (p q : PolicyView) (v : View) → IsChoice r p v.found_held → gap ≡ claim_run a.config.range want.sub (blank want) → ((s : ℕ) → tag_at q s ≡ (if s == r then Some (key_tag want.key) else tag_at p s)) → EntersChosen a want (Held r gap) p q v
enters_chosen a want r gap p q v c g t = (c, g, t)
