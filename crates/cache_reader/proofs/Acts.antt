-- Entries and decays of one actor over a cache with a region for each key, one after another.
use Rattle.std.proofs.Common.{arith, ◌≡◌, ◌<◌, ◌≤◌, ◌+◌, ◌-◌, ◌*◌, ◌/◌, ℕ, zero, suc, Bool, true, false, List, [], ◌∷◌, ◌++◌, sym, subst, ◌∙◌, ap, inl, inr, refl, length, map, get_or, Option, Some, None}
use Rattle.std.specs.Prelude.{slice_index_or, IsSome, replicate}
use Rattle.std.proofs.lemmas.Bool.{cases_Bool, eq-eqb}
use Rattle.std.proofs.lemmas.List.{append-nil, append_assoc, length-map}
use Rattle.region_ranges.specs.declared.keys.Config.{Config}
use Rattle.region_ranges.specs.declared.ranges.ByteRange.{ByteRange}
use Rattle.region_ranges.specs.Keys.{IsConfig, tag_of}
use Rattle.sparse_tracker.specs.Places.{ClaimPlaces}
use Rattle.freq_lists.specs.Lists.{head}
use Rattle.cache_policy.specs.Policy.{PolicyView, tag_at, find, new_policy}
use Rattle.cache_policy.specs.Ageing.{touch, decay}
use Rattle.cache_policy.proofs.Tags.{at, found_at, not_found}
use Rattle.cache_policy.proofs.Good.{good_new, at_none}
use Rattle.region_cell.specs.Cells.{len_of, claim_run, region_bytes}
use Rattle.cache_outside.specs.Listing.{Listing}
use Rattle.blob_parts.specs.Content.{content}
use Rattle.cache_door.specs.declared.answers.Want.{Want}
use Rattle.cache_door.specs.declared.answers.Entered.{Entered}
use Rattle.cache_door.specs.declared.answers.Entered.TheVariants.{Gone}
use Rattle.cache_door.specs.Machine.{State, Cell, no_cell, enter, enter_at, place, hold, new_cell}
use Rattle.cache_door.specs.Takes.{Once, want_of, taken_by, after, spread_over}
use Rattle.cache_reader.specs.Parts.{ReadSetting, bytes_of, places_of}
use Rattle.cache_reader.specs.Alone.{FilePart, entry_for, outcome_over}
use Rattle.cache_reader.specs.Once.{Act, entry, ageing, act_outcome, key_of_part, IsListed, AreListed, HasEntryFor, AreApart, TakesOnce}
use Rattle.cache_reader.proofs.Wants.{in_region, has_length}
use Rattle.cache_reader.proofs.Unmapped.{unmapped, free_some, front, room_same}
use Rattle.cache_reader.proofs.Filled.{claimed}
use Rattle.cache_reader.proofs.Untaken.{idle, Untaken, keys_kept, aged, touched, mapped_policy, mapped_cells, mapped_untaken, tag_here}
use Rattle.cache_reader.proofs.Taken.{IsGap, Next, held_next}

-- ---- an entry

-- what an entry asks for, within its region
pub record Asked (settings : Config) (long : ℕ) (want : Want) (base : ℕ) : Type 0 where
  pub some : want.sub.start < want.sub.end
  pub within : want.sub.end ≤ want.len
  pub one : want.sub.start / settings.range ≡ (want.sub.end - 1) / settings.range
  pub short : want.len ≤ settings.region
  pub inside : base + want.len ≤ long

asked : (settings : Config) (m f long : ℕ) (p : ByteRange) → IsConfig settings → p.start < p.end → p.end ≤ long
    → p.start / settings.range ≡ (p.end - 1) / settings.range
    → Asked settings long (want_of settings.region m f long p) (p.start / settings.region * settings.region)
asked settings m f long p is some inside one =
    let i = in_region settings.range settings.region p.start p.end is.range.0 is.region.0 is.divides some one in
    let low = i.below in
    let high = i.inside in
    record {
      some = omega (arith, low, some);
      within = omega (arith, low, high, inside);
      one = i.same;
      short = omega arith;
      inside = omega (arith, low, some, inside);
    }

module _ (law : ClaimPlaces) {settings : Config} {keys : List ℕ} {Files : ℕ → ℕ
    → Type 0} (c : ReadSetting) (q : FilePart) (told : Bool) (gone : List Bool) (config : IsConfig settings)
    (apart : AreApart c.blobs Files) (few : length keys ≤ settings.regions) (is_file : Files c.table.number q.file)
    (is : IsListed c.blobs settings keys c q) where
  abbrev want : Want
  want = want_of settings.region c.table.number q.file (length (bytes_of c q.file)) q.part

  abbrev base : ℕ
  base = q.part.start / settings.region * settings.region

  abbrev tag : ℕ
  tag = tag_of (key_of_part settings.region c q)

  asks : Asked settings (length (bytes_of c q.file)) want base
  asks = asked settings c.table.number q.file (length (bytes_of c q.file)) q.part config is.some is.inside is.one

  size : want.len ≡ length (region_bytes (content c.blobs) settings.region tag)
  size = sym (has_length (content c.blobs) c.table.number q.file (q.part.start / settings.region) settings.region is.key.0 is.key.1 is.key.2)

  -- what an answer and the state behind it make of the places
  abbrev Done : List (ℕ × ℕ) → Entered × State → Type 0
  Done places e = Next c.blobs settings keys Files told gone (places ++ spread_over (places_of c q.file) (taken_by e.0 base q.part))
      (after e.0 0 (bytes_of c q.file) base e.1)

  -- a hold of the region that is mapped to the key
  held : (p : PolicyView) (cs : List Cell) (places : List (ℕ × ℕ)) (r : ℕ) → Untaken c.blobs settings keys Files p cs places → tag_at p r ≡ Some tag
      → Done places (hold 0 r want (idle settings told gone p cs))
  held p cs places r u mapped =
      let cell = get_or cs r no_cell in
      let a = asks in
      let len : len_of cell.region ≡ want.len = u.sized r tag mapped ∙ sym size in
      let within = a.within in
      let short = a.short in
      let inside = a.inside in
      let gap : IsGap cell (bytes_of c q.file) base (claim_run settings.range want.sub cell.region) = λ g e.
      let k = claimed law settings.range want.sub cell.region config.range.0 a.some (omega (arith, within, len)) a.one g e in
      let top = k.within in
      (k, omega (arith, top, len, inside)) in
      held_next apart told gone p cs places u c.table.number q.file (q.part.start / settings.region) r want q.part
      (claim_run settings.range want.sub cell.region) is_file config.region.0 mapped (omega (arith, len, short)) gap

  -- the key is mapped
  found_next : (p : PolicyView) (cs : List Cell) (places : List (ℕ × ℕ)) (r : ℕ) → Untaken c.blobs settings keys Files p cs places → find tag p ≡ Some r
      → Done places (enter_at (Some r) 0 want c.now (idle settings told gone p cs))
  found_next p cs places r u found =
      let mapped : tag_at p r ≡ Some tag = found_at tag p.tags 0 r r found (omega arith) in
      let P : Option ℕ → Type 0 = λ t. IsSome t in
      let some : IsSome (at p.tags r) = subst P (sym mapped) refl in
      let same = touched r c.now p u.policy some in
      let len : len_of (get_or cs r no_cell).region ≡ want.len = u.sized r tag mapped ∙ sym size in
      rw (eq-eqb (len_of (get_or cs r no_cell).region) want.len len)
      (held (touch r c.now p) cs places r (keys_kept p (touch r c.now p) cs places same u) (ap (λ (ts : List (Option ℕ)). at ts r) same.tags ∙ mapped))

  -- it is not, and there is a free region for it
  new_next : (p : PolicyView) (cs : List Cell) (places : List (ℕ × ℕ)) → Untaken c.blobs settings keys Files p cs places → find tag p ≡ None
      → Done places (enter_at None 0 want c.now (idle settings told gone p cs))
  new_next p cs places u found =
      let tags = u.tags in
      let bare = unmapped tag p.tags keys (record {
        all = λ r k e. u.listed r k e;
        apart = u.policy.keys;
        none = λ r e. not_found tag p.tags 0 r found e;
        here = is.listed;
        few = omega (arith, few, tags);
      }) in
      let some = free_some p bare.0 u.policy u.leaving bare.1 bare.2 in
      let s = idle settings told gone p cs in
      let first = front p.free some in
      let R : PolicyView → Type 0 = λ x. Done places (place 0 (head x.free) x want c.now s) in
      let F : Option ℕ → Type 0 = λ o. Done places (place 0 o p want c.now s) in
      let r = first.0 in
      subst R (sym (room_same (None ∷ []) p u.leaving some)) (subst F (sym first.1)
      (held (mapped_policy p cs places u r tag c.now want.len first.1 found is.listed size)
      (mapped_cells p cs places u r tag c.now want.len first.1 found is.listed size) places r
      (mapped_untaken p cs places u r tag c.now want.len first.1 found is.listed size)
      (tag_here p cs places u r tag c.now want.len first.1 found is.listed size)))

  found_or_new : (p : PolicyView) (cs : List Cell) (places : List (ℕ × ℕ)) (o : Option ℕ) → Untaken c.blobs settings keys Files p cs places → find tag p ≡ o
      → Done places (enter_at o 0 want c.now (idle settings told gone p cs))
  found_or_new p cs places None u found = new_next p cs places u found
  found_or_new p cs places (Some r) u found = found_next p cs places r u found

  -- where the mount is gone nothing is taken
  gone_next : (p : PolicyView) (cs : List Cell) (places : List (ℕ × ℕ)) → Untaken c.blobs settings keys Files p cs places
      → Done places (Gone, idle settings told gone p cs)
  gone_next p cs places u =
      let P : List (ℕ × ℕ) → Type 0 = λ l. Untaken c.blobs settings keys Files p cs l in
      record { policy = p; cells = cs; is = refl; untaken = subst P (sym (append-nil places)) u }

  entered : (p : PolicyView) (cs : List Cell) (places : List (ℕ × ℕ)) → Untaken c.blobs settings keys Files p cs places
      → Done places (enter 0 c.mount want c.now (idle settings told gone p cs))
  entered p cs places u = elim (cases_Bool (slice_index_or gone c.mount false)) [
    | inl t ↦ rw t (gone_next p cs places u)
    | inr t ↦ rw t (found_or_new p cs places (find tag p) u refl)
  ]

  pub entry_next : (p : PolicyView) (cs : List Cell) (places : List (ℕ × ℕ)) → Untaken c.blobs settings keys Files p cs places
      → let w = entry_for c 0 q (idle settings told gone p cs) in Next c.blobs settings keys Files told gone (places ++ w.places) w.state
  entry_next p cs places u = entered p cs places u

-- ---- acts

module _ (law : ClaimPlaces) (settings : Config) (keys : List ℕ) (Files : ℕ → ℕ
    → Type 0) (told : Bool) (gone : List Bool) (config : IsConfig settings) (few : length keys ≤ settings.regions) where
  -- over the entry's own blobs
  one_entry : (blobs : Listing) (c : ReadSetting) (q : FilePart) (p : PolicyView) (cs : List Cell) (places : List (ℕ × ℕ)) → AreApart blobs Files
      → Files c.table.number q.file → IsListed blobs settings keys c q → Untaken blobs settings keys Files p cs places
      → let w = entry_for c 0 q (idle settings told gone p cs) in Next blobs settings keys Files told gone (places ++ w.places) w.state
  one_entry blobs c q p cs places apart file is u =
      let w = entry_for c 0 q (idle settings told gone p cs) in
      let P : Listing → Type 0 = λ b. AreApart b Files → IsListed b settings keys c q → Untaken b settings keys Files p cs places
      → Next b settings keys Files told gone (places ++ w.places) w.state in
      subst P is.same (λ a i v. entry_next law c q told gone config a few file i p cs places v) apart is u

  -- entries of the acts are for these files
  abbrev AreOf : List Act → Type 0
  AreOf acts = (m f : ℕ) → HasEntryFor acts m f → Files m f

  module _ (blobs : Listing) (apart : AreApart blobs Files) where
    acts_from : (acts : List Act) (p : PolicyView) (cs : List Cell) (places : List (ℕ × ℕ)) → AreListed blobs settings keys acts → AreOf acts
        → Untaken blobs settings keys Files p cs places
        → Once (λ blob. true) (places ++ (outcome_over act_outcome acts (idle settings told gone p cs)).places)
    acts_from [] p cs places listed of u = subst (λ l. Once (λ blob. true) l) (sym (append-nil places)) u.once
    acts_from (ageing now ∷ acts) p cs places listed of u =
        acts_from acts (decay now p) cs places listed of (keys_kept p (decay now p) cs places (aged now p u.policy) u)
    acts_from (entry c q ∷ acts) p cs places listed of u =
        let w = entry_for c 0 q (idle settings told gone p cs) in
        let n = one_entry blobs c q p cs places apart (of c.table.number q.file (inl (refl, refl))) listed.0 u in
        let rest = acts_from acts n.policy n.cells (places ++ w.places) listed.1 (λ m f e. of m f (inr e)) n.untaken in
        let P : State → Type 0 = λ s. Once (λ blob. true) ((places ++ w.places) ++ (outcome_over act_outcome acts s).places) in
        let Q : List (ℕ × ℕ) → Type 0 = λ l. Once (λ blob. true) l in
        subst Q (append_assoc places w.places (outcome_over act_outcome acts w.state).places) (subst P (sym n.is) rest)

-- ---- from the first state on

no_tag : (n r tag : ℕ) → at (replicate n None) r ≡ Some tag → ⊥
no_tag n r tag e = let f = sym (at_none n r) ∙ e in absurd (cc)

length_none : (n : ℕ) → length (replicate {A = Option ℕ} n None) ≡ n
length_none zero = refl
length_none (suc n) = ap suc (length_none n)

first_untaken : (blobs : Listing) (settings : Config) (keys : List ℕ) (Files : ℕ → ℕ → Type 0) (frames : List (List ℕ)) → IsConfig settings
    → settings.max_freq < 4294967296 → length frames ≡ settings.regions
    → Untaken blobs settings keys Files (new_policy settings.regions settings.max_freq settings.min_delta) (map (new_cell settings.region) frames) []
first_untaken blobs settings keys Files frames is most long =
    let regions = is.regions in
    record {
      policy = good_new settings.regions settings.max_freq settings.min_delta is.regions.0 (omega (arith, regions)) is.max_freq most;
      leaving = refl;
      cells = length-map frames (new_cell settings.region) ∙ long;
      tags = length_none settings.regions;
      listed = λ r tag e. absurd (no_tag settings.regions r tag e);
      sized = λ r tag e. absurd (no_tag settings.regions r tag e);
      taken = λ n place e. absurd (cc);
      once = λ i j place part e h. absurd (cc);
    }

pub takes_once : ClaimPlaces → TakesOnce
takes_once law settings told frames blobs keys acts is most long few listed apart =
    acts_from law settings keys (HasEntryFor acts) told (replicate 4096 false) is few blobs apart acts
    (new_policy settings.regions settings.max_freq settings.min_delta) (map (new_cell settings.region) frames) []
    listed (λ m f e. e) (first_untaken blobs settings keys (HasEntryFor acts) frames is most long)
