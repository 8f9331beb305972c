-- What an entry tells: which region it takes, what it makes of the policy, and why it finds no room.
use Rattle.std.specs.Prelude.{◌≡◌, ◌⊎◌, ℕ, ◌+◌, ◌<◌, ◌≤◌, ◌==◌, ◌&&◌, not, Bool, true, false, List, [], take, slice_get, Option, Some, None, IsSome, ◌≢◌, if◌then◌else◌}
use Rattle.std.specs.List.{list_any}
use Rattle.region_ranges.specs.Keys.{tag_of as key_tag}
use Rattle.region_ranges.specs.declared.ranges.ByteRange.{ByteRange}
use Rattle.sparse_tracker.specs.ByteStates.{new_tracker}
use Rattle.freq_lists.specs.Lists.{head, times, times_in}
use Rattle.region_cell.specs.Cells.{Region, claim_run}
use Rattle.cache_policy.specs.Policy.{PolicyView, tag_at, leave}
use Rattle.cache_policy.specs.Ageing.{candidates, touch}
use Rattle.atomic_table.specs.Table.{Me}
use Rattle.cache_door.specs.declared.hold.Hold.{Hold}
use Rattle.cache_door.specs.declared.answers.Want.{Want}
use Rattle.cache_door.specs.declared.answers.Entered.{Entered}
use Rattle.cache_door.specs.declared.answers.Entered.TheVariants.{Held, NoRoom, Gone}
use Rattle.cache_table.specs.Abouts.{About}
use Rattle.cache_table.specs.declared.view.View.{View}
use Rattle.cache_table.specs.declared.choice.Standing.{Standing}
use Rattle.cache_table.specs.declared.choice.Standing.TheVariants.{Free, Leaving, Mapped}
use Rattle.cache_table.specs.Rule.{place, count_in}
use Rattle.cache_table.specs.declared.home.Home.{Home}
use Rattle.cache_table.specs.Calls.{Stays, SameCacheTurn, InCache, Faults, FoundAll, PassedOver}

-- a cell at the place k was noted with another key or length than is wanted
abbrev pub differs : ℕ → Want → List (ℕ × ℕ × ℕ) → Bool
differs k want noted = list_any (λ t. (t.0 == k) && not ((t.1 == key_tag want.key) && (t.2 == want.len))) noted

-- ---- the search for a region, inside the cache's turn

-- other regions' turns were taken and given
pub record Scanned (a : About) (v w : View) : Type 0 where
  pub stays : Stays v w
  pub cache : SameCacheTurn v w
  pub faults : Faults a ⊥ v w
  pub found : (k : ℕ) → count_in k v.found_held ≤ count_in k w.found_held
  pub noted : (k : ℕ) (want : Want) → differs k want v.noted ≡ true → differs k want w.noted ≡ true

-- the region can be made the front free one
abbrev pub Stands : Standing → ℕ → PolicyView → Type 0
Stands Free r p = head p.free ≡ Some r
Stands Leaving r p = (p.free ≡ []) × (0 < times_in r p.leaving)
Stands Mapped r p = (p.free ≡ []) × IsSome (tag_at p r)

-- the region is free or leaving, or it is a candidate, and each that is free or leaving and each earlier candidate was found held
abbrev pub IsChoice : ℕ → PolicyView → List ℕ → Type 0
IsChoice r p found = (0 < times_in r p.free + times_in r p.leaving)
    ⊎ ((i : ℕ) × (slice_get (candidates p) i ≡ Some r) × FoundAll (take i (candidates p)) found × FoundAll p.free found × FoundAll p.leaving found)

-- each region that is free, leaving or mapped was found held
pub record IsFull (p : PolicyView) (found : List ℕ) : Type 0 where
  pub free : FoundAll p.free found
  pub leaving : FoundAll p.leaving found
  pub mapped : (r : ℕ) → 0 < times r p.lists → 0 < count_in (place r) found

-- what is left to be mapped: the policy p does not map the key, or maps it to a region whose cell was noted with another key or length, which is leaving in q
abbrev pub Unmapped : Want → List (ℕ × ℕ × ℕ) → PolicyView → PolicyView → Type 0
Unmapped want noted p q = ((q ≡ p) × ((s : ℕ) → tag_at p s ≢ Some (key_tag want.key)))
    ⊎ ((r : ℕ) × (q ≡ leave r p) × (tag_at p r ≡ Some (key_tag want.key)) × (differs (place r) want noted ≡ true) × ((s : ℕ) → tag_at q s ≡ (if s == r then None else tag_at p s)))

-- a cell of what is wanted, with all bytes absent
abbrev pub blank : Want → Region
blank want = record { tag = key_tag want.key; tracker = new_tracker want.len }

-- a region was chosen by the policy p, q maps the key to it, and the gap is a claim on absent bytes
abbrev pub EntersChosen : About → Want → Entered → PolicyView → PolicyView → View → Type 0
EntersChosen a want (Held r gap) p q v = IsChoice r p v.found_held × (gap ≡ claim_run a.config.range want.sub (blank want)) × ((s : ℕ) → tag_at q s ≡ (if s == r then Some (key_tag want.key) else tag_at p s))
EntersChosen a want NoRoom p q v = ⊥
EntersChosen a want Gone p q v = ⊥

-- what an entry leaves inside the cache's turn, with the hold h
pub record Inside {A F : Type 0} (a : About) (w : ℕ) (h : Option Hold) (m n : Me (Home A F) View) : Type 0 where
  pub turn : InCache a w n
  pub stays : Stays m.0 n.0
  pub hold : n.0.hold ≡ h
  pub taken : n.0.taken ≡ m.0.taken
  pub cache_turns : n.0.cache_turns ≡ m.0.cache_turns
  pub mount_word : n.0.mount_word ≡ m.0.mount_word
  pub faults : Faults a ⊥ m.0 n.0

-- ---- the whole entry, from the policy p that was taken to the policy q that is given

-- p maps the key to no region whose cell was not noted with another key or length
abbrev pub IsOther : Want → PolicyView → View → Type 0
IsOther want p v = (s : ℕ) → tag_at p s ≡ Some (key_tag want.key) → differs (place s) want v.noted ≡ true

-- p maps the key to the region r, whose cell was not noted with another key or length: r is touched, and the gap is a claim on its cell as noted
pub record EntersMapped (a : About) (want : Want) (now r : ℕ) (gap : Option ByteRange) (p q : PolicyView) (v : View) : Type 0 where
  pub mapped : tag_at p r ≡ Some (key_tag want.key)
  pub noted : differs (place r) want v.noted ≡ false
  pub touched : q ≡ touch r now p
  pub cell : v.last_region ≡ place r
  pub claimed : gap ≡ claim_run a.config.range want.sub v.cell.region

-- Else q maps the key to the region r, and the gap is a claim on absent bytes. In p the region had the key, was free or leaving, or was a candidate,
-- where each free or leaving region and each earlier candidate was found held. No other key is lost.
pub record EntersOther (a : About) (want : Want) (r : ℕ) (gap : Option ByteRange) (p q : PolicyView) (v : View) : Type 0 where
  pub other : IsOther want p v
  pub mapped : tag_at q r ≡ Some (key_tag want.key)
  pub claimed : gap ≡ claim_run a.config.range want.sub (blank want)
  pub choice : (tag_at p r ≡ Some (key_tag want.key)) ⊎ IsChoice r p v.found_held
  pub others : (s t : ℕ) → s ≢ r → t ≢ key_tag want.key → tag_at p s ≡ Some t → tag_at q s ≡ Some t

-- every region was found held, p maps the key to none whose cell was noted so, and no other key is lost
pub record FindsNoRoom (a : About) (want : Want) (p q : PolicyView) (v : View) : Type 0 where
  pub held : (r : ℕ) → r < a.config.regions → 0 < count_in (place r) v.found_held
  pub other : IsOther want p v
  pub others : (s t : ℕ) → t ≢ key_tag want.key → tag_at p s ≡ Some t → tag_at q s ≡ Some t

abbrev pub EntersBy : About → Want → ℕ → Entered → PolicyView → PolicyView → View → Type 0
EntersBy a want now (Held r gap) p q v = EntersMapped a want now r gap p q v ⊎ EntersOther a want r gap p q v
EntersBy a want now NoRoom p q v = FindsNoRoom a want p q v
EntersBy a want now Gone p q v = q ≡ p

-- regions only left: that of the key, whose cell was noted with another key or length, and free ones that were found held
abbrev pub OnlyLeft : Want → PolicyView → PolicyView → View → Type 0
OnlyLeft want p q v = (o : PolicyView) × ((o ≡ p) ⊎ Unmapped want v.noted p o) × ((n : ℕ) × PassedOver n o q)
