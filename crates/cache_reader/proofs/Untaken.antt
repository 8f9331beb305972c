-- What is kept while no byte is taken twice: each place that was taken is present in the cache.
use Rattle.std.proofs.Common.{arith, ◌≡◌, ◌<◌, ◌+◌, ◌-◌, ◌*◌, ◌/◌, ℕ, Bool, true, List, [], ◌∷◌, sym, subst, ◌∙◌, ap, inl, inr, refl, length, get_or, Option, Some, None}
use Rattle.std.specs.Prelude.{◌&&◌, nat_lt, slice_get, IsSome}
use Rattle.std.proofs.lemmas.Bool.{cases_eq, cases_Bool}
use Rattle.std.proofs.lemmas.Bool.Decides.{nat_tests}
use Rattle.std.proofs.lemmas.List.{length-set, length-replicate}
use Rattle.region_ranges.specs.declared.keys.Config.{Config}
use Rattle.region_ranges.specs.Keys.{tag_of}
use Rattle.sparse_tracker.specs.ByteStates.{absent, present}
use Rattle.freq_lists.specs.Lists.{is_in, head, list_of}
use Rattle.cache_policy.specs.Policy.{PolicyView, tag_at, find}
use Rattle.cache_policy.specs.Ageing.{map_front, touch, touch_at, waited, decay}
use Rattle.cache_policy.specs.Kept.{IsGood, one_if_some}
use Rattle.cache_policy.proofs.Good.{good_map, good_raise, good_lower, front_not_listed, front_region}
use Rattle.cache_policy.proofs.Tags.{at, at_same, at_other}
use Rattle.region_cell.specs.Cells.{len_of, region_bytes, assign}
use Rattle.cache_outside.specs.Listing.{Listing}
use Rattle.blob_parts.specs.Content.{content, where_at}
use Rattle.cache_door.specs.Machine.{State, Cell, no_cell}
use Rattle.cache_door.specs.Takes.{Once}
use Rattle.cache_reader.proofs.Filled.{OneCell, changed_at, one_cell}

-- a state of one actor that holds nothing
abbrev pub idle : Config → Bool → List Bool → PolicyView → List Cell → State
idle settings told gone p cs = record { config = settings; told = told; policy = p; cells = cs; holds = None ∷ []; gone = gone }

abbrev pub HasPresent : ℕ → Cell → Type 0
HasPresent i c = slice_get c.region.tracker.byte_states i ≡ Some present

-- a place is that of a byte of a file, whose key is mapped, and which is present in that region's cell
pub record IsTaken (blobs : Listing) (settings : Config) (Files : ℕ → ℕ → Type 0) (p : PolicyView) (cs : List Cell) (place : ℕ × ℕ) : Type 0 where
  pub manifest : ℕ
  pub file : ℕ
  pub byte : ℕ
  pub region : ℕ
  pub of : Files manifest file
  pub stands : where_at blobs manifest file byte ≡ Some place
  pub mapped : tag_at p region ≡ Some (tag_of (record { manifest = manifest; file = file; region = byte / settings.region }))
  pub there : HasPresent (byte - byte / settings.region * settings.region) (get_or cs region no_cell)

-- what is kept of policy and cells, where these places were taken
pub record Untaken (blobs : Listing) (settings : Config) (keys : List ℕ) (Files : ℕ → ℕ
    → Type 0) (p : PolicyView) (cs : List Cell) (places : List (ℕ × ℕ)) : Type 0 where
  pub policy : IsGood p
  pub leaving : p.leaving ≡ []
  pub cells : length cs ≡ settings.regions
  pub tags : length p.tags ≡ settings.regions
  pub listed : (r tag : ℕ) → tag_at p r ≡ Some tag → is_in tag keys ≡ true
  pub sized : (r tag : ℕ) → tag_at p r ≡ Some tag → len_of (get_or cs r no_cell).region ≡ length (region_bytes (content blobs) settings.region tag)
  pub taken : (n : ℕ) (place : ℕ × ℕ) → slice_get places n ≡ Some place → IsTaken blobs settings Files p cs place
  pub once : Once (λ blob. true) places

-- ---- the policy alone changes, and no key

pub record SameKeys (p q : PolicyView) : Type 0 where
  pub policy : IsGood q
  pub leaving : q.leaving ≡ p.leaving
  pub tags : q.tags ≡ p.tags

pub keys_kept : {blobs : Listing} {settings : Config} {keys : List ℕ} {Files : ℕ → ℕ → Type 0} (p q : PolicyView) (cs : List Cell) (places : List (ℕ × ℕ))
    → SameKeys p q → Untaken blobs settings keys Files p cs places → Untaken blobs settings keys Files q cs places
keys_kept p q cs places same u =
    let tag : (r : ℕ) → tag_at q r ≡ tag_at p r = λ r. ap (λ (ts : List (Option ℕ)). at ts r) same.tags in
    record {
      policy = same.policy;
      leaving = same.leaving ∙ u.leaving;
      cells = u.cells;
      tags = ap (λ (ts : List (Option ℕ)). length ts) same.tags ∙ u.tags;
      listed = λ r t e. u.listed r t (sym (tag r) ∙ e);
      sized = λ r t e. u.sized r t (sym (tag r) ∙ e);
      taken = λ n place e. let k = u.taken n place e in record {
        manifest = k.manifest;
        file = k.file;
        byte = k.byte;
        region = k.region;
        of = k.of;
        stands = k.stands;
        mapped = tag k.region ∙ k.mapped;
        there = k.there;
      };
      once = u.once;
    }

-- a decay
pub aged : (now : ℕ) (p : PolicyView) → IsGood p → SameKeys p (decay now p)
aged now p good = record { policy = good_lower p good (λ r. waited 2 r now p) _; leaving = refl; tags = refl }

-- an access
touched_at : (o : Option ℕ) (r now : ℕ) (p : PolicyView) → IsGood p → IsSome (at p.tags r) → SameKeys p (touch_at o r now p)
touched_at None r now p good is = record { policy = good; leaving = refl; tags = refl }
touched_at (Some f) r now p good is = elim (cases_Bool (waited 1 r now p && nat_lt (f + 1) (length p.lists))) [
  | inl y ↦
      let less : f + 1 < length p.lists = grind (arith, nat_tests) in
      rw y (record { policy = good_raise p good r is (f + 1) now _ less; leaving = refl; tags = refl })
  | inr n ↦ rw n (record { policy = good; leaving = refl; tags = refl })
]

pub touched : (r now : ℕ) (p : PolicyView) → IsGood p → IsSome (at p.tags r) → SameKeys p (touch r now p)
touched r now p good is = touched_at (list_of r p.lists) r now p good is

-- ---- a key is mapped to the front free region, all of whose bytes are absent then

-- a cell after an assignment
abbrev pub assigned_cell : ℕ → ℕ → Cell → Cell
assigned_cell tag len c = record { region = assign tag len c.region; bytes = c.bytes }

module _ {blobs : Listing} {settings : Config} {keys : List ℕ} {Files : ℕ → ℕ
    → Type 0} (p : PolicyView) (cs : List Cell) (places : List (ℕ × ℕ)) (u : Untaken blobs settings keys Files p cs places)
    (r tag now len : ℕ) (front : head p.free ≡ Some r) (new : find tag p ≡ None) (here : is_in tag keys ≡ true)
    (size : len ≡ length (region_bytes (content blobs) settings.region tag)) where
  abbrev pub mapped_policy : PolicyView
  mapped_policy = map_front r tag now p

  abbrev pub mapped_cells : List Cell
  mapped_cells = changed_at r (assigned_cell tag len) cs

  inside_tags : r < length p.tags
  inside_tags = front_region p u.policy r tag front

  inside_cells : r < length cs
  inside_cells = omega (arith, inside_tags, u.cells, u.tags)

  changed_cells : OneCell r (assigned_cell tag len (get_or cs r no_cell)) cs mapped_cells
  changed_cells = one_cell r cs (assigned_cell tag len) inside_cells

  pub tag_here : tag_at mapped_policy r ≡ Some tag
  tag_here = at_same p.tags r (Some tag) inside_tags

  tag_there : (k : ℕ) → ¬ (k ≡ r) → tag_at mapped_policy k ≡ tag_at p k
  tag_there k n = at_other p.tags r k (Some tag) n

  one_some : (o : Option ℕ) (t : ℕ) → o ≡ Some t → 0 < one_if_some o
  one_some None t e = absurd (cc)
  one_some (Some k) t e = omega arith

  -- the region had no key
  free_bare : (t : ℕ) → tag_at p r ≡ Some t → ⊥
  free_bare t e =
      let m = u.policy.mapped r in
      let l = front_not_listed p u.policy r tag front in
      let s = one_some (tag_at p r) t e in
      omega (arith, m, l, s)

  some_same : {m n : ℕ} → Some m ≡ Some n → n ≡ m
  some_same e = cc

  pub mapped_untaken : Untaken blobs settings keys Files mapped_policy mapped_cells places
  mapped_untaken = record {
    policy = good_map p u.policy r tag front now new;
    leaving = u.leaving;
    cells = changed_cells.cells ∙ u.cells;
    tags = length-set p.tags r (Some tag) ∙ u.tags;
    listed = λ k t e. elim (cases_eq k r) [
      | inl is ↦
          let P : ℕ → Type 0 = λ j. tag_at mapped_policy j ≡ Some t in
          let Q : ℕ → Type 0 = λ j. is_in j keys ≡ true in
          subst Q (sym (some_same (sym tag_here ∙ subst P is e))) here
      | inr n ↦ u.listed k t (sym (tag_there k n) ∙ e)
    ];
    sized = λ k t e. elim (cases_eq k r) [
      | inl is ↦
          let P : ℕ → Type 0 = λ j. tag_at mapped_policy j ≡ Some t in
          let Q : ℕ → Type 0 = λ j. len_of (get_or mapped_cells j no_cell).region ≡ length (region_bytes (content blobs) settings.region t) in
          subst Q (sym is) (
          ap (λ (c : Cell). len_of c.region) changed_cells.here ∙ length-replicate len absent ∙ size
          ∙ ap (λ (j : ℕ). length (region_bytes (content blobs) settings.region j)) (sym (some_same (sym tag_here ∙ subst P is e))))
      | inr n ↦ ap (λ (c : Cell). len_of c.region) (changed_cells.there k n) ∙ u.sized k t (sym (tag_there k n) ∙ e)
    ];
    taken = λ n place e.
        let k = u.taken n place e in
        let P : ℕ → Type 0 = λ j. tag_at p j ≡ Some (tag_of (record { manifest = k.manifest; file = k.file; region = k.byte / settings.region })) in
        let away : ¬ (k.region ≡ r) = λ is. free_bare _ (subst P is k.mapped) in
        record {
          manifest = k.manifest;
          file = k.file;
          byte = k.byte;
          region = k.region;
          of = k.of;
          stands = k.stands;
          mapped = tag_there k.region away ∙ k.mapped;
          there = ap (λ (c : Cell). slice_get c.region.tracker.byte_states (k.byte - k.byte / settings.region * settings.region))
              (changed_cells.there k.region away) ∙ k.there;
        };
    once = u.once;
  }
