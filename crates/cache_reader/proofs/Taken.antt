-- What a hold's gap takes was not taken, and once it is stored it is present.
use Rattle.std.proofs.Common.{arith, ◌≡◌, ◌<◌, ◌≤◌, ◌+◌, ◌-◌, ◌*◌, ◌/◌, ℕ, zero, suc, Bool, true, List, [], ◌∷◌, ◌++◌, sym, subst, ◌∙◌, ap, inl, inr, refl, length, take, drop, get_or, Option, Some, None}
use Rattle.std.specs.Prelude.{◌⊎◌, slice_get, IsSome, if◌then◌else◌}
use Rattle.std.proofs.lemmas.Bool.{cases_eq}
use Rattle.std.proofs.lemmas.List.{append-nil}
use Rattle.std.proofs.lemmas.Nat.{div_below, le-div}
use Rattle.region_ranges.specs.declared.keys.Config.{Config}
use Rattle.region_ranges.specs.declared.ranges.ByteRange.{ByteRange}
use Rattle.region_ranges.specs.Keys.{tag_of}
use Rattle.sparse_tracker.specs.ByteStates.{absent, present, with_ticket, open_gap_at, least_unused, numbers, ids}
use Rattle.cache_policy.specs.Policy.{PolicyView, tag_at}
use Rattle.cache_policy.proofs.Tags.{at_within}
use Rattle.cache_outside.specs.Listing.{Listing}
use Rattle.cache_outside.specs.Frames.{put_at}
use Rattle.blob_parts.specs.Content.{content, content_places, where_at, slice_of}
use Rattle.region_cell.specs.Cells as cells
use Rattle.region_cell.specs.Cells.{len_of}
use Rattle.cache_door.specs.declared.answers.Want.{Want}
use Rattle.cache_door.specs.declared.answers.Entered.TheVariants.{Held}
use Rattle.cache_door.specs.Machine.{State, Cell, no_cell, cell_at, with_hold, with_region, gap_on}
use Rattle.cache_door.specs.Takes.{Once, taken_by, after, spread_over}
use Rattle.cache_reader.specs.Once.{AreApart}
use Rattle.cache_reader.proofs.Fills.{slice_length}
use Rattle.cache_reader.proofs.Filled.{Claimed, absent_present, changed_at, one_cell, two_cells, through_len, through_filled, through_stays}
use Rattle.cache_reader.proofs.Untaken.{idle, HasPresent, IsTaken, Untaken}

-- ---- places of lists

pub in_append : {X : Type 0} (xs ys : List X) (n : ℕ) (x : X) → slice_get (xs ++ ys) n ≡ Some x
    → (slice_get xs n ≡ Some x) ⊎ ((m : ℕ) × (n ≡ length xs + m) × (slice_get ys m ≡ Some x))
in_append [] ys n x e = inr (n, omega arith, e)
in_append (y ∷ xs) ys zero x e = inl e
in_append (y ∷ xs) ys (suc n) x e = elim (in_append xs ys n x e) [
  | inl a ↦ inl a
  | inr b ↦ inr (b.0, (let f = b.1 in omega (arith, f)), b.2)
]

in_take : {X : Type 0} (k i : ℕ) (xs : List X) (x : X) → slice_get (take k xs) i ≡ Some x → (i < k) × (slice_get xs i ≡ Some x)
in_take zero i xs x e = absurd (cc)
in_take (suc k) i [] x e = absurd (cc)
in_take (suc k) zero (y ∷ ys) x e = (omega arith, e)
in_take (suc k) (suc i) (y ∷ ys) x e = let r = in_take k i ys x e in (omega (arith, r), r.1)

in_drop : {X : Type 0} (k i j : ℕ) (xs : List X) (x : X) → j ≡ k + i → slice_get (drop k xs) i ≡ Some x → slice_get xs j ≡ Some x
in_drop zero i j xs x s e = let f : i ≡ j = omega (arith, s) in subst (λ n. slice_get xs n ≡ Some x) f e
in_drop (suc k) i j [] x s e = absurd (cc)
in_drop (suc k) i zero (y ∷ ys) x s e = absurd (omega (arith, s))
in_drop (suc k) i (suc j) (y ∷ ys) x s e = in_drop k i j ys x (omega (arith, s)) e

in_slice : {X : Type 0} (xs : List X) (at n i j : ℕ) (x : X) → j ≡ at + i → slice_get (slice_of xs at n) i ≡ Some x → (i < n) × (slice_get xs j ≡ Some x)
in_slice xs at n i j x s e = let t = in_take n i (drop at xs) x e in (t.0, in_drop at i j xs x s t.1)

-- ---- the cells behind a hold

abbrev pub held_cell : ByteRange → Option ByteRange → Cell → Cell
held_cell sub o c = record { region = record c.region { tracker = with_ticket sub (open_gap_at o c.region.tracker) }; bytes = c.bytes }

abbrev pub stored_cell : Bool → ℕ → ℕ → List ℕ → Cell → Cell
stored_cell told id start piece c =
    record { region = cells.progress id (start + length piece) c.region; bytes = if told then put_at start piece c.bytes else c.bytes }

abbrev pub left_cell : ℕ → Cell → Cell
left_cell n c = record { region = cells.leave n c.region; bytes = c.bytes }

-- a hold of actor 0, whose claim takes the run `o`
abbrev pub held_state : ℕ → Want → Option ByteRange → State → State
held_state r want o s =
    let c = (cell_at s r).region in
    with_hold 0 (Some (record {
      region = r;
      tag = tag_of want.key;
      ticket = least_unused (numbers c.tracker.tickets);
      sub = want.sub;
      gap = gap_on
          (least_unused (ids c.tracker.gaps)) o;
    }))
    (with_region r (record c { tracker = with_ticket want.sub (open_gap_at o c.tracker) }) s)

-- no state of the region's cell was lost, and its run is present
pub record IsStored (r : ℕ) (o : Option ByteRange) (cs ds : List Cell) : Type 0 where
  pub cells : length ds ≡ length cs
  pub there : (k : ℕ) → ¬ (k ≡ r) → get_or ds k no_cell ≡ get_or cs k no_cell
  pub len : len_of (get_or ds r no_cell).region ≡ len_of (get_or cs r no_cell).region
  pub stays : (i : ℕ) → HasPresent i (get_or cs r no_cell) → HasPresent i (get_or ds r no_cell)
  pub filled : (g : ByteRange) (i : ℕ) → o ≡ Some g → g.start ≤ i → i < g.end → HasPresent i (get_or ds r no_cell)

pub record Behind (settings : Config) (told : Bool) (gone : List Bool) (p : PolicyView) (r : ℕ) (o : Option ByteRange) (cs : List Cell)
    (s : State) : Type 0 where
  pub now : List Cell
  pub is : s ≡ idle settings told gone p now
  pub stored : IsStored r o cs now

-- a gap lies in the region and in the file, and its bytes are absent
abbrev pub IsGap : Cell → List ℕ → ℕ → Option ByteRange → Type 0
IsGap c bytes base o = (g : ByteRange) → o ≡ Some g → Claimed c.region g × (base + g.end ≤ length bytes)

module _ (settings : Config) (told : Bool) (gone : List Bool) (p : PolicyView) (cs : List Cell) (r : ℕ) (want : Want) (bytes : List ℕ) (base : ℕ)
    (within : r < length cs) where
  abbrev old : Cell
  old = get_or cs r no_cell

  abbrev behind_state : Option ByteRange → State
  behind_state o = after (Held r o) 0 bytes base (held_state r want o (idle settings told gone p cs))

  some_same : (g h : ByteRange) → Some g ≡ Some h → h ≡ g
  some_same g h e = cc

  behind_none : Behind settings told gone p r None cs (behind_state None)
  behind_none =
      let n = least_unused (numbers old.region.tracker.tickets) in
      let ds = changed_at r (left_cell n) (changed_at r (held_cell want.sub None) cs) in
      let k = two_cells r cs (changed_at r (held_cell want.sub None) cs) (held_cell want.sub None old) (left_cell n) within
      (one_cell r cs (held_cell want.sub None) within) in
      record {
        now = ds;
        is = refl;
        stored = record {
          cells = k.cells;
          there = k.there;
          len = ap (λ (c : Cell). len_of c.region) k.here;
          stays = λ i e. ap (λ (c : Cell). slice_get c.region.tracker.byte_states i) k.here ∙ e;
          filled = λ g i e low high. absurd (cc);
        };
      }

  behind_some : (g : ByteRange) → IsGap old bytes base (Some g) → Behind settings told gone p r (Some g) cs (behind_state (Some g))
  behind_some g gap =
      let t = old.region.tracker in
      let n = least_unused (numbers t.tickets) in
      let id = least_unused (ids t.gaps) in
      let piece = slice_of bytes (base + g.start) (g.end - g.start) in
      let first = held_cell want.sub (Some g) in
      let second = stored_cell told id g.start piece in
      let ds = changed_at r (left_cell n) (changed_at r second (changed_at r first cs)) in
      let a = one_cell r cs first within in
      let b = two_cells r cs (changed_at r first cs) (first old) second within a in
      let k = two_cells r cs (changed_at r second (changed_at r first cs)) (second (first old)) (left_cell n) within b in
      let to = g.start + length piece in
      let is = gap g refl in
      let some = is.0.some in
      let fits = is.1 in
      let long : length piece ≡ g.end - g.start = slice_length bytes (base + g.start) (g.end - g.start) (omega (arith, some, fits)) in
      record {
        now = ds;
        is = refl;
        stored = record {
          cells = k.cells;
          there = k.there;
          len = ap (λ (c : Cell). len_of c.region) k.here ∙ through_len g to t;
          stays = λ i e. ap (λ (c : Cell). slice_get c.region.tracker.byte_states i) k.here ∙ through_stays g to t i is.0.absent_all e;
          filled = λ h i e low high.
              let P : ByteRange → Type 0 = λ x. x.start ≤ i → i < x.end → HasPresent i (get_or ds r no_cell) in
              subst P (sym (some_same g h e)) (λ l u. ap (λ (c : Cell). slice_get c.region.tracker.byte_states i) k.here
              ∙ through_filled g to t i l u (omega (arith, long, l, u)) (is.0.absent_all i l u)) low high;
        };
      }

  pub behind : (o : Option ByteRange) → IsGap old bytes base o → Behind settings told gone p r o cs (behind_state o)
  behind None gap = behind_none
  behind (Some g) gap = behind_some g gap

-- ---- the places that a hold takes

-- a place of a gap is that of a byte of the file
pub record InGap (all : List (ℕ × ℕ)) (base n : ℕ) (o : Option ByteRange) (place : ℕ × ℕ) : Type 0 where
  pub gap : ByteRange
  pub is : o ≡ Some gap
  pub less : gap.start + n < gap.end
  pub stands : slice_get all (base + (gap.start + n)) ≡ Some place

pub gap_places : (all : List (ℕ × ℕ)) (r base : ℕ) (part : ByteRange) (o : Option ByteRange) (n : ℕ) (place : ℕ × ℕ)
    → slice_get (spread_over all (taken_by (Held r o) base part)) n ≡ Some place → InGap all base n o place
gap_places all r base part None n place e = absurd (cc)
gap_places all r base part (Some g) n place e =
    let P : List (ℕ × ℕ) → Type 0 = λ l. slice_get l n ≡ Some place in
    let f : slice_get (slice_of all (base + g.start) (base + g.end - (base + g.start))) n ≡ Some place =
    subst P (append-nil (slice_of all (base + g.start) (base + g.end - (base + g.start)))) e in
    let k = in_slice all (base + g.start) (base + g.end - (base + g.start)) n (base + (g.start + n)) place (omega arith) f in
    let less = k.0 in
    record { gap = g; is = refl; less = omega (arith, less); stands = k.1 }

pub row_more : (k size : ℕ) → (k + 1) * size ≡ k * size + size
row_more k size = grind arith

-- a byte of a region is of that region
pub of_region : (k size i : ℕ) → 0 < size → i < size → (k * size + i) / size ≡ k
of_region k size i some less =
    let r = row_more k size in
    let up : k ≤ (k * size + i) / size = le-div k (k * size + i) size some (omega arith) in
    let down : (k * size + i) / size < k + 1 = div_below (k * size + i) size (k + 1) some (omega (arith, r, less)) in
    omega (arith, up, down)

-- ---- a hold

-- an entry left policy and cells, and these places were taken besides
pub record Next (blobs : Listing) (settings : Config) (keys : List ℕ) (Files : ℕ → ℕ
    → Type 0) (told : Bool) (gone : List Bool) (places : List (ℕ × ℕ)) (s : State) : Type 0 where
  pub policy : PolicyView
  pub cells : List Cell
  pub is : s ≡ idle settings told gone policy cells
  pub untaken : Untaken blobs settings keys Files policy cells places

module _ {blobs : Listing} {settings : Config} {keys : List ℕ} {Files : ℕ → ℕ
    → Type 0} (apart : AreApart blobs Files) (told : Bool) (gone : List Bool) (p : PolicyView) (cs : List Cell) (places : List (ℕ × ℕ))
    (u : Untaken blobs settings keys Files p cs places) (m f k r : ℕ) (want : Want) (part : ByteRange) (o : Option ByteRange) (is_file : Files m f)
    (region : 0 < settings.region)
    (mapped : tag_at p r ≡ Some (tag_of (record { manifest = m; file = f; region = k }))) (short : len_of (get_or cs r no_cell).region ≤ settings.region)
    (gap : IsGap (get_or cs r no_cell) (content blobs m f) (k * settings.region) o) where
  abbrev base : ℕ
  base = k * settings.region

  abbrev all : List (ℕ × ℕ)
  all = content_places blobs m f

  abbrev new : List (ℕ × ℕ)
  new = spread_over all (taken_by (Held r o) base part)

  pub within : r < length cs
  within =
      let P : Option ℕ → Type 0 = λ t. IsSome t in
      let l = at_within p.tags r (subst P (sym mapped) refl) in
      omega (arith, l, u.tags, u.cells)

  behind_it : Behind settings told gone p r o cs (behind_state settings told gone p cs r want (content blobs m f) base within o)
  behind_it = behind settings told gone p cs r want (content blobs m f) base within o gap

  abbrev ds : List Cell
  ds = behind_it.now

  stored : IsStored r o cs ds
  stored = behind_it.stored

  -- what is present stays
  still : (q i : ℕ) → HasPresent i (get_or cs q no_cell) → HasPresent i (get_or ds q no_cell)
  still q i e = elim (cases_eq q r) [
    | inl is ↦
        let P : ℕ → Type 0 = λ j. HasPresent i (get_or cs j no_cell) in
        let Q : ℕ → Type 0 = λ j. HasPresent i (get_or ds j no_cell) in
        subst Q (sym is) (stored.stays i (subst P is e))
    | inr n ↦ ap (λ (c : Cell). slice_get c.region.tracker.byte_states i) (stored.there q n) ∙ e
  ]

  same_len : (q : ℕ) → len_of (get_or ds q no_cell).region ≡ len_of (get_or cs q no_cell).region
  same_len q = elim (cases_eq q r) [
    | inl is ↦
        let P : ℕ → Type 0 = λ j. len_of (get_or ds j no_cell).region ≡ len_of (get_or cs j no_cell).region in
        subst P (sym is) stored.len
    | inr n ↦ ap (λ (c : Cell). len_of c.region) (stored.there q n)
  ]

  -- where a place of the gap stands
  record IsNew (n : ℕ) (place : ℕ × ℕ) : Type 0 where
    at : ℕ
    from : ByteRange
    is : o ≡ Some from
    place_is : at ≡ from.start + n
    in_gap : (from.start ≤ at) × (at < from.end)
    stands : where_at blobs m f (base + at) ≡ Some place
    row : (base + at) / settings.region ≡ k
    absent_was : slice_get (get_or cs r no_cell).region.tracker.byte_states at ≡ Some absent
    present_is : HasPresent at (get_or ds r no_cell)

  new_at : (n : ℕ) (place : ℕ × ℕ) → slice_get new n ≡ Some place → IsNew n place
  new_at n place e =
      let i = gap_places all r base part o n place e in
      let g = i.gap in
      let c = (gap g i.is).0 in
      let less = i.less in
      let top = c.within in
      record {
        at = g.start + n;
        from = g;
        is = i.is;
        place_is = refl;
        in_gap = (omega arith, less);
        stands = i.stands;
        row = of_region k settings.region (g.start + n) region (omega (arith, less, top, short));
        absent_was = c.absent_all (g.start + n) (omega arith) less;
        present_is = stored.filled g (g.start + n) i.is (omega arith) less;
      }

  new_taken : (n : ℕ) (place : ℕ × ℕ) → slice_get new n ≡ Some place → IsTaken blobs settings Files p ds place
  new_taken n place e =
      let i = new_at n place e in
      let row = i.row in
      let start : (base + i.at) / settings.region * settings.region ≡ base = ap (λ j. j * settings.region) row in
      let off : i.at ≡ base + i.at - (base + i.at) / settings.region * settings.region = omega (arith, start) in
      record {
        manifest = m;
        file = f;
        byte = base + i.at;
        region = r;
        of = is_file;
        stands = i.stands;
        mapped = mapped ∙ ap (λ j. Some (tag_of (record { manifest = m; file = f; region = j }))) (sym row);
        there = subst (λ j. HasPresent j (get_or ds r no_cell)) off i.present_is;
      }

  -- no place of the gap was taken
  not_taken : (n : ℕ) (place : ℕ × ℕ) → slice_get new n ≡ Some place → IsTaken blobs settings Files p cs place → ⊥
  not_taken n place e t =
      let i = new_at n place e in
      let same = apart t.manifest m t.file f t.byte (base + i.at) place t.of is_file t.stands i.stands in
      let row : t.byte / settings.region ≡ k = ap (λ j. j / settings.region) same.2 ∙ i.row in
      let key : tag_at p t.region ≡ Some (tag_of (record { manifest = m; file = f; region = k })) =
      t.mapped
      ∙ ap (λ j. Some (tag_of (record { manifest = j; file = t.file; region = t.byte / settings.region }))) same.0
      ∙ ap (λ j. Some (tag_of (record { manifest = m; file = j; region = t.byte / settings.region }))) same.1
      ∙ ap (λ j. Some (tag_of (record { manifest = m; file = f; region = j }))) row in
      let here : t.region ≡ r = u.policy.keys t.region r _ key mapped in
      let start : t.byte / settings.region * settings.region ≡ base = ap (λ j. j * settings.region) row in
      let byte = same.2 in
      let off : t.byte - t.byte / settings.region * settings.region ≡ i.at = omega (arith, start, byte) in
      let there = subst (λ j. HasPresent j (get_or cs r no_cell)) off
      (subst (λ j. HasPresent (t.byte - t.byte / settings.region * settings.region) (get_or cs j no_cell)) here t.there) in
      absent_present (sym i.absent_was ∙ there)

  some_gap : (g h : ByteRange) → Some g ≡ Some h → g ≡ h
  some_gap g h e = cc

  -- two places of the gap are two bytes
  new_once : (i j : ℕ) (place : ℕ × ℕ) → slice_get new i ≡ Some place → slice_get new j ≡ Some place → i ≡ j
  new_once i j place e h =
      let a = new_at i place e in
      let b = new_at j place h in
      let same = apart m m f f (base + a.at) (base + b.at) place is_file is_file a.stands b.stands in
      let byte = same.2 in
      let starts : a.from.start ≡ b.from.start = ap (λ (x : ByteRange). x.start) (some_gap a.from b.from (sym a.is ∙ b.is)) in
      let x = a.place_is in
      let y = b.place_is in
      omega (arith, byte, starts, x, y)

  all_once : Once (λ blob. true) (places ++ new)
  all_once i j place is_part e h = elim (in_append places new i place e) [
    | inl a ↦ elim (in_append places new j place h) [
      | inl b ↦ u.once i j place is_part a b
      | inr b ↦ absurd (not_taken b.0 place b.2 (u.taken i place a))
    ]
    | inr a ↦ elim (in_append places new j place h) [
      | inl b ↦ absurd (not_taken a.0 place a.2 (u.taken j place b))
      | inr b ↦ let s = new_once a.0 b.0 place a.2 b.2 in let x = a.1 in let y = b.1 in omega (arith, s, x, y)
    ]
  ]

  all_taken : (n : ℕ) (place : ℕ × ℕ) → slice_get (places ++ new) n ≡ Some place → IsTaken blobs settings Files p ds place
  all_taken n place e = elim (in_append places new n place e) [
    | inl a ↦
        let t = u.taken n place a in
        record {
          manifest = t.manifest;
          file = t.file;
          byte = t.byte;
          region = t.region;
          of = t.of;
          stands = t.stands;
          mapped = t.mapped;
          there = still t.region (t.byte - t.byte / settings.region * settings.region) t.there;
        }
    | inr b ↦ new_taken b.0 place b.2
  ]

  pub held_next : Next blobs settings keys Files told gone (places ++ new) (behind_state settings told gone p cs r want (content blobs m f) base within o)
  held_next = record {
    policy = p;
    cells = ds;
    is = behind_it.is;
    untaken = record {
      policy = u.policy;
      leaving = u.leaving;
      cells = stored.cells ∙ u.cells;
      tags = u.tags;
      listed = u.listed;
      sized = λ q tag e. same_len q ∙ u.sized q tag e;
      taken = all_taken;
      once = all_once;
    };
  }
