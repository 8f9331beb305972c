-- Parts of reads as acts on files, and files of which no two parts are one blob.
use Rattle.std.proofs.Common.{arith, ◌≡◌, ◌<◌, ◌≤◌, ◌+◌, ◌-◌, ◌*◌, ◌/◌, ℕ, zero, suc, Bool, true, List, [], ◌∷◌, ◌++◌, sym, subst, ◌∙◌, ap, inl, inr, refl, length, map, Option, Some, None}
use Rattle.std.specs.Prelude.{◌==◌, slice_get}
use Rattle.std.specs.Int.{div_ceil}
use Rattle.std.specs.List.{range_with_len, flat_map}
use Rattle.std.proofs.lemmas.Bool.{cases_Bool, cases_lt, or_left, or_right, eq-eqb, false≢true}
use Rattle.std.proofs.lemmas.Bool.Decides.{nat_tests}
use Rattle.std.proofs.lemmas.Grind.{div_ceil_times}
use Rattle.std.proofs.lemmas.List.{length-append}
use Rattle.std.proofs.lemmas.List.Folds.{list_any-append}
use Rattle.std.proofs.lemmas.List.Sums.{sum_by-cons}
use Rattle.std.proofs.lemmas.List.FromFn.{length-map-range_with_len}
use Rattle.std.proofs.lemmas.Nat.{div_below, le-div}
use Rattle.std.proofs.Math.Nat.{mul-le-mul_right, lt-div-mul-add, div-mul-le_self}
use Rattle.region_ranges.specs.declared.keys.Config.{Config}
use Rattle.region_ranges.specs.declared.ranges.ByteRange.{ByteRange}
use Rattle.region_ranges.specs.Keys.{IsConfig, tag_of}
use Rattle.sparse_tracker.specs.Places.{ClaimPlaces}
use Rattle.freq_lists.specs.Lists.{is_in}
use Rattle.cache_outside.specs.Listing.{Listing}
use Rattle.mount_manifest.specs.declared.record.FileRecord.{FileRecord}
use Rattle.mount_manifest.specs.Parts as manifest
use Rattle.blob_parts.specs.Content as content
use Rattle.blob_parts.specs.Content.{files_at, part_blob, part_bytes, part_places, place_in}
use Rattle.blob_parts.specs.Tables.{file_length}
use Rattle.blob_parts.specs.Going.{AreInTable}
use Rattle.directory_input.specs.Reads.{Read}
use Rattle.cache_door.specs.Machine.{State, new_state}
use Rattle.cache_door.specs.Takes.{Once, part}
use Rattle.cache_reader.specs.Parts.{ReadSetting, bytes_of}
use Rattle.cache_reader.specs.Alone.{Outcome, FilePart, in_file, whole_of, parts_of, reads_parts, entry_for, outcome_over, then_outcome, AreEntered}
use Rattle.cache_reader.specs.Once.{Act, entry, ageing, act_outcome, IsListed, AreListed, HasEntryFor, AreApart, IsAmong, region_count, region_counts, file_tags, files_tags, IsPartOf, ArePartsOf, HaveOwnBlobs, FilesOnce, HasLengths, ActsGoOn}
use Rattle.cache_reader.specs.Runs.{over_more}
use Rattle.cache_reader.proofs.Wants.{few_regions}
use Rattle.cache_reader.proofs.Taken.{in_append}
use Rattle.cache_reader.proofs.Acts.{takes_once}

-- ---- the keys of files

tags_length : (size : ℕ) (blobs : Listing) (files : List (ℕ × ℕ)) → length (files_tags size blobs files) ≡ region_counts size blobs files
tags_length size blobs [] = refl
tags_length size blobs (x ∷ xs) =
    length-append (file_tags size blobs x) (files_tags size blobs xs)
    ∙ ap (λ n. n + length (files_tags size blobs xs))
    (length-map-range_with_len (λ k. tag_of (record { manifest = x.0; file = x.1; region = k })) 0 (region_count size blobs x))
    ∙ ap (λ n. region_count size blobs x + n) (tags_length size blobs xs)
    ∙ sym (sum_by-cons (region_count size blobs) x xs)

in_range : (f : ℕ → ℕ) (k lo n : ℕ) → lo ≤ k → k < lo + n → is_in (f k) (map f (range_with_len lo n)) ≡ true
in_range f k lo zero low high = absurd (omega (arith, low, high))
in_range f k lo (suc n) low high = elim (cases_Bool (f lo == f k)) [
  | inl t ↦ rw t refl
  | inr t ↦
      let other : lo ≡ k → ⊥ = λ e. false≢true (sym t ∙ eq-eqb (f lo) (f k) (ap f e)) in
      rw t (in_range f k (lo + 1) n (above lo k low other) (omega (arith, high)))
]
  where
    above : (a b : ℕ) → a ≤ b → (a ≡ b → ⊥) → a + 1 ≤ b
    above a b h n = elim (cases_lt a b) [
      | inl l ↦ omega (arith, l)
      | inr g ↦ absurd (n (omega (arith, h, g)))
    ]

tag_among : (size : ℕ) (blobs : Listing) (files : List (ℕ × ℕ)) (m f k i : ℕ) → slice_get files i ≡ Some (m, f) → k < region_count size blobs (m, f)
    → is_in (tag_of (record { manifest = m; file = f; region = k })) (files_tags size blobs files) ≡ true
tag_among size blobs [] m f k i e less = absurd (cc)
tag_among size blobs (x ∷ xs) m f k zero e less =
    let same : x ≡ (m, f) = cc in
    let t = tag_of (record { manifest = m; file = f; region = k }) in
    let P : ℕ × ℕ → Type 0 = λ y. is_in t (file_tags size blobs y) ≡ true in
    let h = subst P (sym same) (in_range (λ j. tag_of (record { manifest = m; file = f; region = j })) k 0 (region_count size blobs (m, f)) (omega arith)
    (omega (arith, less))) in
    list_any-append (λ n. n == t) (file_tags size blobs x) (files_tags size blobs xs)
    ∙ or_left (is_in t (file_tags size blobs x)) (is_in t (files_tags size blobs xs)) h
tag_among size blobs (x ∷ xs) m f k (suc i) e less =
    let t = tag_of (record { manifest = m; file = f; region = k }) in
    list_any-append (λ n. n == t) (file_tags size blobs x) (files_tags size blobs xs)
    ∙ or_right (is_in t (file_tags size blobs x)) (is_in t (files_tags size blobs xs)) (tag_among size blobs xs m f k i e less)

-- a byte of a file is in one of its regions
region_below : (size at len : ℕ) → 0 < size → at < len → at / size < div_ceil len size
region_below size at len some less =
    let t = (div_ceil_times len size some).0 in
    div_below at size (div_ceil len size) some (omega (arith, t, less))

part_listed : (blobs : Listing) (settings : Config) (files : List (ℕ × ℕ)) (c : ReadSetting) (q : FilePart) → IsConfig settings
    → IsPartOf blobs settings files c q → IsListed blobs settings (files_tags settings.region blobs files) c q
part_listed blobs settings files c q is h =
    let long : length (bytes_of c q.file) ≡ length (content.content blobs c.table.number q.file) =
    ap (λ (b : Listing). length (content.content b c.table.number q.file)) h.same in
    let some = h.some in
    let inside = h.inside in
    record {
      same = h.same;
      some = h.some;
      inside = h.inside;
      one = h.one;
      key = h.key;
      listed = tag_among settings.region blobs files c.table.number q.file (q.part.start / settings.region) h.among.0 h.among.1
          (region_below settings.region q.part.start (length (content.content blobs c.table.number q.file)) is.region.0 (omega (arith, some, inside, long)));
    }

parts_listed : (blobs : Listing) (settings : Config) (files : List (ℕ × ℕ)) (acts : List Act) → IsConfig settings → ArePartsOf blobs settings files acts
    → AreListed blobs settings (files_tags settings.region blobs files) acts
parts_listed blobs settings files [] is h = tt
parts_listed blobs settings files (entry c q ∷ acts) is h = (part_listed blobs settings files c q is h.0, parts_listed blobs settings files acts is h.1)
parts_listed blobs settings files (ageing now ∷ acts) is h = parts_listed blobs settings files acts is h

entered_among : (blobs : Listing) (settings : Config) (files : List (ℕ × ℕ)) (acts : List Act) (m f : ℕ) → ArePartsOf blobs settings files acts
    → HasEntryFor acts m f → IsAmong files m f
entered_among blobs settings files [] m f h e = absurd e
entered_among blobs settings files (entry c q ∷ acts) m f h (inl same) =
    subst (λ n. IsAmong files n f) same.0 (subst (λ n. IsAmong files c.table.number n) same.1 h.0.among)
entered_among blobs settings files (entry c q ∷ acts) m f h (inr rest) = entered_among blobs settings files acts m f h.1 rest
entered_among blobs settings files (ageing now ∷ acts) m f h e = entered_among blobs settings files acts m f h e

-- ---- places of files whose parts are blobs of their own

-- a place of a file is in one of its parts
record InPart (blobs : Listing) (x : FileRecord) (lo n i : ℕ) (place : ℕ × ℕ) : Type 0 where
  k : ℕ
  j : ℕ
  low : lo ≤ k
  high : k < lo + n
  is : place ≡ (part_blob blobs x k, j)
  stands : i ≡ length (flat_map (part_places blobs x) (range_with_len lo (k - lo))) + j

in_row : (blob lo n i : ℕ) (place : ℕ × ℕ) → slice_get (map (place_in blob) (range_with_len lo n)) i ≡ Some place → place ≡ (blob, lo + i)
in_row blob lo zero i place e = absurd (cc)
in_row blob lo (suc n) zero place e = let same : (blob, lo) ≡ place = cc in let z : lo ≡ lo + 0 = omega arith in sym same ∙ ap (λ k. (blob, k)) z
in_row blob lo (suc n) (suc i) place e = let z : lo + 1 + i ≡ lo + suc i = omega arith in in_row blob (lo + 1) n i place e ∙ ap (λ k. (blob, k)) z

in_part : (blobs : Listing) (x : FileRecord) (lo n i : ℕ) (place : ℕ × ℕ) → slice_get (flat_map (part_places blobs x) (range_with_len lo n)) i ≡ Some place
    → InPart blobs x lo n i place
in_part blobs x lo zero i place e = absurd (cc)
in_part blobs x lo (suc n) i place e = elim (in_append (part_places blobs x lo) (flat_map (part_places blobs x) (range_with_len (lo + 1) n)) i place e) [
  | inl a ↦
      let z : 0 ≡ lo - lo = omega arith in
      record {
        k = lo;
        j = i;
        low = omega arith;
        high = omega arith;
        is = in_row (part_blob blobs x lo) 0 (length (part_bytes blobs x lo)) i place a
            ∙ ap (λ k. (part_blob blobs x lo, k)) (let y : 0 + i ≡ i = omega arith in y);
        stands = subst (λ d. i ≡ length (flat_map (part_places blobs x) (range_with_len lo d)) + i) z (omega arith);
      }
  | inr b ↦
      let r = in_part blobs x (lo + 1) n b.0 place b.2 in
      let low = r.low in
      let high = r.high in
      let first = part_places blobs x lo in
      let rest = flat_map (part_places blobs x) (range_with_len (lo + 1) (r.k - (lo + 1))) in
      let at = b.1 in
      let stands = r.stands in
      let sum = length-append first rest in
      let step : suc (r.k - (lo + 1)) ≡ r.k - lo = omega (arith, low) in
      record {
        k = r.k;
        j = r.j;
        low = omega (arith, low);
        high = omega (arith, high);
        is = r.is;
        stands = subst (λ d. i ≡ length (flat_map (part_places blobs x) (range_with_len lo d)) + r.j) step (omega (arith, at, stands, sum));
      }
]

module _ (blobs : Listing) (files : List (ℕ × ℕ)) (own : HaveOwnBlobs blobs files) where
  one_place : (m n f g i j : ℕ) (place : ℕ × ℕ) (o r : Option FileRecord) → IsAmong files m f → IsAmong files n g → slice_get (files_at blobs m) f ≡ o
      → slice_get (files_at blobs n) g ≡ r
      → slice_get (content.places_of blobs o) i ≡ Some place → slice_get (content.places_of blobs r) j ≡ Some place → (m ≡ n) × (f ≡ g) × (i ≡ j)
  one_place m n f g i j place None r a b x y e h = absurd (cc)
  one_place m n f g i j place (Some x) None a b xe ye e h = absurd (cc)
  one_place m n f g i j place (Some x) (Some y) a b xe ye e h =
      let p = in_part blobs x 0 (manifest.parts_of x) i place e in
      let q = in_part blobs y 0 (manifest.parts_of y) j place h in
      let both : (part_blob blobs x p.k, p.j) ≡ (part_blob blobs y q.k, q.j) = sym p.is ∙ q.is in
      let blob : part_blob blobs x p.k ≡ part_blob blobs y q.k = ap (λ (z : ℕ × ℕ). z.0) both in
      let off : p.j ≡ q.j = ap (λ (z : ℕ × ℕ). z.1) both in
      let high = p.high in
      let top = q.high in
      let same = own m n f g p.k q.k x y a b xe ye (omega (arith, high)) (omega (arith, top)) blob in
      let P : ℕ → ℕ → Type 0 = λ u v. slice_get (files_at blobs u) v ≡ Some x in
      let there : slice_get (files_at blobs n) g ≡ Some x = subst (λ u. P u g) same.0 (subst (λ v. P m v) same.1 xe) in
      let file : x ≡ y = some_file x y (sym there ∙ ye) in
      let before : length (flat_map (part_places blobs x) (range_with_len 0 (p.k - 0))) ≡ length (flat_map (part_places blobs y) (range_with_len 0 (q.k - 0))) =
      ap (λ (z : FileRecord). length (flat_map (part_places blobs z) (range_with_len 0 (p.k - 0)))) file
      ∙ ap (λ k. length (flat_map (part_places blobs y) (range_with_len 0 (k - 0)))) same.2 in
      let s = p.stands in
      let t = q.stands in
      (same.0, same.1, omega (arith, s, t, before, off))
    where
      some_file : (x y : FileRecord) → Some x ≡ Some y → x ≡ y
      some_file x y e = cc

  pub own_apart : AreApart blobs (IsAmong files)
  own_apart m n f g i j place a b e h = one_place m n f g i j place (slice_get (files_at blobs m) f) (slice_get (files_at blobs n) g) a b refl refl e h

acts_once : ClaimPlaces → (settings : Config) (told : Bool) (frames : List (List ℕ)) (blobs : Listing) (files : List (ℕ × ℕ)) (acts : List Act)
    → IsConfig settings → settings.max_freq < 4294967296 → length frames ≡ settings.regions → region_counts settings.region blobs files ≤ settings.regions
    → HaveOwnBlobs blobs files → ArePartsOf blobs settings files acts
    → Once (λ blob. true) (outcome_over act_outcome acts (new_state settings told frames 1)).places
acts_once law settings told frames blobs files acts is most long few own are =
    let count = tags_length settings.region blobs files in
    takes_once law settings told frames blobs (files_tags settings.region blobs files) acts is most long (omega (arith, few, count))
    (parts_listed blobs settings files acts is are)
    (λ m n f g i j place a b e h. own_apart blobs files own m n f g i j place (entered_among blobs settings files acts m f are a)
    (entered_among blobs settings files acts n g are b) e h)

pub files_once : ClaimPlaces → FilesOnce
files_once law settings told frames blobs files taken t is most long few own by =
    subst (λ l. Once (λ blob. true) l) by.places (acts_once law settings told frames blobs files by.acts is most long few own by.are)

-- ---- parts of reads

quotient : (x k r : ℕ) → 0 < r → k * r ≤ x → x < k * r + r → x / r ≡ k
quotient x k r some low high =
    let s = row_next k r in
    let up : k ≤ x / r = le-div k x r some low in
    let down : x / r < k + 1 = div_below x r (k + 1) some (omega (arith, s, high)) in
    omega (arith, up, down)
  where
    row_next : (k r : ℕ) → (k + 1) * r ≡ k * r + r
    row_next k r = grind arith

-- what is true of a part of a range
record IsCut (range : ℕ) (whole p : ByteRange) : Type 0 where
  some : p.start < p.end
  first : whole.start ≤ p.start
  last : p.end ≤ whole.end
  one : p.start / range ≡ (p.end - 1) / range

part_cut : (range k : ℕ) (whole : ByteRange) → 0 < range → whole.start < whole.end → whole.start / range ≤ k → k ≤ (whole.end - 1) / range
    → IsCut range whole (part range whole k)
part_cut range k whole some less low high =
    let a : whole.start < whole.start / range * range + range = lt-div-mul-add {a = whole.start} some in
    let b : whole.start / range * range ≤ k * range = mul-le-mul_right range low in
    let c : k * range ≤ (whole.end - 1) / range * range = mul-le-mul_right range high in
    let d : (whole.end - 1) / range * range ≤ whole.end - 1 = div-mul-le_self (whole.end - 1) range in
    let p = part range whole k in
    let above : k * range ≤ p.start = omega arith in
    let below : p.start < k * range + range = omega (arith, a, b, some) in
    let up : p.start < p.end = omega (arith, a, b, c, d, some, less) in
    let under : p.end ≤ k * range + range = omega arith in
    record {
      some = up;
      first = omega arith;
      last = omega arith;
      one = quotient p.start k range some above below ∙ sym (quotient (p.end - 1) k range some (omega (arith, up, above)) (omega (arith, up, under)));
    }

module _ (c : ReadSetting) (files : List (ℕ × ℕ)) (is : IsConfig c.config) (table : HasLengths c) (among : (f : ℕ) → f < length c.table.files
    → IsAmong files c.table.number f) where
  abbrev AreParts : List FilePart → Type 0
  AreParts ps = ArePartsOf c.blobs c.config files (map (entry c) ps)

  more_parts : (ps qs : List FilePart) → AreParts ps → AreParts qs → AreParts (ps ++ qs)
  more_parts [] qs h k = k
  more_parts (p ∷ ps) qs h k = (h.0, more_parts ps qs h.1 k)

  cut_part : (r : Read) (p : ByteRange) → r.file < length c.table.files → r.at + r.size ≤ file_length c.table r.file → IsCut c.config.range (whole_of r) p
      → IsPartOf c.blobs c.config files c (in_file r.file p)
  cut_part r p file inside cut =
      let l = table.lengths r.file file in
      let some = cut.some in
      let last = cut.last in
      let few = table.few in
      record {
        same = refl;
        among = among r.file file;
        some = cut.some;
        inside = omega (arith, l, inside, last);
        one = cut.one;
        key = (
          table.number,
          omega (arith, file, few),
          few_regions c.config.region p.start (p.start / c.config.region) is.region.0 is.region_pages
              (div-mul-le_self p.start c.config.region) (omega (arith, l, inside, last, some)),
        );
      }

  rows : (r : Read) (k n : ℕ) → r.file < length c.table.files → r.at + r.size ≤ file_length c.table r.file → 0 < r.size → r.at / c.config.range ≤ k
      → k + n ≤ (r.at + r.size - 1) / c.config.range + 1
      → AreParts (map (in_file r.file) (map (part c.config.range (whole_of r)) (range_with_len k n)))
  rows r k zero file inside some low high = tt
  rows r k (suc n) file inside some low high = (
    cut_part r (part c.config.range (whole_of r) k) file inside
        (part_cut c.config.range k (whole_of r) is.range.0 (omega (arith, some)) low (omega (arith, high))),
    rows r (k + 1) n file inside some (omega (arith, low)) (omega (arith, high)),
  )

  read_parts : (r : Read) → r.file < length c.table.files → r.at + r.size ≤ file_length c.table r.file → AreParts (parts_of c.config.range r)
  read_parts r file inside = elim (cases_Bool (r.at + r.size - r.at == 0)) [
    | inl t ↦ rw t tt
    | inr t ↦
        let some : 0 < r.size = grind (arith, nat_tests) in
        rw t (rows r (r.at / c.config.range) ((r.at + r.size - 1) / c.config.range + 1 - r.at / c.config.range) file inside some (omega arith)
        (ends (r.at / c.config.range) ((r.at + r.size - 1) / c.config.range)
        (le-div (r.at / c.config.range) (r.at + r.size - 1) c.config.range is.range.0 (let d = div-mul-le_self r.at c.config.range in omega (arith, d, some)))))
  ]
    where
      ends : (a b : ℕ) → a ≤ b → a + (b + 1 - a) ≤ b + 1
      ends a b h = omega (arith, h)

  reads_are : (reads : List Read) → AreInTable c.table reads → AreParts (reads_parts c.config.range reads)
  reads_are [] h = tt
  reads_are (r ∷ rs) h = more_parts (parts_of c.config.range r) (reads_parts c.config.range rs) (read_parts r h.0 h.1) (reads_are rs h.2)

  -- those that were entered for
  entered_are : (ps entered : List FilePart) (s : State) → AreParts ps → AreEntered c 0 entered ps s → AreParts entered
  entered_are [] entered s h e = subst AreParts (sym e) tt
  entered_are (q ∷ qs) entered s h (inl e) = entered_are qs entered s h.1 e.1
  entered_are (q ∷ qs) entered s h (inr e) = subst AreParts (sym e.1) (h.0, entered_are qs e.0 (entry_for c 0 q s).state h.1 e.2)

-- ---- entries as acts

pub entries_acts : (c : ReadSetting) (qs : List FilePart) (s : State) → outcome_over (entry_for c 0) qs s ≡ outcome_over act_outcome (map (entry c) qs) s
entries_acts c [] s = refl
entries_acts c (q ∷ qs) s = ap (then_outcome (entry_for c 0 q s)) (entries_acts c qs (entry_for c 0 q s).state)

parts_more : (blobs : Listing) (settings : Config) (files : List (ℕ × ℕ)) (xs ys : List Act) → ArePartsOf blobs settings files xs
    → ArePartsOf blobs settings files ys → ArePartsOf blobs settings files (xs ++ ys)
parts_more blobs settings files [] ys h k = k
parts_more blobs settings files (entry c q ∷ xs) ys h k = (h.0, parts_more blobs settings files xs ys h.1 k)
parts_more blobs settings files (ageing now ∷ xs) ys h k = parts_more blobs settings files xs ys h k

pub acts_go_on : ActsGoOn
acts_go_on = record {
  none = λ blobs settings files s. record { acts = []; are = tt; places = refl; state = refl };
  decay = λ blobs settings files now s. record { acts = ageing now ∷ []; are = tt; places = refl; state = refl };
  reads = λ c files reads before now x y s is table inside among h. record {
    outcome = outcome_over (entry_for c 0) h.entered s;
    by = record {
      acts = map (entry c) h.entered;
      are = entered_are c files is table among (reads_parts c.config.range reads) h.entered s (reads_are c files is table among reads inside) h.are;
      places = ap (λ (w : Outcome). w.places) (sym (entries_acts c h.entered s));
      state = ap (λ (w : Outcome). w.state) (sym (entries_acts c h.entered s));
    };
    has = h.outcome;
  };
  more = λ blobs settings files taken later s t u h k.
      let go = over_more act_outcome h.acts k.acts s in
      record {
        acts = h.acts ++ k.acts;
        are = parts_more blobs settings files h.acts k.acts h.are k.are;
        places =
            ap (λ (w : Outcome). w.places) go
            ∙ ap (λ l. l ++ (outcome_over act_outcome k.acts (outcome_over act_outcome h.acts s).state).places) h.places
            ∙ ap (λ v. taken ++ (outcome_over act_outcome k.acts v).places) h.state
            ∙ ap (λ l. taken ++ l) k.places;
        state = ap (λ (w : Outcome). w.state) go ∙ ap (λ v. (outcome_over act_outcome k.acts v).state) h.state ∙ k.state;
      };
}
