-- Files of whole manifests that share no blob: no blob is two parts of them, and a mount's table has their lengths.
use Rattle.std.proofs.Common.{arith, ◌≡◌, ◌<◌, ◌+◌, ℕ, zero, suc, Bool, List, [], ◌∷◌, ◌++◌, sym, subst, ◌∙◌, ap, inl, inr, refl, length, map, Option, Some, None, Ok, Err}
use Rattle.std.specs.Prelude.{◌==◌, slice_get, option_map, replicate}
use Rattle.std.specs.Str.{is_utf8, chars}
use Rattle.serde_json.proofs.OnLiterals.{serde_json_on_literals}
use Rattle.std.specs.List.{position_from, range_with_len, flat_map, concat}
use Rattle.std.proofs.lemmas.Bool.{cases_Bool, cases_lt}
use Rattle.std.proofs.lemmas.Bool.Decides.{nat_tests}
use Rattle.std.proofs.lemmas.List.FromFn.{length-map-range_with_len}
use Rattle.std.proofs.lemmas.Option.{slice_get-map, slice_get_within, slice_get_past}
use Rattle.std.proofs.lemmas.Slice.Eq.{bytes_eq-Decides}
use Rattle.std.proofs.lemmas.List.{length-map}
use Rattle.sparse_tracker.specs.Places.{ClaimPlaces}
use Rattle.cache_outside.specs.Listing.{Listing, manifests, is_named, place_of, blob_bytes, blob_size}
use Rattle.mount_manifest.specs.declared.record.FileRecord.{FileRecord}
use Rattle.mount_manifest.specs.Manifest.{Facts, manifest}
use Rattle.mount_manifest.specs.declared.error.ManifestError.TheVariants.{NotJson}
use Rattle.mount_manifest.specs.Parts.{part_length, part_name, parts_of}
use Rattle.mount_manifest.specs.PartNames.{part_names_differ}
use Rattle.blob_parts.specs.Content.{text_of, content, bytes_of, places_of, files_of, files_at, manifest_at, first_of, or_else, missing_in, missing_part, wrong_in, wrong_part, size_refusal, part_blob, part_bytes, part_places, part_numbers}
use Rattle.blob_parts.specs.Tables.{FileParts, IsCut, IsFound, blob_places, file_length, lengths_of}
use Rattle.blob_parts.proofs.Named.{place_below}
use Rattle.blob_parts.proofs.Placed.{found_length}
use Rattle.blob_parts.proofs.Tabled.{there_is}
use Rattle.region_ranges.specs.declared.keys.Config.{Config}
use Rattle.region_ranges.specs.Keys.{IsConfig}
use Rattle.cache_door.specs.Machine.{new_state, new_cell}
use Rattle.cache_door.specs.Good.{Good}
use Rattle.cache_reader.specs.Parts.{ReadSetting}
use Rattle.cache_reader.specs.Once.{IsAmong, HaveOwnBlobs, HasLengths}
use Rattle.cache_reader.specs.MountsOnce.{IsWholeManifest, IsOneOf, AreWhole, manifest_files, manifests_files, ShareNoBlob, MountsOnce, MountsFit}
use Rattle.cache_reader.proofs.Taken.{in_append}
use Rattle.cache_reader.proofs.ReadActs.{files_once}

-- ---- lists

range_get : (lo n k : ℕ) → k < n → slice_get (range_with_len lo n) k ≡ Some (lo + k)
range_get lo zero k h = absurd (omega (arith, h))
range_get lo (suc n) zero h = let z : lo ≡ lo + 0 = omega arith in ap (λ j. Some j) z
range_get lo (suc n) (suc k) h = let z : lo + 1 + k ≡ lo + suc k = omega arith in range_get (lo + 1) n k (omega (arith, h)) ∙ ap (λ j. Some j) z

range_has : (lo n i k : ℕ) → slice_get (range_with_len lo n) i ≡ Some k → k ≡ lo + i
range_has lo zero i k e = absurd (cc)
range_has lo (suc n) zero k e = let s : lo ≡ k = cc in omega (arith, s)
range_has lo (suc n) (suc i) k e = let r = range_has (lo + 1) n i k e in omega (arith, r)

or_none : {A : Type 0} (o later : Option A) → or_else o later ≡ None → (o ≡ None) × (later ≡ None)
or_none None later e = (refl, e)
or_none (Some x) later e = absurd (cc)

first_none : {A B : Type 0} (f : A → Option B) (xs : List A) (i : ℕ) (x : A) → first_of f xs ≡ None → slice_get xs i ≡ Some x → f x ≡ None
first_none f [] i x h e = absurd (cc)
first_none f (y ∷ ys) zero x h e = let s : y ≡ x = cc in ap f (sym s) ∙ (or_none (f y) (first_of f ys) h).0
first_none f (y ∷ ys) (suc i) x h e = first_none f ys i x (or_none (f y) (first_of f ys) h).1 e

-- ---- blobs by name

-- a blob that is found has the name
record IsNamed (name : List ℕ) (bs : Listing) (n b : ℕ) : Type 0 where
  place : ℕ
  is : b ≡ n + place
  blob : List ℕ × List ℕ
  at : slice_get bs place ≡ Some blob
  same : blob.0 ≡ name

named_at : (name : List ℕ) (bs : Listing) (n b : ℕ) → position_from (is_named name) n bs ≡ Some b → IsNamed name bs n b
named_at name [] n b e = absurd (cc)
named_at name (x ∷ xs) n b e = elim (cases_Bool (is_named name x)) [
  | inl y ↦
      let here : Some n ≡ Some b = rw y at e in
      let s : n ≡ b = cc in
      record { place = 0; is = omega (arith, s); blob = x; at = refl; same = (bytes_eq-Decides x.0 name).0 y }
  | inr y ↦
      let r = named_at name xs (n + 1) b (rw y at e) in
      let is = r.is in
      record { place = suc r.place; is = omega (arith, is); blob = r.blob; at = r.at; same = r.same }
]

some_pair : (x y : List ℕ × List ℕ) → Some x ≡ Some y → x ≡ y
some_pair x y e = cc

-- two names of one blob are one name
one_name : (blobs : Listing) (x y : List ℕ) (b : ℕ) → place_of x blobs ≡ Some b → place_of y blobs ≡ Some b → x ≡ y
one_name blobs x y b e h =
    let p = named_at x blobs 0 b e in
    let q = named_at y blobs 0 b h in
    let a = p.is in
    let c = q.is in
    let place : p.place ≡ q.place = omega (arith, a, c) in
    let blob : p.blob ≡ q.blob = some_pair p.blob q.blob (sym p.at ∙ ap (λ i. slice_get blobs i) place ∙ q.at) in
    sym p.same ∙ ap (λ (z : List ℕ × List ℕ). z.0) blob ∙ q.same

-- ---- the parts of a whole manifest

missing_found : (blobs : Listing) (x : FileRecord) (k : ℕ) → missing_part blobs x k ≡ None → place_of (part_name x k) blobs ≡ Some (part_blob blobs x k)
missing_found blobs x k e = by_place (place_of (part_name x k) blobs) refl
  where
    by_place : (o : Option ℕ) → place_of (part_name x k) blobs ≡ o → place_of (part_name x k) blobs ≡ Some (part_blob blobs x k)
    by_place None h = let f = rw h at e in absurd (cc)
    by_place (Some b) h = rw h refl

size_is : (name : List ℕ) (size expected : ℕ) → size_refusal name size expected ≡ None → size ≡ expected
size_is name size expected e = elim (cases_Bool (size == expected)) [
  | inl y ↦ grind (arith, nat_tests)
  | inr n ↦ let f = rw n at e in absurd (cc)
]

module _ (blobs : Listing) (number : ℕ) (facts : Facts) (whole : IsWholeManifest blobs number facts) where
  pub files_are : files_at blobs number ≡ facts.files
  files_are = ap files_of whole.told

  part_found : (i k : ℕ) (x : FileRecord) → slice_get facts.files i ≡ Some x → k < parts_of x → place_of (part_name x k) blobs ≡ Some (part_blob blobs x k)
  part_found i k x e less =
      let none = (or_none (first_of (missing_in blobs) facts.files) (first_of (wrong_in blobs) facts.files) whole.whole).0 in
      let file = first_none (missing_in blobs) facts.files i x none e in
      missing_found blobs x k (first_none (missing_part blobs x) (part_numbers x) k k file (range_get 0 (parts_of x) k less
      ∙ ap (λ j. Some j) (let z : 0 + k ≡ k = omega arith in z)))

  part_sized : (i k : ℕ) (x : FileRecord) → slice_get facts.files i ≡ Some x → k < parts_of x
      → length (part_bytes blobs x k) ≡ part_length x.length x.part_size k
  part_sized i k x e less =
      let none = (or_none (first_of (missing_in blobs) facts.files) (first_of (wrong_in blobs) facts.files) whole.whole).1 in
      let file = first_none (wrong_in blobs) facts.files i x none e in
      size_is (part_name x k) (length (part_bytes blobs x k)) (part_length x.length x.part_size k)
      (first_none (wrong_part blobs x) (part_numbers x) k k file (range_get 0 (parts_of x) k less ∙ ap (λ j. Some j) (let z : 0 + k ≡ k = omega arith in z)))

  -- no blob is two parts
  pub own_parts : (f g k l : ℕ) (x y : FileRecord) → slice_get facts.files f ≡ Some x → slice_get facts.files g ≡ Some y → k < parts_of x → l < parts_of y
      → part_blob blobs x k ≡ part_blob blobs y l → (f ≡ g) × (k ≡ l)
  own_parts f g k l x y e h a b same =
      let name : part_name x k ≡ part_name y l =
      one_name blobs (part_name x k) (part_name y l) (part_blob blobs y l) (part_found f k x e a ∙ ap (λ j. Some j) same) (part_found g l y h b) in
      part_names_differ facts f g x y k l whole.sound e h a b name

  -- ---- its lengths

  parts_bytes : (x : FileRecord) (ks : List ℕ) → map (blob_bytes blobs) (map (part_blob blobs x) ks) ≡ map (part_bytes blobs x) ks
  parts_bytes x [] = refl
  parts_bytes x (k ∷ ks) = ap (λ r. part_bytes blobs x k ∷ r) (parts_bytes x ks)

  parts_places : (x : FileRecord) (ks : List ℕ) → flat_map (blob_places blobs) (map (part_blob blobs x) ks) ≡ flat_map (part_places blobs x) ks
  parts_places x [] = refl
  parts_places x (k ∷ ks) = ap (λ r. part_places blobs x k ++ r) (parts_places x ks)

  some_number : (j b : ℕ) → Some j ≡ Some b → j ≡ b
  some_number j b e = cc

  pub content_length : (f : ℕ) (x : FileRecord) → slice_get facts.files f ≡ Some x → length (content blobs number f) ≡ x.length
  content_length f x e =
      let file : FileParts = record { length = x.length; part_size = x.part_size; blobs = map (part_blob blobs x) (part_numbers x) } in
      let own = whole.sound.file f x e in
      let there : slice_get (files_at blobs number) f ≡ Some x = ap (λ (fs : List FileRecord). slice_get fs f) files_are ∙ e in
      let cut = own.cut in
      let is : IsCut file = record {
        some_size = omega (arith, cut);
        short = own.short;
        count = length-map-range_with_len (part_blob blobs x) 0
            (parts_of x);
      } in
      let found : IsFound blobs number f file = record {
        joined = ap (λ o. bytes_of blobs o) there ∙ ap (λ (bs : List (List ℕ)). concat bs) (sym (parts_bytes x (part_numbers x)));
        placed = ap (λ o. places_of blobs o) there ∙ sym (parts_places x (part_numbers x));
        sizes = λ k b at.
            let less : k < parts_of x = (let w = slice_get_within (map (part_blob blobs x) (part_numbers x)) k b at in let l = length-map-range_with_len
            (part_blob blobs x) 0 (parts_of x) in omega (arith, w, l)) in
            let z : 0 + k ≡ k = omega arith in
            let here : Some (part_blob blobs x k) ≡ Some b =
            sym (slice_get-map (part_blob blobs x) (part_numbers x) k
            ∙ ap (option_map (part_blob blobs x)) (range_get 0 (parts_of x) k less ∙ ap (λ j. Some j) z)) ∙ at in
            let is = some_number (part_blob blobs x k) b here in (
              place_below (part_name x k) blobs b (part_found f k x e less ∙ ap (λ j. Some j) is),
              ap (λ j. blob_size blobs j) (sym is)
                  ∙ part_sized f k x e less,
            );
      } in
      found_length blobs number f file is found

-- ---- files of manifests

abbrev pair_of : ℕ → ℕ → ℕ × ℕ
pair_of m f = (m, f)

among_one : (blobs : Listing) (m i n f : ℕ) → slice_get (manifest_files blobs m) i ≡ Some (n, f) → m ≡ n
among_one blobs m i n f e = by_number (slice_get (range_with_len 0 (length (files_at blobs m))) i)
    (sym (slice_get-map (pair_of m) (range_with_len 0 (length (files_at blobs m))) i) ∙ e)
  where
    by_number : (o : Option ℕ) → option_map (pair_of m) o ≡ Some (n, f) → m ≡ n
    by_number None h = absurd (cc)
    by_number (Some g) h = let p : (m, g) ≡ (n, f) = cc in ap (λ (z : ℕ × ℕ). z.0) p

among_number : (blobs : Listing) (numbers : List ℕ) (i m f : ℕ) → slice_get (manifests_files blobs numbers) i ≡ Some (m, f) → IsOneOf numbers m
among_number blobs [] i m f e = absurd (cc)
among_number blobs (n ∷ ns) i m f e = elim (in_append (manifest_files blobs n) (manifests_files blobs ns) i (m, f) e) [
  | inl a ↦ (0, ap (λ j. Some j) (among_one blobs n i m f a))
  | inr b ↦ let r = among_number blobs ns b.0 m f b.2 in (suc r.0, r.1)
]

pub own_blobs : (blobs : Listing) (numbers : List ℕ) → AreWhole blobs numbers → ShareNoBlob blobs numbers → HaveOwnBlobs blobs (manifests_files blobs numbers)
own_blobs blobs numbers whole apart m n f g k l x y a b e h less short same =
    let p = among_number blobs numbers a.0 m f a.1 in
    let q = among_number blobs numbers b.0 n g b.1 in
    let one : m ≡ n = apart m n f g k l x y p q e h less short same in
    let w = whole n q in
    let are = files_are blobs n w.0 w.1 in
    let first : slice_get w.0.files f ≡ Some x = ap (λ (fs : List FileRecord). slice_get fs f) (sym are) ∙ ap (λ j. slice_get (files_at blobs j) f) (sym one)
    ∙ e in
    let second : slice_get w.0.files g ≡ Some y = ap (λ (fs : List FileRecord). slice_get fs g) (sym are) ∙ h in
    let r = own_parts blobs n w.0 w.1 f g k l x y first second less short same in
    (one, r.0, r.1)

pub mounts_once : ClaimPlaces → MountsOnce
mounts_once law settings told frames blobs numbers taken t is most long few whole apart by =
    files_once law settings told frames blobs (manifests_files blobs numbers) taken t is most long few (own_blobs blobs numbers whole apart) by

-- ---- a mount's table

pub append_left : {X : Type 0} (xs ys : List X) (i : ℕ) (x : X) → slice_get xs i ≡ Some x → slice_get (xs ++ ys) i ≡ Some x
append_left [] ys i x e = absurd (cc)
append_left (y ∷ xs) ys zero x e = e
append_left (y ∷ xs) ys (suc i) x e = append_left xs ys i x e

pub append_right : {X : Type 0} (xs ys : List X) (i : ℕ) (x : X) → slice_get ys i ≡ Some x → slice_get (xs ++ ys) (length xs + i) ≡ Some x
append_right {X = X} [] ys i x e = let z : i ≡ length {A = X} [] + i = omega arith in subst (λ j. slice_get ys j ≡ Some x) z e
append_right (y ∷ xs) ys i x e = let z : suc (length xs + i) ≡ length (y ∷ xs) + i =
    omega arith in subst (λ j. slice_get (y ∷ xs ++ ys) j ≡ Some x) z (append_right xs ys i x e)

among_all : (blobs : Listing) (numbers : List ℕ) (i m f : ℕ) → slice_get numbers i ≡ Some m → f < length (files_at blobs m)
    → IsAmong (manifests_files blobs numbers) m f
among_all blobs [] i m f e less = absurd (cc)
among_all blobs (n ∷ ns) zero m f e less =
    let same : n ≡ m = cc in
    let z : 0 + f ≡ f = omega arith in
    let here : slice_get (manifest_files blobs m) f ≡ Some (m, f) = slice_get-map (pair_of m) (range_with_len 0 (length (files_at blobs m))) f
    ∙ ap (option_map (pair_of m)) (range_get 0 (length (files_at blobs m)) f less ∙ ap (λ j. Some j) z) in (
      f,
      append_left (manifest_files blobs n) (manifests_files blobs ns) f (m, f)
          (subst (λ j. slice_get (manifest_files blobs j) f ≡ Some (m, f)) (sym same) here),
    )
among_all blobs (n ∷ ns) (suc i) m f e less =
    let r = among_all blobs ns i m f e less in
    (length (manifest_files blobs n) + r.0, append_right (manifest_files blobs n) (manifests_files blobs ns) r.0 (m, f) r.1)

-- a manifest that tells something is one of the archive's
no_text : manifest [] ≡ Err NotJson
unfolding is_utf8 chars serde_json_on_literals
no_text = refl

none_told : (o : Option (List ℕ × List ℕ)) (facts : Facts) → o ≡ None → manifest (text_of o) ≡ Ok facts → ⊥
none_told o facts e h = let f : manifest [] ≡ Ok facts = ap (λ (p : Option (List ℕ × List ℕ)). manifest (text_of p)) (sym e)
    ∙ h in absurd (ok_err (sym no_text ∙ f))
  where
    ok_err : {facts : Facts} → Err NotJson ≡ Ok facts → ⊥
    ok_err e = cc

number_small : (blobs : Listing) (n : ℕ) (facts : Facts) → manifest_at blobs n ≡ Ok facts → n < length (manifests blobs)
number_small blobs n facts e = elim (cases_lt n (length (manifests blobs))) [
  | inl l ↦ l
  | inr g ↦ absurd (none_told (slice_get (manifests blobs) n) facts (slice_get_past (manifests blobs) n (omega (arith, g))) e)
]

lengths_same : (fs : List FileParts) (xs : List FileRecord) (f : ℕ) (x : FileRecord) → lengths_of fs ≡ map (λ (y : FileRecord). y.length) xs
    → slice_get xs f ≡ Some x → (file : FileParts) × (slice_get fs f ≡ Some file) × (file.length ≡ x.length)
lengths_same fs xs f x same e =
    by_file (slice_get fs f) refl (sym (slice_get-map (λ (z : FileParts). z.length) fs f) ∙ ap (λ (l : List ℕ). slice_get l f) same
    ∙ slice_get-map (λ (y : FileRecord). y.length) xs f ∙ ap (option_map (λ (y : FileRecord). y.length)) e)
  where
    by_file : (o : Option FileParts) → slice_get fs f ≡ o → option_map (λ (z : FileParts). z.length) o ≡ Some x.length
        → (file : FileParts) × (slice_get fs f ≡ Some file) × (file.length ≡ x.length)
    by_file None h k = absurd (cc)
    by_file (Some file) h k = (file, h, (let s : file.length ≡ x.length = cc in s))

same_count : (fs : List FileParts) (xs : List FileRecord) → lengths_of fs ≡ map (λ (y : FileRecord). y.length) xs → length fs ≡ length xs
same_count [] [] e = refl
same_count [] (x ∷ xs) e = absurd (cc)
same_count (z ∷ fs) [] e = absurd (cc)
same_count (z ∷ fs) (x ∷ xs) e = ap suc (same_count fs xs (let r : lengths_of fs ≡ map (λ (y : FileRecord). y.length) xs = cc in r))

pub has_lengths : (c : ReadSetting) (facts : Facts) → c.table.number < 65536 → IsWholeManifest c.blobs c.table.number facts
    → lengths_of c.table.files ≡ map (λ (f : FileRecord). f.length) facts.files → HasLengths c
has_lengths c facts small whole same =
    let count = same_count c.table.files facts.files same in
    let few = whole.sound.few_files in
    record {
      number = small;
      few = omega (arith, count, few);
      lengths = λ f less.
          let x = there_is facts.files f (omega (arith, count, less)) in
          let z = lengths_same c.table.files facts.files f x.0 same x.1 in
          let own : file_length c.table f ≡ x.0.length = rw z.1 z.2 in
          let short = (whole.sound.file f x.0 x.1).short in
          (content_length c.blobs c.table.number facts whole f x.0 x.1 ∙ sym own, omega (arith, own, short));
    }

-- ---- a first state

length_lists : (n : ℕ) → length (replicate {A = List ℕ} n []) ≡ n
length_lists zero = refl
length_lists (suc n) = ap suc (length_lists n)

first_fits : (tells : Bool) (contents : ℕ → ℕ → List ℕ) (settings : Config) (told : Bool) (frames : List (List ℕ)) (actors : ℕ)
    → Good tells contents (new_state settings told frames actors)
    → IsConfig settings × (settings.max_freq < 4294967296) × (length frames ≡ settings.regions)
first_fits tells contents settings told frames actors good =
    let few = good.policy.few in
    let lists = length_lists settings.max_freq in
    (good.config, omega (arith, few, lists), sym (length-map frames (new_cell settings.region)) ∙ good.counts.cells)

pub mounts_fit : MountsFit
mounts_fit = record {
  first = first_fits;
  lengths = λ c facts few whole same. has_lengths c facts (let n = number_small c.blobs c.table.number facts whole.told in omega (arith, n, few)) whole same;
  among = λ c facts numbers one whole same f less.
      let count = same_count c.table.files facts.files same in
      let files : length (files_at c.blobs c.table.number) ≡ length facts.files =
      ap (λ (fs : List FileRecord). length fs) (files_are c.blobs c.table.number facts whole) in
      among_all c.blobs numbers one.0 c.table.number f one.1 (omega (arith, less, count, files));
}
