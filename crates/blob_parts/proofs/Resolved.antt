-- What was found and compared so far, one part or one file more, and at the end.
use Rattle.std.proofs.Common.{◌≡◌, ℕ, zero, suc, ◌+◌, ◌-◌, ◌<◌, ◌≤◌, List, [], ◌∷◌, ◌++◌, Option, Some, None, Bool, length, drop, map, refl, ap, sym, ◌∙◌, arith, subst, inl, inr, ◌⊎◌}
use Rattle.std.specs.Prelude.{slice_get}
use Rattle.std.specs.List.{range_with_len}
use Rattle.std.proofs.lemmas.List.FromFn.{map-range_with_len_more}
use Rattle.std.proofs.lemmas.Option.{slice_get_within}
use Rattle.std.proofs.lemmas.List.{length-map}
use Rattle.byte_text.proofs.Lists.{drop_get}
use Rattle.cache_outside.specs.Listing.{Listing, place_of, blob_size}
use Rattle.mount_manifest.specs.declared.record.FileRecord.{FileRecord}
use Rattle.mount_manifest.specs.Parts.{part_name, part_length, parts_of}
use Rattle.blob_parts.specs.Content.{PartRefusal, first_of, missing_part, missing_in, wrong_part, wrong_in, part_blob}
use Rattle.blob_parts.specs.Tables.{FileParts, AreNamed}
use Rattle.blob_parts.specs.Resolving.{Refuses, IsEntry, AreEntries, AreSized, AllSized}
use Rattle.blob_parts.specs.declared.resolving.ResolveError.{ResolveError}
use Rattle.blob_parts.specs.declared.resolving.ResolveError.TheVariants.{Missing, PartSize, Fault, NoMemory}

-- ---- lists

-- what holds of each item by its place holds with one more behind
pub pushed : {X : Type 0} (P : ℕ → X → Type 0) (xs : List X) (x : X) → ((i : ℕ) (y : X) → slice_get xs i ≡ Some y → P i y)
    → P (length xs) x → (i : ℕ) (y : X) → slice_get (xs ++ x ∷ []) i ≡ Some y → P i y
pushed P [] x before here zero y at = let e : x ≡ y = cc in subst (λ z. P 0 z) e here
pushed P [] x before here (suc i) y at = absurd (cc)
pushed P (z ∷ xs) x before here zero y at = before 0 y at
pushed P (z ∷ xs) x before here (suc i) y at = pushed (λ j w. P (suc j) w) xs x (λ j w found. before (suc j) w found) here i y at

range_next : (k n : ℕ) → k < n → range_with_len k (n - k) ≡ k ∷ range_with_len (k + 1) (n - (k + 1))
range_next k n h = let e : n - k ≡ suc (n - (k + 1)) = omega (arith, h) in ap (λ m. range_with_len k m) e

-- the first refusal of what is left, where the next gives none, and where it gives one
passed : {A B : Type 0} (f : A → Option B) (x : A) (left rest : List A) (whole : Option B) → left ≡ x ∷ rest → first_of f left ≡ whole → f x ≡ None → first_of f rest ≡ whole
passed f x left rest whole next h none = let e = rw (next, none) at h in e

stopped : {A B : Type 0} (f : A → Option B) (x : A) (left rest : List A) (whole : Option B) (b : B) → left ≡ x ∷ rest → first_of f left ≡ whole → f x ≡ Some b → whole ≡ Some b
stopped f x left rest whole b next h some = let e = rw (next, some) at h in sym e

ended : {B : Type 0} (g : ℕ → Option B) (n : ℕ) (whole : Option B) → first_of g (range_with_len n (n - n)) ≡ whole → whole ≡ None
ended g n whole h = let e : n - n ≡ 0 = omega arith in let r = rw e at h in sym r

all_left : {B : Type 0} (g : ℕ → Option B) (n : ℕ) → first_of g (range_with_len 0 (n - 0)) ≡ first_of g (range_with_len 0 n)
all_left g n = let e : n - 0 ≡ n = omega arith in ap (λ m. first_of g (range_with_len 0 m)) e

split : (i k : ℕ) → i < k + 1 → (i < k) ⊎ (i ≡ k)
split i k h = grind (arith, h)

drop_all : {A : Type 0} (xs : List A) (n : ℕ) → length xs ≤ n → drop n xs ≡ []
drop_all [] zero h = refl
drop_all [] (suc n) h = refl
drop_all (x ∷ xs) zero h = absurd (omega (arith, h))
drop_all (x ∷ xs) (suc n) h = drop_all xs n (omega (arith, h))

-- a refusal of a part is that of the whole, where it is the first
pub refused_whole : (e : ResolveError) (part whole : Option PartRefusal) → ((r : PartRefusal) → part ≡ Some r → whole ≡ Some r) → Refuses e part → Refuses e whole
refused_whole (Missing name) part whole step h = step _ h
refused_whole (PartSize name told wanted) part whole step h = step _ h
refused_whole Fault part whole step h = tt
refused_whole NoMemory part whole step h = tt

-- ---- the parts of one file

module _ (blobs : Listing) (f : FileRecord) where
  -- the first k parts were found
  pub record FoundUpTo (k : ℕ) (found : List ℕ) : Type 0 where
    pub left : first_of (missing_part blobs f) (range_with_len k (parts_of f - k)) ≡ missing_in blobs f
    pub named : (i b : ℕ) → slice_get found i ≡ Some b → place_of (part_name f i) blobs ≡ Some b
    pub whole : found ≡ map (part_blob blobs f) (range_with_len 0 k)

  pub found_start : FoundUpTo 0 []
  found_start = record { left = all_left (missing_part blobs f) (parts_of f); named = λ i b h. absurd (cc); whole = refl }

  not_missing : (k b : ℕ) → place_of (part_name f k) blobs ≡ Some b → missing_part blobs f k ≡ None
  not_missing k b h = rw h refl

  blob_is : (k b : ℕ) → place_of (part_name f k) blobs ≡ Some b → part_blob blobs f k ≡ b
  blob_is k b h = rw h refl

  pub found_next : (k b : ℕ) (found : List ℕ) → k < parts_of f → length found ≡ k → FoundUpTo k found → place_of (part_name f k) blobs ≡ Some b → FoundUpTo (k + 1) (found ++ b ∷ [])
  found_next k b found inside count up here = record {
    left = passed (missing_part blobs f) k _ _ _ (range_next k (parts_of f) inside) up.left (not_missing k b here);
    named = pushed (λ i c. place_of (part_name f i) blobs ≡ Some c) found b up.named (rw count here);
    whole = ap (λ (xs : List ℕ). xs ++ b ∷ []) up.whole ∙ ap (λ (c : ℕ). map (part_blob blobs f) (range_with_len 0 k) ++ c ∷ []) (sym (blob_is k b here))
        ∙ sym (map-range_with_len_more (part_blob blobs f) 0 k k (omega arith));
  }

  pub found_stop : (k : ℕ) (found : List ℕ) → k < parts_of f → FoundUpTo k found → (r : PartRefusal) → missing_part blobs f k ≡ Some r → missing_in blobs f ≡ Some r
  found_stop k found inside up r here = stopped (missing_part blobs f) k _ _ _ r (range_next k (parts_of f) inside) up.left here

  pub found_none : (k : ℕ) (found : List ℕ) → k ≡ parts_of f → FoundUpTo k found → missing_in blobs f ≡ None
  found_none k found is up = let left = rw is at up.left in ended (missing_part blobs f) (parts_of f) _ left

  pub found_all : (k : ℕ) (found : List ℕ) → k ≡ parts_of f → FoundUpTo k found → AreNamed blobs f found
  found_all k found is up = record { named = up.named; whole = rw (sym is) up.whole }

  -- the sizes of the first k parts were compared
  pub record SizedUpTo (found : List ℕ) (k : ℕ) : Type 0 where
    pub left : first_of (wrong_part blobs f) (range_with_len k (parts_of f - k)) ≡ wrong_in blobs f
    pub sized : (i b : ℕ) → i < k → slice_get found i ≡ Some b → blob_size blobs b ≡ part_length f.length f.part_size i

  pub sized_start : (found : List ℕ) → SizedUpTo found 0
  sized_start found = record { left = all_left (wrong_part blobs f) (parts_of f); sized = λ i b h at. absurd (omega (arith, h)) }

  at_or_before : (found : List ℕ) (k b : ℕ) → slice_get found k ≡ Some b → blob_size blobs b ≡ part_length f.length f.part_size k
      → ((i c : ℕ) → i < k → slice_get found i ≡ Some c → blob_size blobs c ≡ part_length f.length f.part_size i)
      → (i c : ℕ) → i < k + 1 → slice_get found i ≡ Some c → (i < k) ⊎ (i ≡ k) → blob_size blobs c ≡ part_length f.length f.part_size i
  at_or_before found k b at own before i c inside here (inl less) = before i c less here
  at_or_before found k b at own before i c inside here (inr same) =
      let there = rw same at here in
      let e : b ≡ c = cc in
      rw (sym e, same) own

  pub sized_next : (found : List ℕ) (k b : ℕ) → k < parts_of f → slice_get found k ≡ Some b → SizedUpTo found k → wrong_part blobs f k ≡ None
      → blob_size blobs b ≡ part_length f.length f.part_size k → SizedUpTo found (k + 1)
  sized_next found k b inside at up none own = record {
    left = passed (wrong_part blobs f) k _ _ _ (range_next k (parts_of f) inside) up.left none;
    sized = λ i c less here. at_or_before found k b at own up.sized i c less here (split i k less);
  }

  pub sized_stop : (found : List ℕ) (k : ℕ) → k < parts_of f → SizedUpTo found k → (r : PartRefusal) → wrong_part blobs f k ≡ Some r → wrong_in blobs f ≡ Some r
  sized_stop found k inside up r here = stopped (wrong_part blobs f) k _ _ _ r (range_next k (parts_of f) inside) up.left here

  pub sized_none : (found : List ℕ) (k : ℕ) → k ≡ parts_of f → SizedUpTo found k → wrong_in blobs f ≡ None
  sized_none found k is up = let left = rw is at up.left in ended (wrong_part blobs f) (parts_of f) _ left

-- ---- the files of a manifest

-- a refusal of a file that was reached is that of all
pub file_stop : {B : Type 0} (test : FileRecord → Option B) (files : List FileRecord) (i : ℕ) (f : FileRecord) → slice_get files i ≡ Some f
    → first_of test (drop i files) ≡ first_of test files → (r : B) → test f ≡ Some r → first_of test files ≡ Some r
file_stop test files i f at left r here = stopped test f _ _ _ r (drop_get files i f at) left here

pub file_next : {B : Type 0} (test : FileRecord → Option B) (files : List FileRecord) (i : ℕ) (f : FileRecord) → slice_get files i ≡ Some f
    → first_of test (drop i files) ≡ first_of test files → test f ≡ None → first_of test (drop (i + 1) files) ≡ first_of test files
file_next test files i f at left none = passed test f _ _ _ (drop_get files i f at) left none

pub files_end : {B : Type 0} (test : FileRecord → Option B) (files : List FileRecord) (i : ℕ) → length files ≤ i
    → first_of test (drop i files) ≡ first_of test files → first_of test files ≡ None
files_end test files i all left = let e = rw (drop_all files i all) at left in sym e

map_pushed : {A B : Type 0} (g : A → B) (xs : List A) (x : A) → map g (xs ++ x ∷ []) ≡ map g xs ++ g x ∷ []
map_pushed g [] x = refl
map_pushed g (y ∷ xs) x = ap (λ r. g y ∷ r) (map_pushed g xs x)

module _ (tells : Bool) (blobs : Listing) (files : List FileRecord) where
  -- what an entry has to be at its place
  Fits : ℕ → FileParts → Type 0
  Fits i file = (f : FileRecord) → slice_get files i ≡ Some f → IsEntry tells blobs f file

  only : (i : ℕ) (f g : FileRecord) → slice_get files i ≡ Some f → slice_get files i ≡ Some g → f ≡ g
  only i f g a b = cc

  pub entries_next : {E : Type 0} (stated : E → FileParts) (entries : List E) (e : E) (i : ℕ) (f : FileRecord) → length entries ≡ i → slice_get files i ≡ Some f
      → AreEntries tells blobs files (map stated entries) → IsEntry tells blobs f (stated e) → AreEntries tells blobs files (map stated (entries ++ e ∷ []))
  unfolding Fits
  entries_next stated entries e i f count at before own =
      let here : (g : FileRecord) → slice_get files (length (map stated entries)) ≡ Some g → IsEntry tells blobs g (stated e) =
      λ g found. subst (λ h. IsEntry tells blobs h (stated e)) (only i f g at (let p = rw (length-map entries stated, count) at found in p)) own in
      rw (map_pushed stated entries e) (pushed Fits (map stated entries) (stated e) before here)

  pub sized_files_next : (entries : List FileParts) (i : ℕ) (f : FileRecord) (file : FileParts) → slice_get files i ≡ Some f → slice_get entries i ≡ Some file
      → AllSized blobs i files entries → AreSized blobs f file.blobs → AllSized blobs (i + 1) files entries
  sized_files_next entries i f file at entry before own j less g there other found = by_place (split j i less)
    where
      by_place : (j < i) ⊎ (j ≡ i) → AreSized blobs g other.blobs
      by_place (inl below) = before j below g there other found
      by_place (inr same) =
          let g_at = rw same at there in
          let other_at = rw same at found in
          let e : f ≡ g = cc in
          let o : file ≡ other = cc in
          subst (λ h. AreSized blobs h other.blobs) e (subst (λ (p : FileParts). AreSized blobs f p.blobs) o own)

-- once all parts were compared, each has its size
pub all_sized : (blobs : Listing) (f : FileRecord) (found : List ℕ) (k : ℕ) → SizedUpTo blobs f found k → length found ≤ k → AreSized blobs f found
all_sized blobs f found k up all i b at = up.sized i b (omega (arith, all, slice_get_within found i b at)) at
