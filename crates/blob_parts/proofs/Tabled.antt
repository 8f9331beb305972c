-- The entries that were found and compared make a table.
use Rattle.std.proofs.Common.{◌≡◌, ◌<◌, ℕ, zero, suc, List, [], ◌∷◌, ◌++◌, Bool, Some, Ok, length, map, ap, sym, ◌∙◌, refl, arith}
use Rattle.std.specs.Prelude.{slice_get, IsTrue}
use Rattle.std.specs.List.{concat, flat_map}
use Rattle.std.proofs.lemmas.Option.{slice_get_within}
use Rattle.cache_outside.specs.Listing.{Listing, blob_bytes}
use Rattle.mount_manifest.specs.Manifest.{Facts}
use Rattle.mount_manifest.specs.Parts.{part_name}
use Rattle.mount_manifest.specs.Sound.{IsFile, IsSound}
use Rattle.mount_manifest.specs.declared.record.FileRecord.{FileRecord}
use Rattle.blob_parts.specs.Content.{manifest_at, files_of, bytes_of, places_of, part_blob, part_bytes, part_places, part_numbers}
use Rattle.blob_parts.specs.Tables.{FileParts, IsCut, IsFound, IsTable, AreNamed, blob_places, lengths_of}
use Rattle.blob_parts.specs.Resolving.{IsEntry, AreEntries, AreSized, AllSized}
use Rattle.blob_parts.proofs.Named.{place_below}

pub there_is : {X : Type 0} (xs : List X) (i : ℕ) → i < length xs → (x : X) × (slice_get xs i ≡ Some x)
there_is [] i h = absurd (omega (arith, h))
there_is (x ∷ xs) zero h = (x, refl)
there_is (x ∷ xs) (suc i) h = there_is xs i (omega (arith, h))

-- what the blobs of the parts have, is what the parts have
parts_bytes : (blobs : Listing) (f : FileRecord) (ks : List ℕ) → map (blob_bytes blobs) (map (part_blob blobs f) ks) ≡ map (part_bytes blobs f) ks
parts_bytes blobs f [] = refl
parts_bytes blobs f (k ∷ ks) = ap (λ r. part_bytes blobs f k ∷ r) (parts_bytes blobs f ks)

parts_places : (blobs : Listing) (f : FileRecord) (ks : List ℕ) → flat_map (blob_places blobs) (map (part_blob blobs f) ks) ≡ flat_map (part_places blobs f) ks
parts_places blobs f [] = refl
parts_places blobs f (k ∷ ks) = ap (λ r. part_places blobs f k ++ r) (parts_places blobs f ks)

cut_of : (tells : Bool) (blobs : Listing) (f : FileRecord) (file : FileParts) → IsFile f → IsEntry tells blobs f file → IsCut file
cut_of tells blobs f file kept own = record {
  some_size = omega (arith, own.part_size, kept.cut);
  short = omega (arith, own.size, kept.short);
  count = rw (own.size, own.part_size) own.count;
}

found_of : (blobs : Listing) (number i : ℕ) (m : Facts) (f : FileRecord) (file : FileParts) → manifest_at blobs number ≡ Ok m → slice_get m.files i ≡ Some f
    → file.length ≡ f.length → file.part_size ≡ f.part_size → AreNamed blobs f file.blobs → AreSized blobs f file.blobs → IsFound blobs number i file
found_of blobs number i m f file told at size part_size named sized =
    let whole : file.blobs ≡ map (part_blob blobs f) (part_numbers f) = named.whole in
    record {
      joined = ap (λ r. bytes_of blobs (slice_get (files_of r) i)) told ∙ ap (λ o. bytes_of blobs o) at
          ∙ ap (λ r. concat r) (sym (parts_bytes blobs f (part_numbers f)) ∙ ap (λ bs. map (blob_bytes blobs) bs) (sym whole));
      placed = ap (λ r. places_of blobs (slice_get (files_of r) i)) told ∙ ap (λ o. places_of blobs o) at
          ∙ sym (parts_places blobs f (part_numbers f)) ∙ ap (λ bs. flat_map (blob_places blobs) bs) (sym whole);
      sizes = λ k blob there. (place_below (part_name f k) blobs blob (named.named k blob there), rw (size, part_size) (sized k blob there));
    }

pub table_is : (tells : Bool) (blobs : Listing) (number : ℕ) (m : Facts) (entries : List FileParts)
    → number < 65536 → (IsTrue tells → manifest_at blobs number ≡ Ok m) → IsSound m
    → length entries ≡ length m.files → AreEntries tells blobs m.files entries
    → (IsTrue tells → AllSized blobs (length m.files) m.files entries)
    → IsTable tells blobs (record { number = number; files = entries })
table_is tells blobs number m entries small told sound count fits sized = record {
  number = small;
  few = omega (arith, count, sound.few_files);
  cut = λ i file at. cut_at i file at;
  found = λ yes_tells i file at. found_at yes_tells i file at;
}
  where
    inside : (i : ℕ) (file : FileParts) → slice_get entries i ≡ Some file → i < length m.files
    inside i file at = omega (arith, count, slice_get_within entries i file at)

    cut_at : (i : ℕ) (file : FileParts) → slice_get entries i ≡ Some file → IsCut file
    cut_at i file at =
        let own = there_is m.files i (inside i file at) in
        cut_of tells blobs own.0 file (sound.file i own.0 own.1) (fits i file at own.0 own.1)

    found_at : IsTrue tells → (i : ℕ) (file : FileParts) → slice_get entries i ≡ Some file → IsFound blobs number i file
    found_at t i file at =
        let own = there_is m.files i (inside i file at) in
        let entry = fits i file at own.0 own.1 in
        found_of blobs number i m own.0 file (told t) own.1 entry.size entry.part_size (entry.named t) (sized t i (inside i file at) own.0 own.1 file at)

pub lengths_same : (tells : Bool) (blobs : Listing) (files : List FileRecord) (entries : List FileParts)
    → length entries ≡ length files → AreEntries tells blobs files entries → lengths_of entries ≡ map (λ (f : FileRecord). f.length) files
lengths_same tells blobs [] [] count fits = refl
lengths_same tells blobs [] (e ∷ es) count fits = absurd (omega (arith, count))
lengths_same tells blobs (f ∷ fs) [] count fits = absurd (omega (arith, count))
lengths_same tells blobs (f ∷ fs) (e ∷ es) count fits =
    let own = fits 0 e refl f refl in
    let rest = lengths_same tells blobs fs es (omega (arith, count)) (λ i file at g there. fits (suc i) file at g there) in
    ap (λ n. n ∷ lengths_of es) own.size ∙ ap (λ r. f.length ∷ r) rest
