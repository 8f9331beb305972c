-- A segment whose files were found.
use Rattle.std.proofs.Common.{◌≡◌, ℕ, ◌+◌, ◌<◌, List, [], ◌∷◌, length, Bool, true, false, Option, Some, None, Ok, Err, refl, sym, ap, arith}
use Rattle.std.specs.Prelude.{IfSome, Result}
use Rattle.std.specs.List.{position_from}
use Rattle.mount_manifest.specs.Steps.{◌>>=◌}
use Rattle.mount_manifest.specs.Manifest.{file_of, optional_file, file_number, has_physical_name, placed}
use Rattle.mount_manifest.specs.declared.record.FileRecord.{FileRecord}
use Rattle.mount_manifest.specs.declared.record.NamedSegment.{NamedSegment}
use Rattle.mount_manifest.specs.declared.record.Segment.{Segment}
use Rattle.mount_manifest.specs.declared.error.ManifestError.{ManifestError}
use Rattle.mount_manifest.specs.declared.error.ManifestError.TheVariants.{NoFile}
use Rattle.mount_manifest.proofs.Steps.{both, was_there}

-- a place that was found is below the length
found_next : {A : Type 0} (test : A → Bool) (x : A) (xs : List A) (i n : ℕ) (passes : Bool) → test x ≡ passes
    → position_from test i (x ∷ xs) ≡ Some n → (position_from test (i + 1) xs ≡ Some n → n < i + 1 + length xs) → n < i + length (x ∷ xs)
found_next test x xs i n true e h later = let s = rw e at h in let same : i ≡ n = cc in omega arith
found_next test x xs i n false e h later = let s = rw e at h in let l = later s in omega arith

pub found_below : {A : Type 0} (test : A → Bool) (xs : List A) (i n : ℕ) → position_from test i xs ≡ Some n → n < i + length xs
found_below test [] i n h = absurd (cc)
found_below test (x ∷ xs) i n h = found_next test x xs i n (test x) refl h (found_below test xs (i + 1) n)

file_below : (files : List FileRecord) (name : List ℕ) (n : ℕ) → file_of files name ≡ Ok n → n < length files
file_below files name n h =
    let below = found_below (has_physical_name name) files 0 n (was_there (NoFile name) (file_number files name) n h) in omega arith

optional_below : (files : List FileRecord) (name : Option (List ℕ)) (o : Option ℕ) → optional_file files name ≡ Ok o → IfSome o (λ n. n < length files)
optional_below files None None h = tt
optional_below files None (Some n) h = absurd (cc)
optional_below files (Some name) None h =
    let found = both (file_of files name) _ None h in let e = found.2 in absurd (cc)
optional_below files (Some name) (Some n) h =
    let found = both (file_of files name) _ (Some n) h in
    let e = found.2 in
    let same : found.0 ≡ n = cc in
    rw (sym same) (file_below files name found.0 found.1)

built : (postings : Result ℕ ManifestError) (stored live : Result (Option ℕ) ManifestError) (name : List ℕ) (docs : ℕ) (t : Segment)
    → (postings >>= (λ p. stored >>= (λ s. live >>= (λ l. Ok (record { name = name; docs = docs; postings = p; stored = s; live = l }))))) ≡ Ok t
    → (t.name ≡ name) × (t.docs ≡ docs) × (postings ≡ Ok t.postings) × (stored ≡ Ok t.stored) × (live ≡ Ok t.live)
built (Err e) s l name docs t h = absurd (cc)
built (Ok p) (Err e) l name docs t h = absurd (cc)
built (Ok p) (Ok s) (Err e) name docs t h = absurd (cc)
built (Ok p) (Ok s) (Ok l) name docs t h =
    let r : Segment = record { name = name; docs = docs; postings = p; stored = s; live = l } in
    let same : t ≡ r = cc in (
      ap (λ (g : Segment). g.name) same,
      ap (λ (g : Segment). g.docs) same,
      ap (λ (g : Segment). Ok g.postings) (sym same),
      ap (λ (g : Segment). Ok g.stored) (sym same),
      ap (λ (g : Segment). Ok g.live) (sym same),
    )

pub placed_below : (files : List FileRecord) (s : NamedSegment) (t : Segment) → placed files s ≡ Ok t
    → (t.name ≡ s.name) × (t.docs ≡ s.docs) × (t.postings < length files) × IfSome t.stored (λ n. n < length files) × IfSome t.live (λ n. n < length files)
unfolding placed
placed_below files s t h =
    let r = built (file_of files s.postings) (optional_file files s.stored) (optional_file files s.live) s.name s.docs t h in
    (r.0, r.1, file_below files s.postings t.postings r.2, optional_below files s.stored t.stored r.3, optional_below files s.live t.live r.4)
