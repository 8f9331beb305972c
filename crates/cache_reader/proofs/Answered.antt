-- Answers of reads, by their cases.
use Rattle.std.proofs.Common.{arith, ◌≡◌, ◌≢◌, ◌≤◌, ℕ, List, true, false, Option, Some, None, Result, Ok, Err, length, refl, ap, ◌∙◌}
use Rattle.std.specs.Prelude.{OnOk, IsErr, IsErrOf}
use Rattle.directory_input.specs.declared.files.BytesError.{BytesError}
use Rattle.directory_input.specs.declared.files.BytesError.TheVariants.{Fault, Gone, NoMemory}
use Rattle.byte_text.specs.Counts.{Rose}
use Rattle.directory_input.specs.Causes.{IsCaused, refusal}
use Rattle.directory_input.specs.Files.{FilesView}
use Rattle.blob_parts.specs.Content.{slice_of}
use Rattle.blob_parts.specs.Takes.{Took, Takes}
use Rattle.cache_reader.specs.Going.{is_memory}
use Rattle.blob_parts.specs.declared.read.FetchError.{FetchError}
use Rattle.blob_parts.specs.declared.read.FetchError.TheVariants as fetch
use Rattle.cache_reader.specs.Filling.{is_answered, lacks_memory}
use Rattle.cache_reader.proofs.Fills.{piece_most, piece_some}

-- a fetch that was refused, not for want of memory
pub failed_fetch : (T : Type 0) (e : FetchError) (P : Type 0) → (e ≡ fetch.Fault → P) → lacks_memory {T = T} (Err e) ≡ false → P
failed_fetch T fetch.Fault P f h = f refl
failed_fetch T fetch.NoMemory P f h = absurd (cc)

-- an error of the source alone
pub refused_by : (T : Type 0) (e : BytesError) (P : Type 0) → (e ≡ Fault → P) → ((m : ℕ) → e ≢ Gone m) → is_memory {T = T} (Err e) ≡ false → P
refused_by T Fault P f g h = f refl
refused_by T (Gone m) P f g h = absurd (g m refl)
refused_by T NoMemory P f g h = absurd (cc)

pub caused_by : (e : BytesError) (before now : FilesView) → (e ≡ Fault → Rose before.faults now.faults) → ((m : ℕ) → e ≢ Gone m) → IsCaused before now (Some e)
caused_by Fault before now f g = f refl
caused_by (Gone m) before now f g = absurd (g m refl)
caused_by NoMemory before now f g = tt

pub caused_of : {T : Type 0} (r : Result T BytesError) (before now : FilesView) → (IsErrOf r Fault → Rose before.faults now.faults) → ((m : ℕ) → r ≢ Err (Gone m)) → IsCaused before now (refusal r)
caused_of (Ok x) before now f g = tt
caused_of (Err e) before now f g = caused_by e before now (λ same. f (ap Err same)) (λ m same. g m (ap Err same))

pub refused_of : {T : Type 0} (r : Result T BytesError) (P : Type 0) → (IsErrOf r Fault → P) → ((m : ℕ) → r ≢ Err (Gone m)) → is_answered r ≡ false → is_memory r ≡ false → P
refused_of (Ok x) P f g a l = absurd (cc)
refused_of {T = T} (Err e) P f g a l = refused_by T e P (λ same. f (ap Err same)) (λ m same. g m (ap Err same)) l

-- the count stood higher before
pub caused_later : (r : Option BytesError) (a b n : FilesView) → a.faults ≤ b.faults → b.mount ≡ a.mount → IsCaused b n r → IsCaused a n r
caused_later None a b n le same h = tt
caused_later (Some Fault) a b n le same h = omega (arith, le, h)
caused_later (Some (Gone m)) a b n le same h = (h.0 ∙ same, h.1)
caused_later (Some NoMemory) a b n le same h = tt

pub on_answered : {T E : Type 0} (r : Result T E) (P : Type 0) → OnOk r P → is_answered r ≡ true → P
on_answered (Ok x) P h e = h
on_answered (Err x) P h e = absurd (cc)

pub on_refused : {T E : Type 0} (r : Result T E) → is_answered r ≡ false → IsErr r
on_refused (Ok x) e = absurd (cc)
on_refused (Err x) e = refl

-- what was taken, whatever the answer: all of it where it was answered
pub piece_of : {T E : Type 0} (r : Result T E) (t u : Option (List (ℕ × ℕ × ℕ))) (xs : List (ℕ × ℕ)) (at n : ℕ) → Takes t u (slice_of xs at n) r
    → (is_answered r ≡ true → length (slice_of xs at n) ≡ n) → (ps : List (ℕ × ℕ)) × Took t u ps × (length ps ≤ n) × (is_answered r ≡ true → length ps ≡ n)
piece_of (Ok x) t u xs at n h size = (slice_of xs at n, h, piece_most xs at n, size)
piece_of (Err e) t u xs at n h size = let p = piece_some t u xs at n h in (p.0, p.1, p.2, λ e. absurd (cc))
