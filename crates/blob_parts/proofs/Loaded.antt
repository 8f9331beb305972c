-- What loading a manifest asks, and what its text says.
use Rattle.std.proofs.Common.{◌≡◌, ◌<◌, ◌≤◌, ℕ, List, [], Option, Some, Result, Ok, Err, ap, length, arith, refl, sym, true, false, ◌∙◌}
use Rattle.std.specs.Prelude.{nat_lt}
use Rattle.std.proofs.lemmas.Bool.Decides.{nat_tests}
use Rattle.std.proofs.Math.Seq.{take-length}
use Rattle.cache_outside.specs.Listing.{Listing, blob_bytes, blob_size, manifest_number, place_of}
use Rattle.mount_manifest.specs.Manifest.{manifest, Facts}
use Rattle.mount_manifest.specs.declared.error.ManifestError.{ManifestError}
use Rattle.mount_manifest.specs.declared.error.Field.TheVariants.{Bytes}
use Rattle.mount_manifest.specs.declared.error.ManifestError.TheVariants.{Limit}
use Rattle.blob_parts.specs.Content.{manifest_at, places}
use Rattle.blob_parts.specs.Tables.{blob_places}
use Rattle.blob_parts.specs.Loads.{asked, Loads, LoadTakes, Judges}
use Rattle.blob_parts.specs.Takes.{Took}
use Rattle.blob_parts.specs.declared.loading.LoadError.{LoadError}
use Rattle.blob_parts.specs.declared.loading.LoadError.TheVariants.{Missing, Manifest, Fault, NoMemory}
use Rattle.blob_parts.proofs.Named.{text_same}

pub asked_whole : (name : List ℕ) (blobs : Listing) (b : ℕ) → place_of name blobs ≡ Some b → blob_size blobs b ≤ 16777216 → asked blobs name ≡ blob_places blobs b
asked_whole name blobs b place short =
    let test : nat_lt 16777216 (blob_size blobs b) ≡ false = grind (arith, nat_tests) in
    rw (place, test) refl

pub asked_none : (name : List ℕ) (blobs : Listing) (b : ℕ) → place_of name blobs ≡ Some b → 16777216 < blob_size blobs b → asked blobs name ≡ []
asked_none name blobs b place long =
    let test : nat_lt 16777216 (blob_size blobs b) ≡ true = grind (arith, nat_tests) in
    rw (place, test) refl

pub text_judged : (name : List ℕ) (blobs : Listing) (m b : ℕ) → manifest_number name blobs ≡ Some m → place_of name blobs ≡ Some b
    → manifest_at blobs m ≡ manifest (blob_bytes blobs b)
text_judged name blobs m b number place = ap manifest (text_same name blobs m b number place)

pub too_long : (text : List ℕ) → 16777216 < length text → manifest text ≡ Err (Limit Bytes (length text))
too_long text long =
    let test : nat_lt 16777216 (length text) ≡ true = grind (arith, nat_tests) in
    rw test refl

pub long_refused : (name : List ℕ) (blobs : Listing) (m b size : ℕ) → manifest_number name blobs ≡ Some m → place_of name blobs ≡ Some b
    → size ≡ blob_size blobs b → 16777216 < size → manifest_at blobs m ≡ Err (Limit Bytes size)
long_refused name blobs m b size number place is long =
    let more : 16777216 < blob_size blobs b = omega (arith, is, long) in
    text_judged name blobs m b number place ∙ too_long (blob_bytes blobs b) more ∙ ap (λ n. Err (Limit Bytes n)) (sym is)

-- what judging the text gives is what loading gives
pub judged : (name : List ℕ) (blobs : Listing) (m b : ℕ) (text : List ℕ) (result : Result (ℕ × Facts) LoadError)
    → manifest_number name blobs ≡ Some m → place_of name blobs ≡ Some b → text ≡ blob_bytes blobs b
    → Judges m result (manifest text) → Loads blobs name result
judged name blobs m b text (Ok loaded) number place same h =
    (number ∙ ap Some (sym h.0), ap (λ n. manifest_at blobs n) h.0 ∙ text_judged name blobs m b number place ∙ ap manifest (sym same) ∙ h.1)
judged name blobs m b text (Err Missing) number place same h = absurd h
judged name blobs m b text (Err (Manifest e)) number place same h =
    (m, number, text_judged name blobs m b number place ∙ ap manifest (sym same) ∙ h)
judged name blobs m b text (Err Fault) number place same h = absurd h
judged name blobs m b text (Err NoMemory) number place same h = tt

pub judged_takes : (t u : Option (List (ℕ × ℕ × ℕ))) (places : List (ℕ × ℕ)) (m : ℕ) (result : Result (ℕ × Facts) LoadError) (expected : Result Facts ManifestError)
    → Took t u places → Judges m result expected → LoadTakes t u places result
judged_takes t u places m (Ok loaded) expected took h = took
judged_takes t u places m (Err Missing) expected took h = absurd h
judged_takes t u places m (Err (Manifest e)) expected took h = took
judged_takes t u places m (Err Fault) expected took h = absurd h
judged_takes t u places m (Err NoMemory) expected took h = (length places, rw (take-length places) took)

-- all bytes of the blob are all that was asked
pub took_asked : (t u v : Option (List (ℕ × ℕ × ℕ))) (name : List ℕ) (blobs : Listing) (b size : ℕ)
    → u ≡ t → place_of name blobs ≡ Some b → size ≡ blob_size blobs b → size ≤ 16777216
    → Took u v (places b 0 size) → Took t v (asked blobs name)
took_asked t u v name blobs b size same place is short took =
    let fits : blob_size blobs b ≤ 16777216 = omega (arith, is, short) in
    rw (asked_whole name blobs b place fits, sym is, sym same) took
