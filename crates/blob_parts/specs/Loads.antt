-- What loading a manifest by its name gives, and what it takes from the source.
use Rattle.std.specs.Prelude.{ℕ, ◌≡◌, List, [], take, Option, Some, None, Result, Ok, Err, nat_lt, if◌then◌else◌}
use Rattle.cache_outside.specs.Listing.{Listing, manifest_number, blob_size}
use Rattle.mount_manifest.specs.Manifest.{Facts}
use Rattle.mount_manifest.specs.declared.error.ManifestError.{ManifestError}
use Rattle.blob_parts.specs.Content.{manifest_at, blob_named}
use Rattle.blob_parts.specs.Tables.{blob_places}
use Rattle.blob_parts.specs.Takes.{Took}
use Rattle.blob_parts.specs.declared.loading.LoadError.{LoadError}
use Rattle.blob_parts.specs.declared.loading.LoadError.TheVariants.{Missing, Manifest, Fault, NoMemory}

-- when each refusal comes: `Missing` where the archive has no such manifest, `Manifest` where its text is refused
abbrev pub Refusal : Listing → List ℕ → LoadError → Type 0
Refusal blobs name Missing = manifest_number name blobs ≡ None
Refusal blobs name (Manifest e) = (m : ℕ) × (manifest_number name blobs ≡ Some m) × (manifest_at blobs m ≡ Err e)
Refusal blobs name Fault = Unit {0}
Refusal blobs name NoMemory = Unit {0}

-- the number of the manifest with this name and what its text says, or the refusal
abbrev pub Loads : Listing → List ℕ → Result (ℕ × Facts) LoadError → Type 0
Loads blobs name (Ok loaded) = (manifest_number name blobs ≡ Some loaded.0) × (manifest_at blobs loaded.0 ≡ Ok loaded.1)
Loads blobs name (Err e) = Refusal blobs name e

-- the most bytes that the text of a manifest may have
abbrev pub longest : ℕ
longest = 16777216

-- all bytes of the blob with this name are asked, and none of one that is too long
abbrev pub asked : Listing → List ℕ → List (ℕ × ℕ)
asked blobs name = if nat_lt longest (blob_size blobs (blob_named blobs name)) then [] else blob_places blobs (blob_named blobs name)

-- after a refusal of the text all that was asked is taken, after one of the source some first bytes of it
abbrev pub RefusedTakes : Option (List (ℕ × ℕ × ℕ)) → Option (List (ℕ × ℕ × ℕ)) → List (ℕ × ℕ) → LoadError → Type 0
RefusedTakes before after places Missing = after ≡ before
RefusedTakes before after places (Manifest e) = Took before after places
RefusedTakes before after places Fault = (n : ℕ) × Took before after (take n places)
RefusedTakes before after places NoMemory = (n : ℕ) × Took before after (take n places)

abbrev pub LoadTakes : {T : Type 0} → Option (List (ℕ × ℕ × ℕ)) → Option (List (ℕ × ℕ × ℕ)) → List (ℕ × ℕ) → Result T LoadError → Type 0
LoadTakes before after places (Ok loaded) = Took before after places
LoadTakes before after places (Err e) = RefusedTakes before after places e

-- a text is judged by what a manifest text says, want of memory aside; its manifest comes under number m
abbrev pub Judges : ℕ → Result (ℕ × Facts) LoadError → Result Facts ManifestError → Type 0
Judges m (Ok loaded) expected = (loaded.0 ≡ m) × (expected ≡ Ok loaded.1)
Judges m (Err (Manifest e)) expected = expected ≡ Err e
Judges m (Err NoMemory) expected = Unit {0}
Judges m (Err Missing) expected = ⊥
Judges m (Err Fault) expected = ⊥
