-- An archive: a list of names with their bytes, and its manifests.
use Rattle.std.specs.Prelude.{ℕ, zero, suc, ◌+◌, ◌≤◌, ◌<◌, ◌∷◌, [], ◌&&◌, List, Bool, true, not, Option, length, nat_eq, codes, filter}
use Rattle.std.specs.List.{starts_with, position_from, list_any}
use Rattle.std.specs.Str.{bytes_eq}

-- the blobs of an archive, each a name and its bytes; blob number k is the k-th from 0
abbrev pub Listing : Type 0
Listing = List (List ℕ × List ℕ)

abbrev pub is_named : List ℕ → List ℕ × List ℕ → Bool
is_named name blob = bytes_eq blob.0 name

-- no name stands twice
abbrev pub names_differ : Listing → Bool
names_differ [] = true
names_differ (b ∷ bs) = not (list_any (is_named b.0) bs) && names_differ bs

-- the number of the blob with this name, where there is one
abbrev pub place_of : List ℕ → Listing → Option ℕ
place_of name blobs = position_from (is_named name) 0 blobs

-- what the name of a manifest begins with
abbrev pub manifest_mark : List ℕ
manifest_mark = codes "mount-"

abbrev pub is_manifest_name : List ℕ → Bool
is_manifest_name name = starts_with nat_eq name manifest_mark

abbrev pub is_manifest : List ℕ × List ℕ → Bool
is_manifest blob = is_manifest_name blob.0

-- the manifests are numbered by themselves, from 0, in the order of the list
abbrev pub manifests : Listing → Listing
manifests blobs = filter is_manifest blobs

-- the number of the manifest with this name, where there is one
abbrev pub manifest_number : List ℕ → Listing → Option ℕ
manifest_number name blobs = position_from (is_named name) 0 (manifests blobs)

-- the bytes of blob number k, and none past the last blob
abbrev pub blob_bytes : Listing → ℕ → List ℕ
blob_bytes [] k = []
blob_bytes (b ∷ bs) zero = b.1
blob_bytes (b ∷ bs) (suc k) = blob_bytes bs k

abbrev pub blob_size : Listing → ℕ → ℕ
blob_size blobs k = length (blob_bytes blobs k)

-- a range of bytes that lies in a blob of the archive
pub record IsWithin (blobs : Listing) (blob at len : ℕ) : Type 0 where
  pub blob_below : blob < length blobs
  pub range : at + len ≤ blob_size blobs blob
