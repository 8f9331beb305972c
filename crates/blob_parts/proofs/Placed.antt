-- A byte of a file is where its table says.
use Rattle.std.proofs.Common.{◌≡◌, ℕ, suc, ◌+◌, ◌-◌, ◌*◌, ◌/◌, ◌<◌, ◌≤◌, List, Some, get_or, length, map, refl, sym, ◌∙◌, arith}
use Rattle.std.specs.Prelude.{slice_get}
use Rattle.std.specs.List.{flat_map}
use Rattle.std.specs.Int.{div_ceil}
use Rattle.std.proofs.lemmas.Option.{slice_get-map, slice_get_read}
use Rattle.std.proofs.lemmas.Grind.{div_ceil_times}
use Rattle.std.proofs.lemmas.List.FromFn.{length-map-range_with_len}
use Rattle.std.proofs.Math.Nat.{suc-mul, zero-mul, mul_comm, mul-le-mul_right, div-mul-le_self, lt_of_mul-lt-mul_left}
use Rattle.cache_outside.specs.Listing.{Listing, blob_bytes, blob_size}
use Rattle.mount_manifest.specs.Parts.{part_count, part_length}
use Rattle.blob_parts.specs.Content.{content, slice_of}
use Rattle.blob_parts.specs.Tables.{FileParts, IsCut, IsFound, IsPlaced, blob_places}
use Rattle.blob_parts.proofs.Joined.{flat_map_joined, joined_part, joined_length}
use Rattle.blob_parts.proofs.Taken.{places_slice}

-- what reading an index of a list gave, seen by f
pub read_mapped : {X Y : Type 0} (f : X → Y) (xs : List X) (i : ℕ) (x : X) → i < length xs → x ≡ get_or xs i x → slice_get (map f xs) i ≡ Some (f x)
read_mapped f xs i x h e = rw (slice_get-map f xs i, slice_get_read xs (length xs) i x refl h e)

-- the part of a byte is one of the file's
pub part_below : (len size at : ℕ) → 0 < size → at < len → at / size < part_count len size
part_below len size at some inside =
    let count : ℕ = div_ceil len size in
    let whole = (div_ceil_times len size some).0 in
    let own = div-mul-le_self at size in
    let below : size * (at / size) < size * count = omega (arith, whole, own, inside, mul_comm size (at / size), mul_comm size count) in
    let less = lt_of_mul-lt-mul_left size below in
    omega (arith, less)

-- a part before one that has a byte is whole
whole_part : (len size j k : ℕ) → j < k → 0 < part_length len size k → part_length len size j ≡ size
whole_part len size j k below some =
    let next : suc j ≤ k = omega arith in
    omega (arith, mul-le-mul_right size next, suc-mul j size)

-- each blob has its part's size
abbrev pub AreSized : Listing → FileParts → Type 0
AreSized blobs file = (i b : ℕ) → slice_get file.blobs i ≡ Some b → (b < length blobs) × (blob_size blobs b ≡ part_length file.length file.part_size i)

-- what is joined from lists as long as the blobs, one a blob, has at a place of the file what the blob's list has there
part_same : {X : Type 0} (blobs : Listing) (file : FileParts) (k blob from n : ℕ) (list : ℕ → List X)
    → AreSized blobs file
    → ((b : ℕ) → length (list b) ≡ blob_size blobs b)
    → slice_get file.blobs k ≡ Some blob
    → from + n ≤ blob_size blobs blob
    → 0 < part_length file.length file.part_size k
    → slice_of (flat_map list file.blobs) (k * file.part_size + from) n ≡ slice_of (list blob) from n
part_same blobs file k blob from n list sizes same found fits some =
    joined_part list file.blobs file.part_size k blob from n found
    (λ j b below at. same b ∙ (sizes j b at).1 ∙ whole_part file.length file.part_size j k below some) (rw (same blob) fits)

length_places : (blobs : Listing) (b : ℕ) → length (blob_places blobs b) ≡ blob_size blobs b
length_places blobs b = length-map-range_with_len _ 0 (blob_size blobs b)

pub placed : (blobs : Listing) (number f : ℕ) (file : FileParts) (at k blob from room : ℕ)
    → IsFound blobs number f file
    → slice_get file.blobs k ≡ Some blob
    → k * file.part_size + from ≡ at
    → room ≡ part_length file.length file.part_size k - from
    → 0 < room
    → IsPlaced blobs number f at blob from room
placed blobs number f file at k blob from room found there place room_is some =
    let size = found.sizes k blob there in
    record {
      within = (size.0, omega arith);
      same = λ n most. rw (sym place, found.joined, sym (flat_map_joined (blob_bytes blobs) file.blobs))
          (part_same blobs file k blob from n (blob_bytes blobs) found.sizes (λ b. refl) there (omega arith) (omega arith));
      placed = λ n most. rw (sym place, found.placed)
          (part_same blobs file k blob from n (blob_places blobs) found.sizes (length_places blobs) there (omega arith) (omega arith)
          ∙ places_slice blob (blob_size blobs blob) from n (omega arith));
    }

-- a file has as many bytes as its table says
pub found_length : (blobs : Listing) (number f : ℕ) (file : FileParts) → IsCut file → IsFound blobs number f file → length (content blobs number f) ≡ file.length
found_length blobs number f file cut found =
    let sum = joined_length (blob_bytes blobs) file.blobs file.length file.part_size 0 (λ i b at. let e : 0 + i ≡ i = omega arith in rw e ((found.sizes i b at).1)) in
    let whole = (div_ceil_times file.length file.part_size cut.some_size).0 in
    let big : div_ceil file.length file.part_size ≤ part_count file.length file.part_size = omega arith in
    let more = mul-le-mul_right file.part_size big in
    rw found.joined (sum ∙ rw cut.count (omega (arith, whole, more, zero-mul file.part_size)))
