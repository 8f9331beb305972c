-- Where the parts of a manifest's files are.
use Rattle.std.specs.Prelude.{ℕ, ◌≡◌, ◌<◌, ◌≤◌, ◌+◌, List, Some, length, map, take, drop, slice_get, Bool, IsTrue}
use Rattle.std.specs.Option.{option_map_or}
use Rattle.std.specs.List.{concat, flat_map}
use Rattle.cache_outside.specs.Listing.{Listing, place_of, blob_bytes, blob_size}
use Rattle.mount_manifest.specs.declared.record.FileRecord.{FileRecord}
use Rattle.mount_manifest.specs.Parts.{part_count, part_length, part_name}
use Rattle.blob_parts.specs.Content.{content, content_places, places, part_blob, part_numbers, slice_of}

-- a file of a table: its length, its part size and the blobs of its parts
pub record FileParts : Type 0 where
  pub length : ℕ
  pub part_size : ℕ
  pub blobs : List ℕ

-- a table: the manifest's number, and its files
pub record TableParts : Type 0 where
  pub number : ℕ
  pub files : List FileParts

-- the numbers of a file fit together
pub record IsCut (file : FileParts) : Type 0 where
  pub some_size : 0 < file.part_size
  pub short : file.length ≤ 1099511623680
  pub count : length file.blobs ≡ part_count file.length file.part_size

-- the places of all bytes of a blob
abbrev pub blob_places : Listing → ℕ → List (ℕ × ℕ)
blob_places blobs blob = places blob 0 (blob_size blobs blob)

-- the blobs of a file are those of the archive, and joined they are its content, with the places of its bytes
pub record IsFound (blobs : Listing) (number f : ℕ) (file : FileParts) : Type 0 where
  pub joined : content blobs number f ≡ concat (map (blob_bytes blobs) file.blobs)
  pub placed : content_places blobs number f ≡ flat_map (blob_places blobs) file.blobs
  pub sizes : (k blob : ℕ) → slice_get file.blobs k ≡ Some blob → (blob < length blobs) × (blob_size blobs blob ≡ part_length file.length file.part_size k)

-- the numbers of a table are in their limits, its files are cut, and where the archive tells their blobs are found
pub record IsTable (tells : Bool) (blobs : Listing) (table : TableParts) : Type 0 where
  pub number : table.number < 65536
  pub few : length table.files ≤ 4096
  pub cut : (f : ℕ) (file : FileParts) → slice_get table.files f ≡ Some file → IsCut file
  pub found : IsTrue tells → (f : ℕ) (file : FileParts) → slice_get table.files f ≡ Some file → IsFound blobs table.number f file

-- the length of file f of a table
abbrev pub file_length : TableParts → ℕ → ℕ
file_length table f = option_map_or (λ file. file.length) (slice_get table.files f) 0

abbrev pub lengths_of : List FileParts → List ℕ
lengths_of files = map (λ file. file.length) files

-- the byte at a place of a file and those behind it, up to `room`, are those of a blob from `from` on
pub record IsPlaced (blobs : Listing) (number f at blob from room : ℕ) : Type 0 where
  pub within : (blob < length blobs) × (from + room ≤ blob_size blobs blob)
  pub same : (n : ℕ) → n ≤ room → slice_of (content blobs number f) at n ≡ take n (drop from (blob_bytes blobs blob))
  pub placed : (n : ℕ) → n ≤ room → slice_of (content_places blobs number f) at n ≡ places blob from n

-- these blobs have the names of a file's parts, in order
pub record AreNamed (blobs : Listing) (f : FileRecord) (found : List ℕ) : Type 0 where
  pub named : (k blob : ℕ) → slice_get found k ≡ Some blob → place_of (part_name f k) blobs ≡ Some blob
  pub whole : found ≡ map (part_blob blobs f) (part_numbers f)
