-- A file that is cut into parts, each a blob.
use Rattle.std.specs.Prelude.{ℕ, ◌*◌, List, map, take, drop}
use Rattle.std.specs.List.{range_with_len}
use Rattle.mount_manifest.specs.declared.record.FileRecord.{FileRecord}
use Rattle.mount_manifest.specs.Parts.{parts_of, part_name, part_length}

-- the bytes of part k of a file with this text
abbrev pub part_bytes : FileRecord → List ℕ → ℕ → List ℕ
part_bytes f text k = take (part_length f.length f.part_size k) (drop (k * f.part_size) text)

-- the blob of part k
abbrev pub part_blob : FileRecord → List ℕ → ℕ → List ℕ × List ℕ
part_blob f text k = (part_name f k, part_bytes f text k)

-- the blobs of the first n parts, in order
abbrev pub first_blobs : FileRecord → List ℕ → ℕ → List (List ℕ × List ℕ)
first_blobs f text n = map (part_blob f text) (range_with_len 0 n)

-- the blobs of all parts
abbrev pub part_blobs : FileRecord → List ℕ → List (List ℕ × List ℕ)
part_blobs f text = first_blobs f text (parts_of f)
