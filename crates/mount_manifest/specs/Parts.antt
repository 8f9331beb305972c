-- The parts of a file: the blobs that hold its bytes, joined in order.
use Rattle.std.specs.Prelude.{ℕ, ◌-◌, ◌*◌, ◌==◌, min, max, List, ◌++◌, codes, if◌then◌else◌}
use Rattle.std.specs.Int.{div_ceil}
use Rattle.std.specs.Fmt.{decimal}
use Rattle.mount_manifest.specs.declared.record.FileRecord.{FileRecord}

-- the length divided by the part size, rounded up, and at least 1
abbrev pub part_count : ℕ → ℕ → ℕ
part_count len size = max 1 (div_ceil len size)

-- part k begins at `k * size` and has the part size, or what is left of the file
abbrev pub part_length : ℕ → ℕ → ℕ → ℕ
part_length len size k = min size (len - k * size)

abbrev pub parts_of : FileRecord → ℕ
parts_of f = part_count f.length f.part_size

-- the blob of part k: the name itself where there is one part, else the name with `.part` and k in decimal
abbrev pub part_name : FileRecord → ℕ → List ℕ
part_name f k = if parts_of f == 1 then f.name else f.name ++ (codes ".part" ++ decimal k)
