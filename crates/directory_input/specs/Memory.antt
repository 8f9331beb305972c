-- Files in memory, some reads of which are to fail.
use Rattle.std.specs.Prelude.{ℕ, ◌≡◌, ◌<◌, ◌≤◌, ◌+◌, ◌-◌, ◌^◌, ◌==◌, nat_lt, Bool, true, false, List, [], ◌∷◌, length, get_or, if◌then◌else◌}
use Rattle.std.specs.List.{list_any}
use Rattle.directory_input.specs.Reads.{Read}
use Rattle.directory_input.specs.Files.{FilesView}

-- the files, the numbers of the reads that are to fail (from 1), how many reads there were, and how many failed
pub record MemFiles : Type 0 where
  pub files : List (List ℕ)
  pub failing : List ℕ
  pub reads : ℕ
  pub faults : ℕ

-- one more; a count stops at its last value
abbrev pub counted : ℕ → ℕ
counted n = if nat_lt n (2 ^ 64 - 1) then n + 1 else n

abbrev pub is_listed : ℕ → List ℕ → Bool
is_listed n ns = list_any (λ k. k == n) ns

abbrev pub file_bytes : List (List ℕ) → ℕ → List ℕ
file_bytes files f = get_or files f []

-- their bytes are told; they are never gone, and a read of them takes no memory
abbrev pub files_of : MemFiles → FilesView
files_of m = record {
  count = length m.files;
  lengths = λ f. length (file_bytes m.files f);
  tells = true;
  bytes = λ f. file_bytes m.files f;
  mount = 0;
  faults = m.faults;
  gone = false;
  out_of_memory = false;
}

-- the state after one read more
abbrev pub read_once : MemFiles → MemFiles
read_once m = record {
  files = m.files;
  failing = m.failing;
  reads = counted m.reads;
  faults = if is_listed (counted m.reads) m.failing then counted m.faults else m.faults;
}

-- the state after these reads
abbrev pub after_reads : List Read → MemFiles → MemFiles
after_reads [] m = m
after_reads (r ∷ rs) m = after_reads rs (read_once m)

-- each of these reads lies in its file
abbrev pub AreInFiles : List (List ℕ) → List Read → Type 0
AreInFiles files [] = Unit {0}
AreInFiles files (r ∷ rs) = (r.file < length files) × (r.at + r.size ≤ length (file_bytes files r.file)) × AreInFiles files rs

-- the later state comes from the earlier one by these reads
pub record GoesBy (reads : List Read) (before now : MemFiles) : Type 0 where
  pub allowed : AreInFiles before.files reads
  pub after : now ≡ after_reads reads before
