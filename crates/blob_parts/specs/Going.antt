-- What reads of a table's files take from its source, when they are made without a cache.
use Rattle.std.specs.Prelude.{ℕ, ◌≡◌, ◌<◌, ◌≤◌, ◌+◌, Bool, false, IsTrue, List, [], ◌∷◌, ◌++◌, length, map, take}
use Rattle.std.specs.List.{flat_map}
use Rattle.byte_text.specs.Counts.{Rose}
use Rattle.cache_outside.specs.Listing.{Listing}
use Rattle.cache_outside.specs.Sources.{SourceView}
use Rattle.directory_input.specs.Files.{FilesView}
use Rattle.directory_input.specs.Reads.{Read}
use Rattle.blob_parts.specs.Content.{content, content_places, slice_of}
use Rattle.blob_parts.specs.Tables.{TableParts, file_length}
use Rattle.blob_parts.specs.Takes.{Took}

-- each of these reads lies in a file of the table
abbrev pub AreInTable : TableParts → List Read → Type 0
AreInTable table [] = Unit {0}
AreInTable table (r ∷ rs) = (r.file < length table.files) × (r.at + r.size ≤ file_length table r.file) × AreInTable table rs

-- the places of all bytes of a read
abbrev pub read_places : Listing → ℕ → Read → List (ℕ × ℕ)
read_places blobs number r = slice_of (content_places blobs number r.file) r.at r.size

-- of each list some first items, one behind the other
abbrev pub AreFronts : {X : Type 0} → List (List X) → List X → Type 0
AreFronts [] items = items ≡ []
AreFronts (xs ∷ rest) items = (n : ℕ) × (more : _) × (items ≡ take n xs ++ more) × AreFronts rest more

-- what reads took, where the source tells it: of each read in order the places of all its bytes, or of some first ones
-- where it was refused. So where the count of faults did not rise and no memory was wanted, they took just what they
-- asked
pub record TakesReads (asked : Read → List (ℕ × ℕ)) (reads : List Read) (out_of_memory : Bool) (before now : SourceView) : Type 0 where
  pub places : List (ℕ × ℕ)
  pub took : Took before.reads now.reads places
  pub fronts : AreFronts (map asked reads) places
  pub whole : out_of_memory ≡ false → (Rose before.faults now.faults → ⊥) → places ≡ flat_map asked reads

-- from an earlier to a later state of the source by these reads, with the marks on memory before and behind them
pub record ReadsOn (tells : Bool) (blobs : Listing) (table : TableParts) (reads : List Read) (marked_before marked_now : Bool) (before now : SourceView) : Type 0 where
  pub allowed : AreInTable table reads
  pub identity : now.identity ≡ before.identity
  pub later : before.faults ≤ now.faults
  pub marked : IsTrue marked_before → IsTrue marked_now
  pub places : IsTrue tells → TakesReads (read_places blobs table.number) reads marked_now before now

-- what clauses see of a table's files over a source, with a mark on memory
abbrev pub files_view : Bool → Listing → TableParts → SourceView → Bool → FilesView
files_view tells blobs table source out_of_memory = record {
  count = length table.files;
  lengths = file_length table;
  tells = tells;
  bytes = content blobs table.number;
  mount = 0;
  faults = source.faults;
  gone = false;
  out_of_memory = out_of_memory;
}
