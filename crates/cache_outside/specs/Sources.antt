-- What clauses see of a source of blobs, and what a call leaves of it.
use Rattle.std.specs.Prelude.{ℕ, zero, suc, ◌≡◌, ◌≤◌, ◌<◌, List, ◌++◌, ◌∷◌, [], Option, Some, None, Result, Ok, Err, IsErrOf}
use Rattle.byte_text.specs.Counts.{Rose}
use Rattle.cache_outside.specs.declared.fault.OutError.{OutError}
use Rattle.cache_outside.specs.declared.fault.OutError.TheVariants.{Failed}

pub record SourceView : Type 0 where
  pub identity : ℕ  -- which source it is
  pub faults : ℕ  -- how often it has failed
  pub reads : Option (List (ℕ × ℕ × ℕ))  -- the reads that gave a byte, in order, where it tells: blob, place, count

-- what a call leaves of a source: the same one, with these reads, and a count of faults that never falls; `Failed` comes
-- only where the count rose
pub record SourceAfter {T : Type 0} (before now : SourceView) (after : Option (List (ℕ × ℕ × ℕ))) (result : Result T OutError) : Type 0 where
  pub identity : now.identity ≡ before.identity
  pub reads : now.reads ≡ after
  pub later : before.faults ≤ now.faults
  pub failed : IsErrOf result Failed → Rose before.faults now.faults

-- what a read adds to the reads that gave a byte: (blob, place, count) where it gave one, else nothing
abbrev pub reads_after : {E : Type 0} → Option (List (ℕ × ℕ × ℕ)) → ℕ → ℕ → Result ℕ E → Option (List (ℕ × ℕ × ℕ))
reads_after None blob at result = None
reads_after (Some reads) blob at (Ok zero) = Some reads
reads_after (Some reads) blob at (Ok (suc n)) = Some (reads ++ (blob, at, suc n) ∷ [])
reads_after (Some reads) blob at (Err e) = Some reads

-- how many bytes of a piece a call gave or took: at most its length, and at least 1 of a piece that is not empty
pub record IsCountOf (length count : ℕ) : Type 0 where
  pub most : count ≤ length
  pub least : 0 < length → 0 < count
