-- What a call takes from a source, as places of single bytes.
use Rattle.std.specs.Prelude.{ℕ, ◌≡◌, ◌≤◌, List, ◌++◌, take, Option, Some, None, Result, Ok, Err}
use Rattle.byte_text.specs.Counts.{Rose}
use Rattle.cache_outside.specs.Sources.{SourceView}
use Rattle.blob_parts.specs.Content.{spread}

-- where a source tells what was taken: the earlier list stands, and behind it reads of just these places, in order
abbrev pub Took : Option (List (ℕ × ℕ × ℕ)) → Option (List (ℕ × ℕ × ℕ)) → List (ℕ × ℕ) → Type 0
Took None after asked = after ≡ None
Took (Some before) after asked = (reads : List (ℕ × ℕ × ℕ)) × (after ≡ Some (before ++ reads)) × (spread reads ≡ asked)

-- a call that asks for these places took them all where it answers Ok, and some first ones where it is refused
abbrev pub Takes : {T E : Type 0} → Option (List (ℕ × ℕ × ℕ)) → Option (List (ℕ × ℕ × ℕ)) → List (ℕ × ℕ) → Result T E → Type 0
Takes before after asked (Ok x) = Took before after asked
Takes before after asked (Err e) = (n : ℕ) × Took before after (take n asked)

-- what a call leaves of a source: the same one, and a count of faults that never falls and that rose where the call answers
-- a fault
pub record SourceLater (before now : SourceView) (fault : Type 0) : Type 0 where
  pub identity : now.identity ≡ before.identity
  pub later : before.faults ≤ now.faults
  pub failed : fault → Rose before.faults now.faults
