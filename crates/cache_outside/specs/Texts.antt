-- What clauses see of a source of text, and what a read leaves of it.
use Rattle.std.specs.Prelude.{ℕ, ◌≡◌, ◌≤◌, Option, option_map, List, [], length, take, drop, Result, Ok, Err, IsErrOf}
use Rattle.byte_text.specs.Counts.{Rose}
use Rattle.cache_outside.specs.declared.fault.OutError.{OutError}
use Rattle.cache_outside.specs.declared.fault.OutError.TheVariants.{Failed}

pub record TextView : Type 0 where
  pub faults : ℕ  -- how often it has failed
  pub left : Option (List ℕ)  -- the bytes that are left, where it tells

-- what a read gives of the bytes that are left: the first ones, and none exactly where none is left
pub record IsFront (left out : List ℕ) (count : ℕ) : Type 0 where
  pub most : count ≤ length left
  pub bytes : take count out ≡ take count left
  pub end : count ≡ 0 → left ≡ []

-- an Ok takes that many first bytes off, and a refusal leaves them
abbrev pub left_after : {E : Type 0} → Option (List ℕ) → Result ℕ E → Option (List ℕ)
left_after left (Ok n) = option_map (drop n) left
left_after left (Err e) = left

-- what a read leaves of a source of text: these bytes, and a count of faults that never falls; `Failed` comes only where
-- it rose
pub record TextAfter {T : Type 0} (before now : TextView) (after : Option (List ℕ)) (result : Result T OutError) : Type 0 where
  pub left : now.left ≡ after
  pub later : before.faults ≤ now.faults
  pub failed : IsErrOf result Failed → Rose before.faults now.faults
