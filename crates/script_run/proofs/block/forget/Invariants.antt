use Rattle.std.proofs.Common.{◌≡◌, ℕ, List, take}
use Rattle.std.specs.Prelude.{None, if◌then◌else◌}
use Rattle.index_mounts.specs.Rosters.{mounted}
use Rattle.script_run.specs.Blocks.{forgets_any}
use Rattle.script_run.proofs.block.forget.Given as goal

abbrev pub invariant-loop-i : goal.invariant-loop-i
invariant-loop-i g l = record {
  mounts : (other : List ℕ) → mounted other l.roster ≡ (if forgets_any (take l.i l.block) (take l.i l.replies) other then None else mounted other l.fn.roster);
  made : l.roster.made ≡ l.fn.roster.made;
}
