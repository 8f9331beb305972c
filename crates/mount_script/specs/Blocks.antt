-- The blocks of a script.
use Rattle.std.specs.Prelude.{List, [], ◌∷◌, ◌++◌, Bool, true, false, if◌then◌else◌}
use Rattle.mount_script.specs.declared.command.Command.{Command}
use Rattle.mount_script.specs.declared.command.Command.TheVariants.{Mount, Stats}
use Rattle.mount_script.specs.declared.command.Line.{Line}

-- a line that is a block of its own
abbrev pub stands_alone : Command → Bool
stands_alone (Mount name manifest) = true
stands_alone Stats = true
stands_alone _ = false

-- what is left of a script without its empty lines
pub data Entry : Type 0 where
  divider : Entry
  one : Line → Entry

-- a block in front of the others, where it has lines
abbrev pub put_block : List Line → List (List Line) → List (List Line)
put_block [] blocks = blocks
put_block (l ∷ ls) blocks = (l ∷ ls) ∷ blocks

-- the blocks, where the lines `begun` stand before these entries and their block has not ended
abbrev pub blocks : List Line → List Entry → List (List Line)
blocks begun [] = put_block begun []
blocks begun (divider ∷ es) = put_block begun (blocks [] es)
blocks begun (one l ∷ es) = if stands_alone l.command then put_block begun ((l ∷ []) ∷ blocks [] es) else blocks (begun ++ l ∷ []) es
