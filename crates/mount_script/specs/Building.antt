-- What the blocks so far and the lines to come make.
use Rattle.std.specs.Prelude.{ℕ, ◌+◌, List, ◌++◌, length, map, Vec}
use Rattle.std.specs.declared.alloc.Global.{Global}
use Rattle.mount_script.specs.Blocks.{Entry, blocks}
use Rattle.mount_script.specs.declared.command.Line.{Line}
use Rattle.mount_script.specs.declared.blocks.Building.{Building}

-- the lines of each block
abbrev pub blocks_in : Vec (Vec Line Global) Global → List (List Line)
blocks_in v = map (λ b. b.items) v.items

-- the blocks that have ended, and those of what was begun and is to come
abbrev pub built : Building → List Entry → List (List Line)
built b es = blocks_in b.ended ++ blocks b.begun.items es

-- at most how many blocks there are if no line follows
abbrev pub block_count : Building → ℕ
block_count b = length b.ended.items + length b.begun.items
