use Rattle.std.proofs.Common.{length}
use Rattle.blob_parts.specs.Content.{content}
use Rattle.cache_table.specs.Keys.{about_of}
use Rattle.cache_table.specs.Calls.{AreCells}
use Rattle.cache_table.proofs.open.slots_of.Given as goal

abbrev pub invariant-loop-frame : goal.invariant-loop-frame
invariant-loop-frame g l = AreCells g.A.Archive.tells (content g.A.Archive.blobs) (about_of g.F.Frame.view l.key) (length l.yielded) l.slots.items
