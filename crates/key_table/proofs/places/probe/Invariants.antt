use Rattle.std.proofs.Common.{◌<◌, length}
use Rattle.key_table.specs.Slots.{first_place}
use Rattle.key_table.proofs.Walks.{ArePassed, IsNth}
use Rattle.key_table.proofs.places.probe.Given as goal

abbrev pub invariant-loop-passed : goal.invariant-loop-passed
invariant-loop-passed l = (l.place < length l.slots) × ArePassed l.key (first_place l.key (length l.slots)) l.slots l._passed × IsNth (length l.slots) (first_place l.key (length l.slots)) l.place l._passed
