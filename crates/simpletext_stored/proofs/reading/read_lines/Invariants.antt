use Rattle.std.proofs.Common.{◌≡◌, ◌-◌, None}
use Rattle.directory_input.specs.Causes.{HasBytesCause}
use Rattle.directory_input.specs.Windows.{moved_to, window_bytes}
use Rattle.text_lines.specs.Readers.{FitsBytes, ReadsPieces}
use Rattle.simpletext_stored.proofs.Loop.{SoFar}
use Rattle.simpletext_stored.proofs.reading.read_lines.Given as goal

abbrev pub invariant-lines : goal.invariant-lines
invariant-lines g l = record {
  pieces : ReadsPieces g.B.FileBytes.goes_by l.fn.input l.fn.bytes l.bytes;
  cause : HasBytesCause (g.B.FileBytes.view l.fn.bytes) (g.B.FileBytes.view l.bytes) None;
  fits : FitsBytes (g.B.FileBytes.view l.bytes) l.reader;
  input : l.reader.input ≡ moved_to l.reader.input.position l.fn.input;
  state : SoFar g.T.LineTable.form (g.T.LineTable.allows l.number) g.T.LineTable.ends (g.T.LineTable.holds l.number)
      (g.B.FileBytes.view l.fn.bytes).tells (window_bytes (g.B.FileBytes.view l.fn.bytes).bytes l.fn.input) l.reader.input.position l.table;
}

abbrev pub decreases-lines : goal.decreases-lines
decreases-lines g l = l.reader.input.size - l.reader.input.position
