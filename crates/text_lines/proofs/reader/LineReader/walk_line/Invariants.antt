use Rattle.std.proofs.Common.{◌≡◌, ◌≤◌, ◌+◌, ◌-◌, None}
use Rattle.directory_input.specs.Causes.{HasBytesCause}
use Rattle.std.specs.Prelude.{IsTrue}
use Rattle.directory_input.specs.Windows.{moved_to}
use Rattle.text_lines.specs.Lines.{cut}
use Rattle.text_lines.specs.Walks.{front, cut_after}
use Rattle.text_lines.specs.Readers.{FitsBytes, ReadsPieces, rest}
use Rattle.text_lines.proofs.reader.LineReader.walk_line.Given as goal

abbrev pub invariant-loop-step : goal.invariant-loop-step
invariant-loop-step g l = record {
  pieces : ReadsPieces g.B.FileBytes.goes_by l.fn.self.input l.fn.bytes l.bytes;
  cause : HasBytesCause (g.B.FileBytes.view l.fn.bytes) (g.B.FileBytes.view l.bytes) None;
  fits : FitsBytes (g.B.FileBytes.view l.bytes) l.self;
  input : l.self.input ≡ moved_to (l.fn.self.input.position + l.size) l.fn.self.input;
  few : l.size ≤ 16777216;
  line : IsTrue (g.B.FileBytes.view l.fn.bytes).tells
      → cut (rest (g.B.FileBytes.view l.fn.bytes).bytes l.fn.self.input)
      ≡ front l.content l.size (cut_after l.slash (rest (g.B.FileBytes.view l.fn.bytes).bytes l.self.input));
}

abbrev pub decreases-loop-step : goal.decreases-loop-step
decreases-loop-step g l = l.self.input.size - l.self.input.position
