use Rattle.std.proofs.Common.{◌≡◌, ◌-◌, None, List}
use Rattle.directory_input.specs.Causes.{HasBytesCause}
use Rattle.std.specs.Prelude.{IsTrue}
use Rattle.directory_input.specs.Windows.{moved_to, window_bytes}
use Rattle.text_lines.specs.Lines.{cut}
use Rattle.text_lines.specs.Readers.{FitsBytes, ReadsPieces, rest}
use Rattle.simpletext_postings.specs.Openings.{IsOpeningOf, IsKept, IsNamed}
use Rattle.simpletext_postings.specs.Forms.{Form}
use Rattle.simpletext_postings.proofs.SoFar.{IsSoFar}
use Rattle.simpletext_postings.proofs.lines.read_lines.Given as goal

abbrev pub invariant-loop-content : goal.invariant-loop-content
invariant-loop-content g l =
    record {
      pieces : ReadsPieces g.B.FileBytes.goes_by l.fn.reader.input l.fn.bytes l.bytes;
      cause : HasBytesCause (g.B.FileBytes.view l.fn.bytes) (g.B.FileBytes.view l.bytes) None;
      fits : FitsBytes (g.B.FileBytes.view l.bytes) l.reader;
      input : l.reader.input ≡ moved_to l.reader.input.position l.fn.reader.input;
      docs : l.opening.docs ≡ l.fn.opening.docs;
      named : IsNamed l.opening;
      lines : (past : List Form) × IsOpeningOf past l.opening × IsKept past l.reader.input.position l.opening
          × (IsTrue (g.B.FileBytes.view l.fn.bytes).tells → IsSoFar l.fn.opening.docs (window_bytes (g.B.FileBytes.view l.fn.bytes).bytes l.fn.reader.input) past l.reader.input.position (cut (rest (g.B.FileBytes.view l.fn.bytes).bytes l.reader.input)) l.opening);
    }

abbrev pub decreases-loop-content : goal.decreases-loop-content
decreases-loop-content g l = l.reader.input.size - l.reader.input.position
