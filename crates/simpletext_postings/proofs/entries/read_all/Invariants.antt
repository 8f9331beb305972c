use Rattle.std.proofs.Common.{◌≡◌, ◌-◌, None}
use Rattle.directory_input.specs.Causes.{HasBytesCause}
use Rattle.std.specs.Prelude.{IsTrue}
use Rattle.directory_input.specs.Windows.{moved_to, window_bytes}
use Rattle.text_lines.specs.Lines.{cut}
use Rattle.text_lines.specs.Readers.{FitsBytes, ReadsPieces, rest}
use Rattle.simpletext_postings.specs.Entries.{IsEntryText, Rises, collected, line_forms}
use Rattle.simpletext_postings.proofs.entries.read_all.Given as goal

abbrev pub invariant-loop-content : goal.invariant-loop-content
invariant-loop-content g l =
    record {
      pieces : ReadsPieces g.B.FileBytes.goes_by l.fn.reader.input l.fn.bytes l.bytes;
      cause : HasBytesCause (g.B.FileBytes.view l.fn.bytes) (g.B.FileBytes.view l.bytes) None;
      fits : FitsBytes (g.B.FileBytes.view l.bytes) l.reader;
      input : l.reader.input ≡ moved_to l.reader.input.position l.fn.reader.input;
      docs : l.collecting.docs ≡ l.fn.collecting.docs;
      rises : Rises l.collecting;
      documents : IsTrue (g.B.FileBytes.view l.fn.bytes).tells →
          (collected l.collecting (line_forms (cut (rest (g.B.FileBytes.view l.fn.bytes).bytes l.reader.input)).lines)
          ≡ collected l.fn.collecting (line_forms (cut (window_bytes (g.B.FileBytes.view l.fn.bytes).bytes l.fn.reader.input)).lines))
          × (IsEntryText l.fn.collecting.docs 0 (cut (window_bytes (g.B.FileBytes.view l.fn.bytes).bytes l.fn.reader.input))
          → IsEntryText l.collecting.docs l.collecting.least (cut (rest (g.B.FileBytes.view l.fn.bytes).bytes l.reader.input)));
    }

abbrev pub decreases-loop-content : goal.decreases-loop-content
decreases-loop-content g l = l.reader.input.size - l.reader.input.position
