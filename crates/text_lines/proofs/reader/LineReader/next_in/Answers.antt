use Rattle.std.proofs.Common.{◌≤◌, ap, arith}
use Rattle.directory_input.specs.Windows.{Window}
use Rattle.text_lines.proofs.Ahead.{back_fits}
use Rattle.text_lines.proofs.reader.LineReader.next_in.Goals as goal

pub returns-in-Err-clause-fits : goal.returns-in-Err-clause-fits
returns-in-Err-clause-fits g c =
    let now = c.read_line.new.bytes in
    let le : c.pos-at.result ≤ c.read_line.new.self.input.size = omega (arith, c.pos-at.ensures, c.requires.inside, ap (λ (w : Window). w.size) c.in-Err.ensures.input) in
    rw c.back.ensures (back_fits (g.B.FileBytes.view now) c.read_line.new.self c.pos-at.result le c.in-Err.ensures.fits)
