use Rattle.std.proofs.Common.{sym, ap, List, ℕ, ◌+◌}
use Rattle.directory_input.specs.Windows.{Window, moved_to}
use Rattle.text_lines.specs.Readers.{Reading}
use Rattle.text_lines.proofs.Ahead.{skipped, skip_fits}
use Rattle.text_lines.proofs.reader.LineReader.pass.Goals as goal

abbrev stands : Window → List ℕ → Reading
stands input ahead = record { input = input; ahead = ahead }

pub returns-clause-left : goal.returns-clause-left
returns-clause-left c =
    let r = c.self.inside in
    let le = rw (sym c.self.view_is) at c.requires in
    rw (sym c.self.view_is) (ap (stands (moved_to (r.place + c.args.count) r.input)) (skipped r.from r.till c.args.count r.buffer.items le))

pub returns-clause-fits : goal.returns-clause-fits
returns-clause-fits c = λ files h. rw (returns-clause-left c) (skip_fits files c.args.self.now c.args.count c.requires h)
