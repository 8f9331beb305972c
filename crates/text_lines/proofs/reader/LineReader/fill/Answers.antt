use Rattle.std.proofs.Common.{◌≡◌, ◌+◌, ◌≤◌, arith, sym, ap, length}
use Rattle.std.proofs.lemmas.List.{with_items_is}
use Rattle.text_lines.proofs.Ahead.{nothing_held, filled_fits}
use Rattle.text_lines.proofs.reader.LineReader.fill.Goals as goal

pub returns-in-Ok-clause-fits : goal.returns-in-Ok-clause-fits
returns-in-Ok-clause-fits g c =
    let i = c.self.inside in
    let inv = c.self.invariant in
    let B = g.B.FileBytes in
    let read = c.in-Ok.ensures in
    let before = c.args.bytes.now in
    let now = c.read_piece.new.bytes in
    let none = rw (sym c.self.view_is) at c.requires.none in
    let same = nothing_held i.from i.till i.buffer.items inv.order inv.held none in
    let at : i.input.position ≡ i.place = omega (arith, inv.stands, same) in
    let within : i.place + c.in-Ok.count ≤ i.input.size = omega (arith, read.count, inv.ends, at) in
    let len : length c.read_piece.new.buffer ≡ i.buffer.len = omega (arith, read.len, c.as_mut_slice.ensures.len, ap length c.as_mut_slice.ensures.value, i.buffer.ok.0) in
    filled_fits (B.view before) (B.view now) i.input c.read_piece.new.input i.place c.in-Ok.count c.read_piece.new.buffer _ (with_items_is i.buffer c.read_piece.new.buffer len)
    read.cause.files read.moved at read.inside within read.fits read.bytes
