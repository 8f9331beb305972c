use Rattle.text_lines.proofs.Ahead.{new_fits}
use Rattle.text_lines.proofs.reader.LineReader.new.Goals as goal

pub returns-clause-fits : goal.returns-clause-fits
returns-clause-fits c = λ files h. new_fits files c.args.input c.pos-place.result c.pos-place.ensures.inside h
