use Rattle.std.proofs.Common.{◌∙◌, ap, sym, Err}
use Rattle.std.specs.Prelude.{IsTrue}
use Rattle.directory_input.specs.Windows.{Window, moved_to}
use Rattle.text_lines.specs.Readers.{Reading}
use Rattle.text_lines.proofs.Ahead.{pieces_on, no_pieces}
use Rattle.directory_input.proofs.Later.{cause_join, no_cause}
use Rattle.simpletext_stored.proofs.Loop.{line_is, none_is, refuses_is, input_on, place_of_line, place_of_end, refusal_is, none_so_far, line_taken, line_refused, no_line, all_held, not_all_held}
use Rattle.simpletext_stored.proofs.reading.read_lines.Goals as goal

pub lines-init : goal.lines-init
lines-init g c =
    let e = ap (λ (r : Reading). r.input) c.in_ok-reader.ensures.stands in
    record {
      pieces = no_pieces _ _ _ (g.met.B.FileBytes.by_none _);
      cause = no_cause _;
      fits = c.in_ok-reader.ensures.fits _ c.requires.fits;
      input = e ∙ ap (λ (w : Window). moved_to w.position c.args.input) (sym e);
      state = none_so_far _ _ _ _ _ _ _ _ c.requires.empty (ap (λ (w : Window). w.position) e ∙ c.requires.start);
    }

pub take_line-requires : goal.take_line-requires
take_line-requires g c =
    let i = c.lines.invariant in
    let place = place_of_line c.in-Ok-true.field-0 c.next_in.new.line _ _ _ c.in-Ok-true.field-0-test c.in-Ok-true.ensures.places in
    (i.state.past, i.state.kept, rw place.0 i.state.held)

pub returns-in-Err-clause-pieces : goal.returns-in-Err-clause-pieces
returns-in-Err-clause-pieces g c =
    pieces_on _ g.met.B.FileBytes.by_more c.lines.invariant.input c.lines.invariant.pieces c.in-Err.ensures.pieces

pub returns-in_err-take_line-clause-pieces : goal.returns-in_err-take_line-clause-pieces
returns-in_err-take_line-clause-pieces g c =
    pieces_on _ g.met.B.FileBytes.by_more c.lines.invariant.input c.lines.invariant.pieces c.in-Ok-true.ensures.pieces

pub returns-then-not-branch-clause-pieces : goal.returns-then-not-branch-clause-pieces
returns-then-not-branch-clause-pieces g c =
    pieces_on _ g.met.B.FileBytes.by_more c.lines.invariant.input c.lines.invariant.pieces c.in-Ok-true.ensures.pieces

pub returns-then-can_end-clause-pieces : goal.returns-then-can_end-clause-pieces
returns-then-can_end-clause-pieces g c =
    pieces_on _ g.met.B.FileBytes.by_more c.lines.invariant.input c.lines.invariant.pieces c.in-Ok-false.ensures.pieces

pub returns-else-can_end-clause-pieces : goal.returns-else-can_end-clause-pieces
returns-else-can_end-clause-pieces g c =
    pieces_on _ g.met.B.FileBytes.by_more c.lines.invariant.input c.lines.invariant.pieces c.in-Ok-false.ensures.pieces

pub returns-in-Err-clause-cause : goal.returns-in-Err-clause-cause
returns-in-Err-clause-cause g c =
    let i = c.lines.invariant in
    rw (c.from.ensures, refusal_is c.in-Err.e) (cause_join i.cause c.in-Err.ensures.cause)

pub returns-in-Err-clause-refused : goal.returns-in-Err-clause-refused
returns-in-Err-clause-refused g c = λ t.
    let i = c.lines.invariant in
    let k = c.in-Err.ensures in
    let refuses = refuses_is (g.B.FileBytes.view c.args.bytes.now).bytes (g.B.FileBytes.view c.lines.bytes).bytes c.args.input c.lines.reader.input i.cause.files.bytes i.input c.in-Err.e (k.line (i.cause.files.tells ∙ t)) in
    rw c.from.ensures (no_line _ _ _ _ _ _ _ _ i.state c.in-Err.e t k.places.0 refuses)

pub returns-then-not-branch-clause-refused : goal.returns-then-not-branch-clause-refused
returns-then-not-branch-clause-refused g c = λ t.
    let i = c.lines.invariant in
    let k = c.in-Ok-true.ensures in
    let place = place_of_line c.in-Ok-true.field-0 c.next_in.new.line _ _ _ c.in-Ok-true.field-0-test k.places in
    let line = λ (t : IsTrue (g.B.FileBytes.view c.args.bytes.now).tells). line_is (g.B.FileBytes.view c.args.bytes.now).bytes (g.B.FileBytes.view c.lines.bytes).bytes c.args.input c.lines.reader.input i.cause.files.bytes i.input
    c.next_in.new.self.input k.input c.in-Ok-true.field-0 c.next_in.new.line c.in-Ok-true.field-0-test (k.line (i.cause.files.tells ∙ t)) in
    let step = rw (c.as_bytes.ensures, place.0) at (c.in_ok-take_line.ensures i.state.past i.state.kept) in
    line_refused _ _ _ _ _ _ _ _ i.state c.next_in.new.line.content _ place.1 line c.take_line.new.self c.in_ok-take_line.field-0 c.if-not-branch.true (step i.state.held) t ∙ ap Err (sym place.0)

pub returns-then-can_end-clause-lines : goal.returns-then-can_end-clause-lines
returns-then-can_end-clause-lines g c =
    let i = c.lines.invariant in
    let k = c.in-Ok-false.ensures in
    let place = place_of_end c.in-Ok-false.field-0 c.next_in.new.line _ _ _ c.in-Ok-false.field-0-test k.places in
    let none = λ (t : IsTrue (g.B.FileBytes.view c.args.bytes.now).tells). none_is (g.B.FileBytes.view c.args.bytes.now).bytes (g.B.FileBytes.view c.lines.bytes).bytes c.args.input c.lines.reader.input i.cause.files.bytes i.input
    c.next_in.new.self.input _ c.in-Ok-false.field-0 c.next_in.new.line c.in-Ok-false.field-0-test (k.line (i.cause.files.tells ∙ t)) in
    all_held _ _ _ _ _ _ _ _ i.state _ (place.1 ∙ ap (λ (w : Window). w.size) i.input) (sym (c.if-can_end.ensures _ _ _ _ i.state.held)) none

pub returns-else-can_end-clause-refused : goal.returns-else-can_end-clause-refused
returns-else-can_end-clause-refused g c = λ t.
    let i = c.lines.invariant in
    let k = c.in-Ok-false.ensures in
    let place = place_of_end c.in-Ok-false.field-0 c.next_in.new.line _ _ _ c.in-Ok-false.field-0-test k.places in
    let none = none_is (g.B.FileBytes.view c.args.bytes.now).bytes (g.B.FileBytes.view c.lines.bytes).bytes c.args.input c.lines.reader.input i.cause.files.bytes i.input
    c.next_in.new.self.input _ c.in-Ok-false.field-0 c.next_in.new.line c.in-Ok-false.field-0-test (k.line (i.cause.files.tells ∙ t)) in
    not_all_held _ _ _ _ _ _ _ _ i.state (sym (c.if-can_end.ensures _ _ _ _ i.state.held)) t none ∙ ap Err (sym (c.pos.ensures ∙ place.0))

pub lines-preserved : goal.lines-preserved
lines-preserved g c =
    let laws = g.met.B.FileBytes in
    let i = c.lines.invariant in
    let k = c.in-Ok-true.ensures in
    let place = place_of_line c.in-Ok-true.field-0 c.next_in.new.line _ _ _ c.in-Ok-true.field-0-test k.places in
    let line = λ (t : IsTrue (g.B.FileBytes.view c.args.bytes.now).tells). line_is (g.B.FileBytes.view c.args.bytes.now).bytes (g.B.FileBytes.view c.lines.bytes).bytes c.args.input c.lines.reader.input i.cause.files.bytes i.input
    c.next_in.new.self.input k.input c.in-Ok-true.field-0 c.next_in.new.line c.in-Ok-true.field-0-test (k.line (i.cause.files.tells ∙ t)) in
    let step = rw (c.as_bytes.ensures, place.0) at (c.in_ok-take_line.ensures i.state.past i.state.kept) in
    record {
      pieces = pieces_on _ laws.by_more i.input i.pieces k.pieces;
      cause = cause_join i.cause k.cause;
      fits = k.fits;
      input = input_on c.args.input c.lines.reader.input c.next_in.new.self.input i.input k.input;
      state = line_taken _ _ _ _ _ _ _ _ i.state c.next_in.new.line.content _ place.1 line c.take_line.new.self c.in_ok-take_line.field-0 c.if-not-branch.false (step i.state.held);
    }
