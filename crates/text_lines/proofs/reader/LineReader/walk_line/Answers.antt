use Rattle.std.proofs.Common.{◌≤◌, ◌+◌, ◌∙◌, arith}
use Rattle.text_lines.specs.Readers.{rest}
use Rattle.text_lines.proofs.Cuts.{goes_far, unended}
use Rattle.directory_input.proofs.Later.{cause_join}
use Rattle.text_lines.proofs.Ahead.{pieces_on, moved_twice, names_of_bytes, refuses_of_bytes}
use Rattle.text_lines.proofs.reader.LineReader.walk_line.Goals as goal

pub returns-then-size-gt-LINE_LIMIT-clause-pieces : goal.returns-then-size-gt-LINE_LIMIT-clause-pieces
returns-then-size-gt-LINE_LIMIT-clause-pieces g c = pieces_on _ g.met.B.FileBytes.by_more c.loop-step.invariant.input c.loop-step.invariant.pieces c.in-Ok-Some.ensures.pieces

pub returns-then-step-clause-pieces : goal.returns-then-step-clause-pieces
returns-then-step-clause-pieces g c = pieces_on _ g.met.B.FileBytes.by_more c.loop-step.invariant.input c.loop-step.invariant.pieces c.in-Ok-Some.ensures.pieces

pub returns-in-Ok-None-clause-pieces : goal.returns-in-Ok-None-clause-pieces
returns-in-Ok-None-clause-pieces g c = pieces_on _ g.met.B.FileBytes.by_more c.loop-step.invariant.input c.loop-step.invariant.pieces c.in-Ok-None.ensures.pieces

pub returns-in-Ok-None-2-clause-pieces : goal.returns-in-Ok-None-2-clause-pieces
returns-in-Ok-None-2-clause-pieces g c = pieces_on _ g.met.B.FileBytes.by_more c.loop-step.invariant.input c.loop-step.invariant.pieces c.in-Ok-None.ensures.pieces

pub returns-in-Err-clause-pieces : goal.returns-in-Err-clause-pieces
returns-in-Err-clause-pieces g c = pieces_on _ g.met.B.FileBytes.by_more c.loop-step.invariant.input c.loop-step.invariant.pieces c.in-Err.ensures.pieces

pub returns-in-Err-clause-came : goal.returns-in-Err-clause-came
returns-in-Err-clause-came g c = names_of_bytes c.args.self.now.input.position c.in-Err.e c.in-Err.ensures.only

pub returns-in-Err-clause-line : goal.returns-in-Err-clause-line
returns-in-Err-clause-line g c = λ t. refuses_of_bytes (rest (g.B.FileBytes.view c.args.bytes.now).bytes c.args.self.now.input) c.in-Err.e c.in-Err.ensures.only

pub returns-in-Err-clause-cause : goal.returns-in-Err-clause-cause
returns-in-Err-clause-cause g c = cause_join c.loop-step.invariant.cause c.in-Err.ensures.cause

pub returns-in-Ok-None-2-clause-line : goal.returns-in-Ok-None-2-clause-line
returns-in-Ok-None-2-clause-line g c = λ t.
    let files = g.B.FileBytes.view c.args.bytes.now in
    let i = c.loop-step.invariant in
    let none = rw (c.in-Ok-None.field-0-is, i.cause.files.bytes) at (c.in-Ok-None.ensures.steps (i.cause.files.tells ∙ t)) in
    unended (rest files.bytes c.args.self.now.input) c.loop-step.content c.loop-step.size c.loop-step.slash (rest files.bytes c.loop-step.self.input)
    (i.line t) none c.if-size-eq0.false i.few

pub loop-step-preserved : goal.loop-step-preserved
loop-step-preserved g c =
    let files = g.B.FileBytes.view c.args.bytes.now in
    let i = c.loop-step.invariant in
    let a = c.in-Ok-Some.ensures in
    let step = c.in-Ok-Some.step in
    let moved = rw c.in-Ok-Some.field-0-is at a.moved in
    let few : c.loop-step.size + step.used ≤ 16777216 = omega (arith, c.if-size-gt-LINE_LIMIT.false) in
    record {
      pieces = pieces_on _ g.met.B.FileBytes.by_more i.input i.pieces a.pieces;
      cause = cause_join i.cause a.cause;
      fits = a.fits;
      input = moved_twice c.args.self.now.input c.loop-step.self.input c.advance.new.self.input c.loop-step.size step.used i.input moved.2;
      few = few;
      line = λ t.
          let lands = rw (c.in-Ok-Some.field-0-is, i.cause.files.bytes) at (a.steps (i.cause.files.tells ∙ t)) in
          goes_far step.ended c.loop-step.slash step.slash c.loop-step.content c.advance.new.content step.used (rest files.bytes c.loop-step.self.input)
          (rest files.bytes c.advance.new.self.input) _ c.loop-step.size c.if-step.false lands (i.line t);
    }
