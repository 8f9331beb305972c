use Rattle.std.specs.Prelude.{Err}
use Rattle.std.proofs.Common.{arith, [], ◌<◌, ◌≤◌, ◌+◌, length, true, false, drop, sym, refl, subst, ap, ◌∙◌}
use Rattle.std.proofs.lemmas.Result.{err_from_is_err_and}
use Rattle.directory_input.specs.Windows.{window_bytes, moved_to}
use Rattle.text_lines.specs.Lines.{cut}
use Rattle.text_lines.specs.Readers.{rest}
use Rattle.text_lines.proofs.Ahead.{pieces_on, no_pieces}
use Rattle.directory_input.proofs.Later.{cause_join, no_cause}
use Rattle.simpletext_postings.specs.Postings.{form_of}
use Rattle.simpletext_postings.specs.Openings.{past_after, IsKept}
use Rattle.simpletext_postings.proofs.SoFar.{IsSoFar, begins, refused, bad_line, good_line, done, not_done, done_terms, outside_sum, takes_here, same_refusal}
use Rattle.simpletext_postings.proofs.lines.read_lines.Goals as goal

pub loop-content-init : goal.loop-content-init
loop-content-init g c =
    let B = g.B.FileBytes in
    let start = c.requires.start in
    record {
      pieces = no_pieces _ _ _ (g.met.B.FileBytes.by_none _);
      cause = no_cause _;
      fits = c.requires.fits;
      input = refl;
      docs = refl;
      named = c.requires.named;
      lines = (
        [],
        c.requires.of,
        subst (λ n. IsKept [] n c.args.opening.now) (sym start) c.requires.kept,
        λ t.
            let text = window_bytes (B.view c.args.bytes.now).bytes c.args.reader.now.input in
            subst (λ n. IsSoFar c.args.opening.now.docs text [] n (cut (drop n text)) c.args.opening.now) (sym start) (begins c.args.opening.now.docs text c.args.opening.now c.requires.of c.requires.none),
      );
    }

pub returns-then-not-branch-clause-rows : goal.returns-then-not-branch-clause-rows
returns-then-not-branch-clause-rows g c = λ t.
    let B = g.B.FileBytes in
    let i = c.loop-content.invariant in
    let (past, of, kept, so) = i.lines in
    let r = c.loop-content.reader in
    let content = c.in-Some.content.now in
    let at = r.input.position in
    let now = at + (length content + 1) in
    let ahead : at < now = omega arith in
    let told = rw (i.cause.files.bytes) at (c.in-Some.ensures.line (B.view c.loop-content.bytes) i.fits (i.cause.files.tells ∙ t)) in
    let takes = takes_here c.args.opening.now.docs c.loop-content.opening.docs past content content at c.pos-at.result now (c.pos-at.result + (length content + 1)) c.loop-content.opening c.take.new.self
    false c.in_ok-take.field-0 i.docs refl c.pos-at.ensures (ap (λ n. n + (length content + 1)) c.pos-at.ensures) c.if-not-branch.true (c.in_ok-take.ensures.takes past of) in
    bad_line c.args.opening.now.docs (window_bytes (B.view c.args.bytes.now).bytes c.args.reader.now.input) past at now content
    (cut (rest (B.view c.args.bytes.now).bytes r.input)) (cut (rest (B.view c.args.bytes.now).bytes (moved_to now r.input))) c.loop-content.opening (so t) told.0 told.1 ahead c.take.new.self takes
    ∙ ap (λ k. Err k) (sym c.pos-at.ensures)

pub loop-content-preserved-in-Some : goal.loop-content-preserved-in-Some
loop-content-preserved-in-Some g c =
    let B = g.B.FileBytes in
    let i = c.loop-content.invariant in
    let (past, of, kept, so) = i.lines in
    let r = c.loop-content.reader in
    let content = c.in-Some.content.now in
    let at = r.input.position in
    let now = at + (length content + 1) in
    let ahead : at < now = omega arith in
    let le : at ≤ now = omega arith in
    let takes = takes_here c.args.opening.now.docs c.loop-content.opening.docs past content content at c.pos-at.result now (c.pos-at.result + (length content + 1)) c.loop-content.opening c.take.new.self
    true c.in_ok-take.field-0 i.docs refl c.pos-at.ensures (ap (λ n. n + (length content + 1)) c.pos-at.ensures) c.if-not-branch.false (c.in_ok-take.ensures.takes past of) in
    record {
      pieces = i.pieces;
      cause = i.cause;
      fits = c.pass.ensures.fits (B.view c.loop-content.bytes) i.fits;
      input = rw c.pass.ensures.left (ap (moved_to now) i.input);
      docs = c.in_ok-take.ensures.docs ∙ i.docs;
      named = c.in_ok-take.ensures.named;
      lines = (
        past_after past (form_of content),
        takes.after refl,
        rw c.pass.ensures.left (takes.kept refl le kept),
        λ t.
            let told = rw (i.cause.files.bytes) at (c.in-Some.ensures.line (B.view c.loop-content.bytes) i.fits (i.cause.files.tells ∙ t)) in
            rw c.pass.ensures.left (good_line c.args.opening.now.docs (window_bytes (B.view c.args.bytes.now).bytes c.args.reader.now.input) past at now content
            (cut (rest (B.view c.args.bytes.now).bytes r.input)) (cut (rest (B.view c.args.bytes.now).bytes (moved_to now r.input))) c.loop-content.opening (so t) told.0 told.1 ahead c.take.new.self takes kept),
      );
    }

pub returns-in_err-next_in-clause-pieces : goal.returns-in_err-next_in-clause-pieces
returns-in_err-next_in-clause-pieces g c = pieces_on _ g.met.B.FileBytes.by_more c.loop-content.invariant.input c.loop-content.invariant.pieces c.in_err-next_in.ensures.pieces

pub returns-in_err-take-2-clause-pieces : goal.returns-in_err-take-2-clause-pieces
returns-in_err-take-2-clause-pieces g c = pieces_on _ g.met.B.FileBytes.by_more c.loop-content.invariant.input c.loop-content.invariant.pieces c.in_ok-next_in.ensures.pieces

pub returns-then-not-branch-2-clause-pieces : goal.returns-then-not-branch-2-clause-pieces
returns-then-not-branch-2-clause-pieces g c = pieces_on _ g.met.B.FileBytes.by_more c.loop-content.invariant.input c.loop-content.invariant.pieces c.in_ok-next_in.ensures.pieces

pub returns-then-not-is_done-clause-pieces : goal.returns-then-not-is_done-clause-pieces
returns-then-not-is_done-clause-pieces g c = pieces_on _ g.met.B.FileBytes.by_more c.loop-content.invariant.input c.loop-content.invariant.pieces c.in_ok-next_in.ensures.pieces

pub returns-clause-pieces : goal.returns-clause-pieces
returns-clause-pieces g c = pieces_on _ g.met.B.FileBytes.by_more c.loop-content.invariant.input c.loop-content.invariant.pieces c.in_ok-next_in.ensures.pieces

pub returns-in_err-next_in-clause-rows : goal.returns-in_err-next_in-clause-rows
returns-in_err-next_in-clause-rows g c = λ t.
    let B = g.B.FileBytes in
    let i = c.loop-content.invariant in
    let (past, of, kept, so) = i.lines in
    let a = c.in_err-next_in.ensures in
    let told = rw (i.cause.files.bytes) at (a.line (i.cause.files.tells ∙ t)) in
    let p = err_from_is_err_and c.from_residual-in_err-next_in.result c.from_residual-in_err-next_in.ensures.1 in
    rw (p.1, p.2) (refused (Unit {0}) c.args.opening.now.docs (window_bytes (B.view c.args.bytes.now).bytes c.args.reader.now.input) past c.loop-content.reader.input.position
    (rest (B.view c.args.bytes.now).bytes c.loop-content.reader.input) c.loop-content.opening (so t) c.in_err-next_in.field-0.0 a.places.0 told)

pub returns-in_err-next_in-clause-cause : goal.returns-in_err-next_in-clause-cause
returns-in_err-next_in-clause-cause g c =
    let i = c.loop-content.invariant in
    let p = err_from_is_err_and c.from_residual-in_err-next_in.result c.from_residual-in_err-next_in.ensures.1 in
    let e = same_refusal c.in_err-next_in.field-0.0 in
    rw (p.1, p.2, sym e) (cause_join i.cause c.in_err-next_in.ensures.cause)

pub returns-then-not-branch-2-clause-rows : goal.returns-then-not-branch-2-clause-rows
returns-then-not-branch-2-clause-rows g c = λ t.
    let B = g.B.FileBytes in
    let i = c.loop-content.invariant in
    let (past, of, kept, so) = i.lines in
    let a = c.in_ok-next_in.ensures in
    let places = rw c.if-branch.true at a.places in
    let told = rw (c.if-branch.true, i.cause.files.bytes) at (a.line (i.cause.files.tells ∙ t)) in
    let takes = takes_here c.args.opening.now.docs c.loop-content.opening.docs past c.next_in.new.line.content c.as_bytes.result.now c.loop-content.reader.input.position c.next_in.new.line.at
    c.next_in.new.self.input.position c.pos.result c.loop-content.opening c.take-then-branch.new.self false c.in_ok-take-2.field-0 i.docs c.as_bytes.ensures places.0 c.pos.ensures c.if-not-branch-2.true (c.in_ok-take-2.ensures.takes past of) in
    bad_line c.args.opening.now.docs (window_bytes (B.view c.args.bytes.now).bytes c.args.reader.now.input) past c.loop-content.reader.input.position c.next_in.new.self.input.position c.next_in.new.line.content
    (cut (rest (B.view c.args.bytes.now).bytes c.loop-content.reader.input)) (cut (rest (B.view c.args.bytes.now).bytes c.next_in.new.self.input)) c.loop-content.opening (so t) told.0 told.1 places.1 c.take-then-branch.new.self takes
    ∙ ap (λ k. Err k) (sym places.0)

pub loop-content-preserved : goal.loop-content-preserved
loop-content-preserved g c =
    let B = g.B.FileBytes in
    let i = c.loop-content.invariant in
    let (past, of, kept, so) = i.lines in
    let a = c.in_ok-next_in.ensures in
    let places = rw c.if-branch.true at a.places in
    let takes = takes_here c.args.opening.now.docs c.loop-content.opening.docs past c.next_in.new.line.content c.as_bytes.result.now c.loop-content.reader.input.position c.next_in.new.line.at
    c.next_in.new.self.input.position c.pos.result c.loop-content.opening c.take-then-branch.new.self true c.in_ok-take-2.field-0 i.docs c.as_bytes.ensures places.0 c.pos.ensures c.if-not-branch-2.false (c.in_ok-take-2.ensures.takes past of) in
    let le : c.loop-content.reader.input.position ≤ c.next_in.new.self.input.position = omega (arith, places.1) in
    record {
      pieces = pieces_on _ g.met.B.FileBytes.by_more c.loop-content.invariant.input c.loop-content.invariant.pieces a.pieces;
      cause = cause_join i.cause a.cause;
      fits = a.fits;
      input = a.input ∙ ap (moved_to c.next_in.new.self.input.position) i.input;
      docs = c.in_ok-take-2.ensures.docs ∙ i.docs;
      named = c.in_ok-take-2.ensures.named;
      lines = (
        past_after past (form_of c.next_in.new.line.content),
        takes.after refl,
        takes.kept refl le kept,
        λ t.
            let told = rw (c.if-branch.true, i.cause.files.bytes) at (a.line (i.cause.files.tells ∙ t)) in
            good_line c.args.opening.now.docs (window_bytes (B.view c.args.bytes.now).bytes c.args.reader.now.input) past c.loop-content.reader.input.position c.next_in.new.self.input.position c.next_in.new.line.content
            (cut (rest (B.view c.args.bytes.now).bytes c.loop-content.reader.input)) (cut (rest (B.view c.args.bytes.now).bytes c.next_in.new.self.input)) c.loop-content.opening (so t) told.0 told.1 places.1 c.take-then-branch.new.self takes kept,
      );
    }

pub returns-then-not-is_done-clause-rows : goal.returns-then-not-is_done-clause-rows
returns-then-not-is_done-clause-rows g c = λ t.
    let B = g.B.FileBytes in
    let i = c.loop-content.invariant in
    let (past, of, kept, so) = i.lines in
    let a = c.in_ok-next_in.ensures in
    let places = rw c.if-branch.false at a.places in
    let none = rw (c.if-branch.false, i.cause.files.bytes) at (a.line (i.cause.files.tells ∙ t)) in
    not_done c.args.opening.now.docs (window_bytes (B.view c.args.bytes.now).bytes c.args.reader.now.input) past c.loop-content.reader.input.position (rest (B.view c.args.bytes.now).bytes c.loop-content.reader.input) c.loop-content.opening
    (so t) none (sym (c.if-not-is_done.ensures past of)) ∙ ap (λ k. Err k) (sym places.0 ∙ sym c.pos-then-not-is_done.ensures)

pub returns-clause-rows : goal.returns-clause-rows
returns-clause-rows g c = λ t.
    let B = g.B.FileBytes in
    let i = c.loop-content.invariant in
    let (past, of, kept, so) = i.lines in
    let a = c.in_ok-next_in.ensures in
    let none = rw (c.if-branch.false, i.cause.files.bytes) at (a.line (i.cause.files.tells ∙ t)) in
    done c.args.opening.now.docs (window_bytes (B.view c.args.bytes.now).bytes c.args.reader.now.input) past c.loop-content.reader.input.position (rest (B.view c.args.bytes.now).bytes c.loop-content.reader.input) c.loop-content.opening
    (so t) none (sym (c.if-not-is_done.ensures past of))

pub returns-clause-terms : goal.returns-clause-terms
returns-clause-terms g c = λ t.
    let B = g.B.FileBytes in
    let i = c.loop-content.invariant in
    let (past, of, kept, so) = i.lines in
    let a = c.in_ok-next_in.ensures in
    let none = rw (c.if-branch.false, i.cause.files.bytes) at (a.line (i.cause.files.tells ∙ t)) in
    done_terms c.args.opening.now.docs (window_bytes (B.view c.args.bytes.now).bytes c.args.reader.now.input) past c.loop-content.reader.input.position (rest (B.view c.args.bytes.now).bytes c.loop-content.reader.input) c.loop-content.opening
    (so t) none (of.outside (outside_sum past (sym (c.if-not-is_done.ensures past of))))
