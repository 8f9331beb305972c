use Rattle.std.proofs.Common.{◌+◌, length, true, false, drop, sym, refl, subst, ap, ◌∙◌}
use Rattle.std.proofs.lemmas.Result.{err_from_is_err_and}
use Rattle.directory_input.specs.Windows.{window_bytes, moved_to}
use Rattle.text_lines.specs.Lines.{cut}
use Rattle.text_lines.specs.Readers.{rest}
use Rattle.text_lines.proofs.Ahead.{pieces_on, no_pieces}
use Rattle.directory_input.proofs.Later.{cause_join, no_cause}
use Rattle.simpletext_postings.specs.Postings.{form_of}
use Rattle.simpletext_postings.specs.Entries.{IsEntryText, collected, line_forms}
use Rattle.simpletext_postings.proofs.SoFar.{same_refusal}
use Rattle.simpletext_postings.proofs.Listing.{more_lines, text_after, not_refused, no_lines, of_bytes, collects_here}
use Rattle.simpletext_postings.proofs.entries.read_all.Goals as goal

pub loop-content-init : goal.loop-content-init
loop-content-init g c =
    let B = g.B.FileBytes in
    let text = window_bytes (B.view c.args.bytes.now).bytes c.args.reader.now.input in
    record {
      pieces = no_pieces _ _ _ (g.met.B.FileBytes.by_none _);
      cause = no_cause _;
      fits = c.requires.fits;
      input = refl;
      docs = refl;
      rises = c.requires.rises;
      documents = λ t. (
        ap (λ n. collected c.args.collecting.now (line_forms (cut (drop n text)).lines)) c.requires.start,
        λ h. subst (λ n. IsEntryText c.args.collecting.now.docs c.args.collecting.now.least (cut (drop n text))) (sym c.requires.start)
            (subst (λ n. IsEntryText c.args.collecting.now.docs n (cut text)) (sym c.requires.least) h),
      );
    }

pub returns-then-not-branch-clause-never_bad : goal.returns-then-not-branch-clause-never_bad
returns-then-not-branch-clause-never_bad g c = λ t h.
    let B = g.B.FileBytes in
    let i = c.loop-content.invariant in
    let r = c.loop-content.reader in
    let content = c.in-Some.content.now in
    let now = r.input.position + (length content + 1) in
    let told = rw (i.cause.files.bytes) at (c.in-Some.ensures.line (B.view c.loop-content.bytes) i.fits (i.cause.files.tells ∙ t)) in
    let collects = collects_here (form_of content) _ c.loop-content.collecting c.take.new.self false c.in_ok-take.field-0 c.shape_of.ensures.form c.if-not-branch.true (c.in_ok-take.ensures content) in
    not_refused content _ (cut (rest (B.view c.args.bytes.now).bytes r.input)) (cut (rest (B.view c.args.bytes.now).bytes (moved_to now r.input))) c.loop-content.collecting c.take.new.self told.0 collects ((i.documents t).1 h)

pub loop-content-preserved-in-Some : goal.loop-content-preserved-in-Some
loop-content-preserved-in-Some g c =
    let B = g.B.FileBytes in
    let i = c.loop-content.invariant in
    let r = c.loop-content.reader in
    let content = c.in-Some.content.now in
    let now = r.input.position + (length content + 1) in
    let collects = collects_here (form_of content) _ c.loop-content.collecting c.take.new.self true c.in_ok-take.field-0 c.shape_of.ensures.form c.if-not-branch.false (c.in_ok-take.ensures content) in
    record {
      pieces = i.pieces;
      cause = i.cause;
      fits = c.pass.ensures.fits (B.view c.loop-content.bytes) i.fits;
      input = rw c.pass.ensures.left (ap (moved_to now) i.input);
      docs = collects.docs ∙ i.docs;
      rises = collects.rises refl i.rises;
      documents = λ t.
          let told = rw (i.cause.files.bytes) at (c.in-Some.ensures.line (B.view c.loop-content.bytes) i.fits (i.cause.files.tells ∙ t)) in
          let before = cut (rest (B.view c.args.bytes.now).bytes r.input) in
          let after = cut (rest (B.view c.args.bytes.now).bytes (moved_to now r.input)) in
          rw c.pass.ensures.left (
            more_lines content _ before after c.loop-content.collecting c.take.new.self told.0 true refl collects ∙ (i.documents t).0,
            λ h. text_after content _ before after c.loop-content.collecting c.take.new.self told.0 true collects ((i.documents t).1 h),
          );
    }

pub returns-in_err-next_in-clause-pieces : goal.returns-in_err-next_in-clause-pieces
returns-in_err-next_in-clause-pieces g c = pieces_on _ g.met.B.FileBytes.by_more c.loop-content.invariant.input c.loop-content.invariant.pieces c.in_err-next_in.ensures.pieces

pub returns-in_err-take-2-clause-pieces : goal.returns-in_err-take-2-clause-pieces
returns-in_err-take-2-clause-pieces g c = pieces_on _ g.met.B.FileBytes.by_more c.loop-content.invariant.input c.loop-content.invariant.pieces c.in_ok-next_in.ensures.pieces

pub returns-then-not-branch-2-clause-pieces : goal.returns-then-not-branch-2-clause-pieces
returns-then-not-branch-2-clause-pieces g c = pieces_on _ g.met.B.FileBytes.by_more c.loop-content.invariant.input c.loop-content.invariant.pieces c.in_ok-next_in.ensures.pieces

pub returns-clause-pieces : goal.returns-clause-pieces
returns-clause-pieces g c = pieces_on _ g.met.B.FileBytes.by_more c.loop-content.invariant.input c.loop-content.invariant.pieces c.in_ok-next_in.ensures.pieces

pub returns-in_err-next_in-clause-never_bad : goal.returns-in_err-next_in-clause-never_bad
returns-in_err-next_in-clause-never_bad g c = λ t h.
    let B = g.B.FileBytes in
    let i = c.loop-content.invariant in
    let told = rw (i.cause.files.bytes) at (c.in_err-next_in.ensures.line (i.cause.files.tells ∙ t)) in
    let p = err_from_is_err_and c.from_residual-in_err-next_in.result c.from_residual-in_err-next_in.ensures.1 in
    rw (p.1, p.2) (of_bytes c.loop-content.collecting.docs c.loop-content.collecting.least (rest (B.view c.args.bytes.now).bytes c.loop-content.reader.input) ((i.documents t).1 h) c.in_err-next_in.field-0.0 told)

pub returns-in_err-next_in-clause-cause : goal.returns-in_err-next_in-clause-cause
returns-in_err-next_in-clause-cause g c =
    let i = c.loop-content.invariant in
    let p = err_from_is_err_and c.from_residual-in_err-next_in.result c.from_residual-in_err-next_in.ensures.1 in
    let e = same_refusal c.in_err-next_in.field-0.0 in
    rw (p.1, p.2, sym e) (cause_join i.cause c.in_err-next_in.ensures.cause)

pub returns-then-not-branch-2-clause-never_bad : goal.returns-then-not-branch-2-clause-never_bad
returns-then-not-branch-2-clause-never_bad g c = λ t h.
    let B = g.B.FileBytes in
    let i = c.loop-content.invariant in
    let told = rw (c.if-branch.true, i.cause.files.bytes) at (c.in_ok-next_in.ensures.line (i.cause.files.tells ∙ t)) in
    let collects = collects_here (form_of c.next_in.new.line.content) _ c.loop-content.collecting c.take-then-branch.new.self false c.in_ok-take-2.field-0 (c.shape_of-then-branch.ensures.form ∙ ap form_of c.as_bytes.ensures) c.if-not-branch-2.true (c.in_ok-take-2.ensures c.as_bytes.result.now) in
    not_refused c.next_in.new.line.content _ (cut (rest (B.view c.args.bytes.now).bytes c.loop-content.reader.input)) (cut (rest (B.view c.args.bytes.now).bytes c.next_in.new.self.input)) c.loop-content.collecting c.take-then-branch.new.self told.0 collects ((i.documents t).1 h)

pub loop-content-preserved : goal.loop-content-preserved
loop-content-preserved g c =
    let B = g.B.FileBytes in
    let i = c.loop-content.invariant in
    let a = c.in_ok-next_in.ensures in
    let collects = collects_here (form_of c.next_in.new.line.content) _ c.loop-content.collecting c.take-then-branch.new.self true c.in_ok-take-2.field-0 (c.shape_of-then-branch.ensures.form ∙ ap form_of c.as_bytes.ensures) c.if-not-branch-2.false (c.in_ok-take-2.ensures c.as_bytes.result.now) in
    record {
      pieces = pieces_on _ g.met.B.FileBytes.by_more c.loop-content.invariant.input c.loop-content.invariant.pieces a.pieces;
      cause = cause_join i.cause a.cause;
      fits = a.fits;
      input = a.input ∙ ap (moved_to c.next_in.new.self.input.position) i.input;
      docs = collects.docs ∙ i.docs;
      rises = collects.rises refl i.rises;
      documents = λ t.
          let told = rw (c.if-branch.true, i.cause.files.bytes) at (a.line (i.cause.files.tells ∙ t)) in
          let before = cut (rest (B.view c.args.bytes.now).bytes c.loop-content.reader.input) in
          let after = cut (rest (B.view c.args.bytes.now).bytes c.next_in.new.self.input) in (
            more_lines c.next_in.new.line.content _ before after c.loop-content.collecting c.take-then-branch.new.self told.0 true refl collects ∙ (i.documents t).0,
            λ h. text_after c.next_in.new.line.content _ before after c.loop-content.collecting c.take-then-branch.new.self told.0 true collects ((i.documents t).1 h),
          );
    }

pub returns-clause-documents : goal.returns-clause-documents
returns-clause-documents g c = λ t.
    let B = g.B.FileBytes in
    let i = c.loop-content.invariant in
    let none = rw (c.if-branch.false, i.cause.files.bytes) at (c.in_ok-next_in.ensures.line (i.cause.files.tells ∙ t)) in
    sym (no_lines (rest (B.view c.args.bytes.now).bytes c.loop-content.reader.input) c.loop-content.collecting none) ∙ (i.documents t).0
