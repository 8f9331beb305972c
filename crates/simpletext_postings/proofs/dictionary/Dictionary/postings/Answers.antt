use Rattle.std.proofs.Common.{◌≡◌, subst, ◌∙◌}
use Rattle.std.specs.Prelude.{IfOk}
use Rattle.simpletext_postings.proofs.Fitting.{text_fits_later}
use Rattle.simpletext_postings.proofs.Finding.{unknown_told, known_told, known_entry}
use Rattle.simpletext_postings.proofs.dictionary.Dictionary.postings.Goals as goal

pub returns-in-Some-clause-documents : goal.returns-in-Some-clause-documents
returns-in-Some-clause-documents g c = λ t rows h.
    let own = c.self.inside in
    let e = known_told (g.B.FileBytes.view c.args.bytes.now).bytes c.args.self.now own.docs own.input own.fields.items own.names.items own.places.items c.args.field.now c.args.term.now c.self.view_is c.self.invariant.0 (c.requires.table t)
    c.in-Some.from c.in-Some.to c.part_between-part.result c.in-Some.ensures.inside.0 c.in-Some.ensures.inside.1 c.part_between-part.ensures.part c.in-Some.ensures.found rows h in
    subst (λ ps. IfOk c.read_entries.result (λ v. v.items ≡ ps)) e (c.read_entries.ensures.documents t)

pub returns-in-Some-clause-never_bad : goal.returns-in-Some-clause-never_bad
returns-in-Some-clause-never_bad g c = λ t.
    let own = c.self.inside in
    let e = known_entry (g.B.FileBytes.view c.args.bytes.now).bytes c.args.self.now own.docs own.input own.fields.items own.names.items own.places.items c.args.field.now c.args.term.now c.self.view_is c.self.invariant.0 (c.requires.table t)
    c.in-Some.from c.in-Some.to c.part_between-part.result c.in-Some.ensures.inside.0 c.in-Some.ensures.inside.1 c.part_between-part.ensures.part c.in-Some.ensures.found in
    c.read_entries.ensures.never_bad t e

pub returns-in-None-clause-documents : goal.returns-in-None-clause-documents
returns-in-None-clause-documents g c = λ t rows h.
    let own = c.self.inside in
    c.new.ensures.items ∙ unknown_told (g.B.FileBytes.view c.args.bytes.now).bytes c.args.self.now own.docs own.input own.fields.items own.names.items own.places.items c.args.field.now c.args.term.now c.self.view_is c.self.invariant.0 (c.requires.table t)
    rows h c.in-None.ensures.found

pub returns-in-Some-clause-fits : goal.returns-in-Some-clause-fits
returns-in-Some-clause-fits g c = text_fits_later c.read_entries.ensures.cause.files c.requires
