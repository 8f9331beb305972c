use Rattle.std.proofs.Common.{◌≤◌, ◌<◌, ◌+◌, ◌-◌, ◌∙◌, ap₂, sym, arith, length}
use Rattle.directory_input.specs.Windows.{part_of}
use Rattle.simpletext_stored.specs.Answers.{StoredPlaces}
use Rattle.simpletext_stored.proofs.Fetched.{stored_fits_later, between, place_is, part_fits, fetched, never}
use Rattle.simpletext_stored.proofs.index.StoredIndex.fetch.Goals as goal

pub overflow_sub-till : goal.overflow_sub-till
overflow_sub-till g c =
    let i = c.self.inside in
    let inv = c.self.invariant in
    let below : c.args.doc + 1 < length i.places.items = omega (arith, inv.whole, c.if-doc-self.false) in
    let order = between i.places.items i.input.size c.args.doc inv.rising below in
    let p = place_is i.places.items c.args.doc c.index-from.result.now (omega (arith, below)) c.index-from.ensures in
    let q = place_is i.places.items (c.args.doc + 1) c.index-till.result.now below c.index-till.ensures in
    omega (arith, order.0, p, q)

pub part-lines-requires : goal.part-lines-requires
part-lines-requires g c =
    let i = c.self.inside in
    let inv = c.self.invariant in
    let below : c.args.doc + 1 < length i.places.items = omega (arith, inv.whole, c.if-doc-self.false) in
    let order = between i.places.items i.input.size c.args.doc inv.rising below in
    let p = place_is i.places.items c.args.doc c.index-from.result.now (omega (arith, below)) c.index-from.ensures in
    let q = place_is i.places.items (c.args.doc + 1) c.index-till.result.now below c.index-till.ensures in
    omega (arith, order.0, order.1, p, q)

pub read_document-requires-clause-fits : goal.read_document-requires-clause-fits
read_document-requires-clause-fits g c =
    let i = c.self.inside in
    let inv = c.self.invariant in
    let below : c.args.doc + 1 < length i.places.items = omega (arith, inv.whole, c.if-doc-self.false) in
    let order = between i.places.items i.input.size c.args.doc inv.rising below in
    let p = place_is i.places.items c.args.doc c.index-from.result.now (omega (arith, below)) c.index-from.ensures in
    let q = place_is i.places.items (c.args.doc + 1) c.index-till.result.now below c.index-till.ensures in
    let now = c.args.bytes.now in
    let le : c.index-from.result.now + (c.index-till.result.now - c.index-from.result.now) ≤ i.input.size = omega (arith, order.0, order.1, p, q) in
    part_fits (g.B.FileBytes.view now) i.input c.part-lines.result c.index-from.result.now (c.index-till.result.now - c.index-from.result.now)
    c.part-lines.ensures le (rw (sym c.self.view_is) at c.requires.file)

pub returns-in-Ok-clause-fields : goal.returns-in-Ok-clause-fields
returns-in-Ok-clause-fields g c = λ t.
    let i = c.self.inside in
    let inv = c.self.invariant in
    let index : StoredPlaces = record { input = i.input; docs = i.docs; places = i.places.items } in
    let below : c.args.doc + 1 < length i.places.items = omega (arith, inv.whole, c.if-doc-self.false) in
    let p = place_is i.places.items c.args.doc c.index-from.result.now (omega (arith, below)) c.index-from.ensures in
    let q = place_is i.places.items (c.args.doc + 1) c.index-till.result.now below c.index-till.ensures in
    let lines = c.part-lines.ensures ∙ ap₂ (λ x y. part_of i.input x (y - x)) p q in
    let fits = rw (sym c.self.view_is) at c.requires.text in
    rw (sym c.self.view_is) (fetched (g.B.FileBytes.view c.args.bytes.now).bytes index inv c.args.doc c.if-doc-self.false (fits t) c.part-lines.result lines c.in-Ok.fields.items (c.in-Ok.ensures.fields t))

pub returns-in-Err-Bad-clause-never_bad : goal.returns-in-Err-Bad-clause-never_bad
returns-in-Err-Bad-clause-never_bad g c = λ t.
    let i = c.self.inside in
    let inv = c.self.invariant in
    let index : StoredPlaces = record { input = i.input; docs = i.docs; places = i.places.items } in
    let below : c.args.doc + 1 < length i.places.items = omega (arith, inv.whole, c.if-doc-self.false) in
    let p = place_is i.places.items c.args.doc c.index-from.result.now (omega (arith, below)) c.index-from.ensures in
    let q = place_is i.places.items (c.args.doc + 1) c.index-till.result.now below c.index-till.ensures in
    let lines = c.part-lines.ensures ∙ ap₂ (λ x y. part_of i.input x (y - x)) p q in
    let fits = rw (sym c.self.view_is) at c.requires.text in
    let read = rw c.in-Err-Bad.field-0-is at (c.in-Err-Bad.ensures.refused t) in
    never (g.B.FileBytes.view c.args.bytes.now).bytes index inv c.args.doc c.if-doc-self.false (fits t) c.part-lines.result lines c.in-Err-Bad.at read

pub returns-in-Ok-clause-fits : goal.returns-in-Ok-clause-fits
returns-in-Ok-clause-fits g c = stored_fits_later c.read_document.ensures.cause.files c.requires

pub returns-in-Err-Bad-clause-fits : goal.returns-in-Err-Bad-clause-fits
returns-in-Err-Bad-clause-fits g c = stored_fits_later c.read_document.ensures.cause.files c.requires

pub returns-in-Err-Bytes-clause-fits : goal.returns-in-Err-Bytes-clause-fits
returns-in-Err-Bytes-clause-fits g c = stored_fits_later c.read_document.ensures.cause.files c.requires
