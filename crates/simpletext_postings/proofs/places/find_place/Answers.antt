use Rattle.std.proofs.Common.{arith, get_or, sym, ap}
use Rattle.std.specs.Prelude.{option_map}
use Rattle.std.proofs.lemmas.List.{get_or_default}
use Rattle.simpletext_postings.specs.Terms.{entry_places}
use Rattle.simpletext_postings.specs.declared.places.Place.{Place}
use Rattle.simpletext_postings.proofs.Searching.{unknown_field, unknown_past, known, other, inside_at}
use Rattle.simpletext_postings.proofs.places.find_place.Goals.{else-k-places-via-then-k-places+else-is_term, else-k-places-via-else-k-places}
use Rattle.simpletext_postings.proofs.places.find_place.Goals as goal

abbrev nowhere : Place
nowhere = record { from = 0; to = 0; start = 0; length = 0; field = 0 }

pub returns-in-None-clause-found : goal.returns-in-None-clause-found
returns-in-None-clause-found c =
    ap (option_map entry_places)
    (sym (unknown_field c.args.size c.args.fields.now c.args.names.now c.args.places.now c.requires c.args.field.now c.args.term.now c.in-None.ensures.none))

pub returns-then-is_term-clause-found : goal.returns-then-is_term-clause-found
returns-then-is_term-clause-found c =
    let k = c.places_under-k.result in
    let p = get_or c.args.places.now k nowhere in
    let field = c.in-Some.ensures.some in
    ap (option_map entry_places)
    (sym (known c.args.size c.args.fields.now c.args.names.now c.args.places.now c.requires c.args.field.now c.args.term.now c.in-Some.number field.0 field.1
    k p c.places_under-k.ensures c.if-k-places.true (get_or_default c.args.places.now k nowhere p c.if-k-places.true) (sym c.if-is_term.ensures)))

pub returns-then-is_term-clause-inside : goal.returns-then-is_term-clause-inside
returns-then-is_term-clause-inside c =
    let k = c.places_under-k.result in
    let p = get_or c.args.places.now k nowhere in
    inside_at c.args.size c.args.fields.now c.args.names.now c.args.places.now c.requires c.args.field.now c.args.term.now
    k p c.if-k-places.true (get_or_default c.args.places.now k nowhere p c.if-k-places.true)

pub returns-clause-found : goal.returns-clause-found
returns-clause-found c =
    let k = c.places_under-k.result in
    let p = get_or c.args.places.now k nowhere in
    let field = c.in-Some.ensures.some in
    ap (option_map entry_places) (sym (elim c.else-k-places.branch [
      | else-k-places-via-then-k-places+else-is_term w ↦ other c.args.size c.args.fields.now c.args.names.now c.args.places.now c.requires c.args.field.now c.args.term.now
          c.in-Some.number field.0 field.1 k p c.places_under-k.ensures w.if-k-places.true (get_or_default c.args.places.now k nowhere p w.if-k-places.true) (sym w.if-is_term.ensures)
      | else-k-places-via-else-k-places w ↦ unknown_past c.args.size c.args.fields.now c.args.names.now c.args.places.now c.requires c.args.field.now c.args.term.now
          c.in-Some.number field.0 field.1 k c.places_under-k.ensures (omega (arith, w.if-k-places.false))
    ]))
