use Rattle.std.proofs.Common.{rules, ◌≡◌, [], get_or, false, subst, ◌∙◌}
use Rattle.std.specs.Str.{bytes_eq}
use Rattle.std.proofs.lemmas.List.{get_or_read}
use Rattle.simpletext_postings.proofs.Searching.{none_here}
use Rattle.simpletext_postings.proofs.places.number_of.Goals as goal

pub loop-i-preserved : goal.loop-i-preserved
loop-i-preserved c =
    let own : bytes_eq c.args.name.now c.as_bytes.result.now ≡ false = search rules in
    let read : c.as_bytes.result.now ≡ get_or c.args.fields.now c.loop-i.i [] =
    c.as_bytes.ensures ∙ get_or_read c.args.fields.now c.loop-i.i c.index-fields-i.result c.loop-i-test.true c.index-fields-i.is [] in
    let other = subst (λ t. bytes_eq c.args.name.now t ≡ false) read own in
    none_here c.args.name.now c.args.fields.now c.loop-i.i c.loop-i-test.true other ∙ c.loop-i.invariant
