use Rattle.std.proofs.Common.{◌≡◌, ◌<◌, ◌/◌, ◌%◌, ◌^◌, Bool, false, cond, eqb, nat_le, bit_and, ◌&&◌, ◌||◌, List, [], length, get_or, sym, ap, ◌∙◌, arith}
use Rattle.std.proofs.lemmas.List.{get_or_read}
use Rattle.std.proofs.lemmas.List.Elements.{All-get_or}
use Rattle.doc_bits.specs.Places.{zip_with}
use Rattle.doc_bits.specs.Planes.{number, digits_at}
use Rattle.doc_bits.proofs.Lists.{length-zip_with}
use Rattle.doc_bits.proofs.PlaneLemmas.{plane_compared, compared_all}
use Rattle.doc_bits.proofs.tally.compare.Goals as goal

pub loop-digit-preserved : goal.loop-digit-preserved
loop-digit-preserved c =
    let planes = c.args.planes.now in
    let p = c.loop-digit.digit in
    let m = c.args.m in
    let out = c.loop-digit.out in
    let old = c.loop-digit.invariant in
    let many = c.requires.many in
    let few = c.requires.few in
    let next = c.loop-digit-test.true in
    let low : p < length planes = omega arith in
    let read : c.index-planes-digit.result ≡ get_or planes p [] = get_or_read planes p c.index-planes-digit.result low c.index-planes-digit.is [] in
    let long : length (get_or planes p []) ≡ length out =
    All-get_or (λ (ps : List Bool). length ps ≡ length c.args.out.now) planes p [] low c.requires.long ∙ sym old.0 in
    let test : Bool → Bool → Bool = cond (eqb (bit_and (m / 2 ^ p) 1) 1) ◌&&◌ ◌||◌ in
    let made : c.compare_plane.new.out ≡ zip_with test out (get_or planes p []) = c.compare_plane.ensures ∙ ap (zip_with test out) read in
    let out_long = old.0 in (
      ap length made ∙ length-zip_with test out (get_or planes p []) (sym long) ∙ old.0,
      λ i within. plane_compared planes p m out c.compare_plane.new.out i low (omega arith) long made (old.1 i within),
    )

pub returns-clause-at_least : goal.returns-clause-at_least
returns-clause-at_least c i within =
    let m = c.args.m in
    let count = number (digits_at c.args.planes.now i) in
    let upto = c.loop-digit.auto.digit-end in
    let past = c.loop-digit-test.false in
    let end : c.loop-digit.digit ≡ c.args.used = omega arith in
    compared_all m count c.args.used (get_or c.loop-digit.out i false) c.requires.digits (c.requires.room i within)
    (c.loop-digit.invariant.1 i within ∙ ap (λ k. nat_le (m % 2 ^ k) (count % 2 ^ k)) end)
