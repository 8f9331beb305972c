use Rattle.std.proofs.Common.{◌≡◌, ◌<◌, Bool, List, [], length, get_or, sym, ap, ◌∙◌, arith}
use Rattle.std.proofs.lemmas.List.{get_or_read, get_or-set_same}
use Rattle.std.proofs.lemmas.List.Elements.{All-get_or, All-set}
use Rattle.doc_bits.specs.Places.{zip_with, and_not, either_not_both}
use Rattle.doc_bits.proofs.PlaneLemmas.{plane_added}
use Rattle.doc_bits.proofs.tally.add_carry.Goals as goal

pub loop-p-preserved : goal.loop-p-preserved
loop-p-preserved c =
    let planes = c.loop-p.planes in
    let p = c.loop-p.p in
    let carry = c.loop-p.carry in
    let plane = c.xor.new.self in
    let old = c.loop-p.invariant in
    let same = c.loop-p.auto.planes in
    let many = c.requires.many in
    let few = c.requires.few in
    let next = c.loop-p-test.true in
    let low : p < length planes = omega arith in
    let read : get_or planes p c.index-planes-p.result ≡ get_or planes p [] =
    sym c.index-planes-p.is ∙ get_or_read planes p c.index-planes-p.result low c.index-planes-p.is [] in
    let written = get_or-set_same planes p plane c.index-planes-p-in-loop-p.result low in
    let long : length (get_or planes p []) ≡ length carry =
    All-get_or (λ (ps : List Bool). length ps ≡ length c.args.carry.now) planes p [] low old.1 ∙ sym old.0 in
    let sums : plane ≡ zip_with either_not_both (get_or planes p []) carry = c.xor.ensures.places ∙ ap (λ ps. zip_with either_not_both ps carry) read in
    let carried : c.and_not.new.self ≡ zip_with and_not carry plane = c.and_not.ensures.places ∙ ap (zip_with and_not carry) written in
    let carry_long = old.0 in (
      c.and_not.ensures.length ∙ old.0,
      All-set (λ (ps : List Bool). length ps ≡ length c.args.carry.now) planes p plane (c.xor.ensures.length ∙ ap length read ∙ long ∙ old.0) old.1,
      λ i within. plane_added planes p carry plane c.and_not.new.self i low (omega arith) long sums carried ∙ old.2 i within,
    )
