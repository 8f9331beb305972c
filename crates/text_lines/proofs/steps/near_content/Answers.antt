use Rattle.std.proofs.Common.{◌<◌, ◌-◌, ◌∙◌, sym, arith, length, take}
use Rattle.memchr.specs.Find.{is_byte2}
use Rattle.text_lines.specs.Escapes.{newline, backslash}
use Rattle.text_lines.proofs.Ahead.{is_near, first_place}
use Rattle.text_lines.proofs.steps.near_content.Goals as goal

pub bounds-near-run : goal.bounds-near-run
bounds-near-run c =
    let near = take 32 c.args.bytes.now in
    let found = first_place (is_byte2 newline backslash) near 0 (length near - 0) c.in-Some.run' _ (sym c.memchr2_iter-marks.ensures.value ∙ c.in-Some.ensures.steps) in
    omega (arith, found.1)

pub returns-in-Some : goal.returns-in-Some
returns-in-Some c =
    let near = take 32 c.args.bytes.now in
    let found = first_place (is_byte2 newline backslash) near 0 (length near - 0) c.in-Some.run' _ (sym c.memchr2_iter-marks.ensures.value ∙ c.in-Some.ensures.steps) in
    let inside : c.in-Some.run' < length near = omega (arith, found.1) in
    is_near c.args.bytes.now c.in-Some.run' inside found.2 c.if-near-run-eq10.true
