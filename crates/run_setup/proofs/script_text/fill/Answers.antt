use Rattle.std.proofs.Common.{◌≤◌, length, arith, rules}
use Rattle.run_setup.proofs.Filling.{filled_none, filled_more, read_full, read_end}
use Rattle.run_setup.proofs.script_text.fill.Goals as goal

pub loop-count-init : goal.loop-count-init
loop-count-init g c = (search rules, search rules, filled_none _ _, search rules)

pub loop-count-preserved : goal.loop-count-preserved
loop-count-preserved g c =
    let within : c.loop-count.count ≤ length c.loop-count.buffer = omega (arith, c.loop-count.invariant.0, c.loop-count.invariant.1) in (
      search rules,
      search rules,
      filled_more _ _ _ c.loop-count.buffer c.read.new.out c.loop-count.count c.in_ok-given.given _ within (search rules) c.loop-count.invariant.2 c.in_ok-given.ensures.bytes c.in_ok-given.ensures.text.left,
      search rules,
    )

pub returns-after-loop-count-clause-read : goal.returns-after-loop-count-clause-read
returns-after-loop-count-clause-read g c = read_full _ _ _ _ c.loop-count.invariant.2 (search rules)

pub returns-then-given-eq0-clause-read : goal.returns-then-given-eq0-clause-read
returns-then-given-eq0-clause-read g c =
    let within : c.loop-count.count ≤ length c.loop-count.buffer = omega (arith, c.loop-count.invariant.0, c.loop-count.invariant.1) in
    let given = rw c.if-given-eq0.true at c.in_ok-given.ensures.bytes in
    read_end _ _ c.loop-count.buffer c.read.new.out c.loop-count.count _ within c.loop-count.invariant.0 c.loop-count.invariant.2 given
