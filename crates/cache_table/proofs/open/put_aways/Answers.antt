use Rattle.std.proofs.Common.{arith, ◌≡◌, ℕ, ◌∙◌, ap}
use Rattle.cache_table.specs.Calls.{aways}
use Rattle.cache_table.proofs.open.put_aways.Goals as goal

pub returns : goal.returns
returns g c = let e : c.loop.counter ≡ 7 = (let t = c.loop-test.false in let k = c.loop.auto.counter-end in omega arith) in
    c.loop.invariant ∙ ap (λ (n : ℕ). aways n c.args.slots.now.items) e
