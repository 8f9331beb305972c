use Rattle.std.proofs.Common.{◌∙◌, sym, ap, ℕ}
use Rattle.std.specs.Prelude.{take, drop}
use Rattle.region_cell.proofs.Kept.{read_kept, ok_then, ok_under}
use Rattle.region_cell.proofs.cell.RegionCell.peek.Goals as goal

pub returns-clause-content : goal.returns-clause-content
returns-clause-content g c =
    let r = rw (← c.self.view_is) at c.requires.sub in
    let all = sym c.has_all.ensures ∙ c.if-not-has_all.false in
    rw (← c.self.view_is) (
    ok_then c.get.result (λ e h n. e n ∙ ap (λ (k : ℕ). take k (drop c.args.sub.start (g.F.Frame.view c.self.inside.frame).bytes)) c.requires.len ∙ read_kept _ _ _ c.self.invariant.3 c.args.sub r.0 r.1 all h n)
    (ok_under _ c.get.result c.get.ensures.got))
