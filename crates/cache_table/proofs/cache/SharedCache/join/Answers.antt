use Rattle.std.proofs.Common.{◌≡◌, ◌∙◌, sym, ap}
use Rattle.cache_table.specs.declared.view.View.{View}
use Rattle.cache_table.specs.Calls.{view_of, marks}
use Rattle.cache_table.proofs.Sums.{marks_of, count_of}
use Rattle.cache_table.proofs.cache.SharedCache.join.Goals as goal

pub returns-clause-whole : goal.returns-clause-whole
returns-clause-whole g c whole m seen =
    let o = c.merge.new.seat.me.0 in
    let e : view_of c.into_badge.result.views ≡ c.learn.new.seat.me.0 = ap view_of c.into_badge.ensures.2 in
    let n = e ∙ c.learn.ensures.looked in
    let s : o.shares ≡ 64 = sym (ap (λ (v : View). v.shares) n) ∙ whole in
    let here = count_of m o.gone (sym (ap (λ (v : View). marks v.gone m) n) ∙ seen) in
    ap (λ (v : View). marks v.unmounted m) n ∙ marks_of m o.unmounted (c.learn.ensures.learned s m here)
