use Rattle.std.proofs.Common.{◌≡◌, ◌∙◌, ◌∷◌, [], sym, ap, subst, refl}
use Rattle.atomic_table.specs.declared.badge.Badge.{Badge}
use Rattle.cache_table.specs.declared.view.View.{View}
use Rattle.cache_table.specs.Calls.{view_of}
use Rattle.cache_table.specs.Views.{Tied}
use Rattle.cache_table.proofs.Opens.{none_tied}
use Rattle.cache_table.proofs.cache.SharedCache.split.Goals as goal

pub invariant_of-result : goal.invariant_of-result
invariant_of-result g c =
    let s = c.into_seat-seat.ensures in
    let mine : c.into_seat-seat.result.me.0 ≡ view_of c.pass.inside.badge.views = ap view_of (sym s.2) ∙ ap (λ (z : Badge View). view_of z.views) c.replace-badge.ensures.value in
    let e = c.into_badge-2.ensures.2 ∙ ap (λ (m : _). m.0 ∷ []) c.cut-other.ensures.other in
    rw (e, c.new-2.ensures, c.copy-gone.ensures) (record { seated = refl; shared = refl; held = refl; near = tt; unmounts = none_tied; goes = subst (λ (u : View). Tied c.pass.inside.gone u.gone) (sym mine) c.pass.invariant.goes; at_rest = refl })
