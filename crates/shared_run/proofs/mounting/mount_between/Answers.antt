use Rattle.std.proofs.Common.{◌≡◌, ◌∙◌, ℕ, Bool, false, List, ap}
use Rattle.std.specs.Prelude.{◌||◌}
use Rattle.std.proofs.Math.Bool.{or-false}
use Rattle.cache_table.specs.Calls.{marks}
use Rattle.script_run.proofs.Blocks.{does_live}
use Rattle.shared_run.proofs.Together.{marks_both}
use Rattle.shared_run.proofs.mounting.mount_between.Goals as goal

pub returns-clause-unmounted : goal.returns-clause-unmounted
returns-clause-unmounted g c = λ n.
    let share = c.into_pass.result in
    let same = (does_live _ _ c.mount_line-reply.result c.mount_line-reply.ensures.does).1 in
    let none : marks share.view.unmounted n ≡ false = ap (λ (p : _). marks p.view.unmounted n) c.into_pass.ensures.pass ∙ ap (λ (f : ℕ → Bool). f n) same
    ∙ ap (λ (p : _). marks p.view.unmounted n) c.new-door.ensures.pass ∙ ap (λ (v : _). marks v.unmounted n) c.split-share.ensures.new in
    ap (λ (l : List ℕ). marks l n) c.join.ensures.unmounted ∙ marks_both c.split-share.new.pass.view.unmounted share.view.unmounted n
    ∙ ap (λ (b : Bool). marks c.split-share.new.pass.view.unmounted n || b) none ∙ or-false (marks c.split-share.new.pass.view.unmounted n) ∙ ap (λ (v : _). marks v.unmounted n) c.split-share.ensures.old
