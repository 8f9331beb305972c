use Rattle.std.proofs.Common.{◌∙◌, ap}
use Rattle.index_mounts.specs.Rosters.{mounted, RosterView}
use Rattle.script_run.proofs.Rosters.{mounted_without}
use Rattle.script_run.proofs.block.forget_line.Goals as goal

pub returns-in-Unmount-Unmounted-clause-mounts : goal.returns-in-Unmount-Unmounted-clause-mounts
returns-in-Unmount-Unmounted-clause-mounts g c = λ other. rw (c.in-Unmount-Unmounted.is-0, c.in-Unmount-Unmounted.is-1)
    (ap (λ (r : RosterView). mounted other r) c.unmount.ensures.roster ∙ mounted_without c.in-Unmount-Unmounted.name other c.args.roster.now c.lesson.ensures.ascend)
