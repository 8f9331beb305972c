use Rattle.std.proofs.Common.{◌<◌, subst, length}
use Rattle.std.specs.Prelude.{IfSome}
use Rattle.cache_door.specs.Cores.{CoreView, core_view}
use Rattle.cache_door.proofs.Entries.{choose_inside}
use Rattle.cache_door.proofs.cache.Core.choose.Goals as goal

pub returns-clause-inside : goal.returns-clause-inside
returns-clause-inside g c =
    let i = c.self.inside in
    let P : CoreView → Type 0 = λ q. IfSome c.choose.result (λ r. r < length q.cells) in
    subst P c.self.view_is (choose_inside (core_view i.config i.policy i.cells.items i.holds.items i.gone.items i.work) c.self.invariant c.choose.result (rw c.deref.ensures.value at c.choose.ensures))
