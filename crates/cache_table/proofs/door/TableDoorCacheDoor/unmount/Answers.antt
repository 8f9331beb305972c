use Rattle.std.proofs.Common.{◌∙◌, ap, ℕ, List}
use Rattle.cache_table.specs.Calls.{marks}
use Rattle.cache_table.proofs.Doors.{marks_more}
use Rattle.cache_table.proofs.door.TableDoorCacheDoor.unmount.Goals as goal

pub returns-clause-unmounted : goal.returns-clause-unmounted
returns-clause-unmounted g c m = ap (λ (l : List ℕ). marks l m) c.unmount.ensures.unmounted ∙ marks_more c.args.mount m _
