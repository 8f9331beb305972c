use Rattle.std.proofs.Common.{◌∙◌, ap, refl, ℕ, List}
use Rattle.cache_table.specs.Calls.{marks}
use Rattle.cache_table.proofs.Doors.{if_ok, on_ok, lacks_memory, marks_first}
use Rattle.cache_table.proofs.door.TableDoorCacheDoor.enter.Goals as goal

pub returns-clause-gone : goal.returns-clause-gone
returns-clause-gone g c is = ap (λ (l : List ℕ). marks l c.args.mount) (c.enter.ensures.seen is) ∙ marks_first c.args.mount _

pub returns-clause-answer : goal.returns-clause-answer
returns-clause-answer g c = if_ok _

pub returns-clause-state : goal.returns-clause-state
returns-clause-state g c = on_ok _ refl

pub returns-clause-memory : goal.returns-clause-memory
returns-clause-memory g c = lacks_memory _ _ _ c.args.self.now.pass c.enter.new.pass _ c.enter.ensures.unseen
