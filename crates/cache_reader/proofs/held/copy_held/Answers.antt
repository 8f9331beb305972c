use Rattle.region_cell.specs.declared.taken.Taken.TheVariants as taken
use Rattle.cache_reader.proofs.States.{left_by, copies_true, copies_false}
use Rattle.cache_reader.proofs.held.copy_held.Goals as goal

pub returns-in-Copied-clause-left : goal.returns-in-Copied-clause-left
returns-in-Copied-clause-left g c = left_by (g.D.CacheDoor.view c.args.door.now) (g.D.CacheDoor.view c.take_bytes-taken.new.self) (g.D.CacheDoor.view c.leave.new.self) c.leave.ensures.state c.take_bytes-taken.ensures.state (g.met.D.CacheDoor.later _ _ c.take_bytes-taken.ensures.stays).actor

pub returns-in-Copied-clause-copies : goal.returns-in-Copied-clause-copies
returns-in-Copied-clause-copies g c = copies_true _ _ _ _

pub returns-in-Waiting-clause-left : goal.returns-in-Waiting-clause-left
returns-in-Waiting-clause-left g c = left_by (g.D.CacheDoor.view c.args.door.now) (g.D.CacheDoor.view c.take_bytes-taken.new.self) (g.D.CacheDoor.view c.leave.new.self) c.leave.ensures.state c.take_bytes-taken.ensures.state (g.met.D.CacheDoor.later _ _ c.take_bytes-taken.ensures.stays).actor

pub returns-in-Waiting-clause-copies : goal.returns-in-Waiting-clause-copies
returns-in-Waiting-clause-copies g c = copies_false taken.Waiting (g.D.CacheDoor.view c.args.door.now) (g.D.CacheDoor.view c.take_bytes-taken.new.self) (g.D.CacheDoor.view c.leave.new.self) (λ e. (cc)) c.in-Waiting.ensures.answer c.in-Waiting.ensures.fault (g.met.D.CacheDoor.later _ _ c.leave.ensures.stays).faults

pub returns-in-Failed-clause-left : goal.returns-in-Failed-clause-left
returns-in-Failed-clause-left g c = left_by (g.D.CacheDoor.view c.args.door.now) (g.D.CacheDoor.view c.take_bytes-taken.new.self) (g.D.CacheDoor.view c.leave.new.self) c.leave.ensures.state c.take_bytes-taken.ensures.state (g.met.D.CacheDoor.later _ _ c.take_bytes-taken.ensures.stays).actor

pub returns-in-Failed-clause-copies : goal.returns-in-Failed-clause-copies
returns-in-Failed-clause-copies g c = copies_false taken.Failed (g.D.CacheDoor.view c.args.door.now) (g.D.CacheDoor.view c.take_bytes-taken.new.self) (g.D.CacheDoor.view c.leave.new.self) (λ e. (cc)) c.in-Failed.ensures.answer c.in-Failed.ensures.fault (g.met.D.CacheDoor.later _ _ c.leave.ensures.stays).faults

pub returns-in-FrameFault-clause-left : goal.returns-in-FrameFault-clause-left
returns-in-FrameFault-clause-left g c = left_by (g.D.CacheDoor.view c.args.door.now) (g.D.CacheDoor.view c.take_bytes-taken.new.self) (g.D.CacheDoor.view c.leave.new.self) c.leave.ensures.state c.take_bytes-taken.ensures.state (g.met.D.CacheDoor.later _ _ c.take_bytes-taken.ensures.stays).actor

pub returns-in-FrameFault-clause-copies : goal.returns-in-FrameFault-clause-copies
returns-in-FrameFault-clause-copies g c = copies_false taken.FrameFault (g.D.CacheDoor.view c.args.door.now) (g.D.CacheDoor.view c.take_bytes-taken.new.self) (g.D.CacheDoor.view c.leave.new.self) (λ e. (cc)) c.in-FrameFault.ensures.answer c.in-FrameFault.ensures.fault (g.met.D.CacheDoor.later _ _ c.leave.ensures.stays).faults
