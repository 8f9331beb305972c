use Rattle.std.proofs.Common.{arith, ◌∙◌, ap, max}
use Rattle.region_ranges.specs.Keys.{tag_of}
use Rattle.cache_policy.specs.Ageing.{touch}
use Rattle.cache_door.specs.declared.answers.Entered.{Entered}
use Rattle.cache_door.specs.Machine.{State}
use Rattle.cache_door.specs.Cores.{view_at}
use Rattle.cache_door.proofs.Entries.{mapped_cells}
use Rattle.cache_door.proofs.Enters.{reserved_later, mapped_entry, policy_later}
use Rattle.cache_door.specs.Counters.{counters_touched}
use Rattle.cache_door.specs.Stays.{later_on}
use Rattle.cache_door.proofs.cache.Core.enter_mapped.Goals as goal

pub returns-clause-answer : goal.returns-clause-answer
returns-clause-answer g c =
    let u = c.args.self.now in
    let r = c.args.region in
    let within = mapped_cells u c.lesson.ensures r (tag_of c.args.want.now.key) c.requires.mapped in
    c.hold.ensures.answer ∙ ap (λ (e : Entered × State). e.0) (mapped_entry u c.reserve.new.self r (max (view_at u.cells r).spare 1) within c.in_ok-reserve.ensures.ok c.touch.new.self c.args.actor c.args.now c.args.want.now c.touch.ensures.touched (omega (arith, c.len_at.ensures, c.if-len_at-want.false)))

pub returns-clause-state : goal.returns-clause-state
returns-clause-state g c =
    let u = c.args.self.now in
    let r = c.args.region in
    let within = mapped_cells u c.lesson.ensures r (tag_of c.args.want.now.key) c.requires.mapped in
    c.hold.ensures.state ∙ ap (λ (e : Entered × State). e.1) (mapped_entry u c.reserve.new.self r (max (view_at u.cells r).spare 1) within c.in_ok-reserve.ensures.ok c.touch.new.self c.args.actor c.args.now c.args.want.now c.touch.ensures.touched (omega (arith, c.len_at.ensures, c.if-len_at-want.false)))

pub returns-clause-later : goal.returns-clause-later
returns-clause-later g c =
    let u = c.args.self.now in
    let r = c.args.region in
    let within = mapped_cells u c.lesson.ensures r (tag_of c.args.want.now.key) c.requires.mapped in
    later_on (reserved_later u c.reserve.new.self r (max (view_at u.cells r).spare 1) within c.in_ok-reserve.ensures.ok) (later_on (policy_later c.reserve.new.self c.touch.new.self (touch r c.args.now c.reserve.new.self.policy) (counters_touched r c.args.now c.reserve.new.self.policy) c.touch.ensures.touched) c.hold.ensures.later)
