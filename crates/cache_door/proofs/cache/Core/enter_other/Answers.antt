use Rattle.std.proofs.Common.{◌∙◌, ap, sym, max}
use Rattle.region_ranges.specs.Keys.{tag_of}
use Rattle.cache_policy.specs.Ageing.{map_front}
use Rattle.region_cell.specs.Cells.{assign}
use Rattle.cache_door.specs.declared.answers.Entered.{Entered}
use Rattle.cache_door.specs.Machine.{State, room_by}
use Rattle.cache_door.specs.Cores.{view_at}
use Rattle.cache_door.proofs.Enters.{reserved_later, roomed_inside, roomed_find, other_entry, policy_later, assigned_later}
use Rattle.cache_door.specs.Counters.{counters_roomed, counters_mapped}
use Rattle.cache_door.specs.Stays.{later_on}
use Rattle.cache_door.proofs.cache.Core.enter_other.Goals as goal

pub assign-requires-clause-new : goal.assign-requires-clause-new
assign-requires-clause-new g c =
    let u = c.args.self.now in
    let r = c.in-Some.region in
    roomed_find u c.reserve.new.self r (max (view_at u.cells r).spare 1) c.in-Some.ensures.inside c.in_ok-reserve.ensures.ok c.make_room.new.self (tag_of c.args.want.now.key) c.make_room.ensures c.requires.new

pub returns-clause-answer : goal.returns-clause-answer
returns-clause-answer g c =
    let u = c.args.self.now in
    let r = c.in-Some.region in
    let n = max (view_at u.cells r).spare 1 in
    let inside = roomed_inside u c.reserve.new.self r n c.in-Some.ensures.inside c.in_ok-reserve.ensures.ok c.make_room.new.self (room_by c.reserve.new.self.holds c.reserve.new.self.policy) c.make_room.ensures in
    c.hold.ensures.answer ∙ ap (λ (e : Entered × State). e.0) (other_entry u c.reserve.new.self r n c.in-Some.ensures.inside c.in_ok-reserve.ensures.ok c.make_room.new.self c.args.actor c.args.now c.args.want.now c.assign.new.self c.make_room.ensures inside c.assign.ensures.assigned (sym c.in-Some.ensures.region))

pub returns-clause-state : goal.returns-clause-state
returns-clause-state g c =
    let u = c.args.self.now in
    let r = c.in-Some.region in
    let n = max (view_at u.cells r).spare 1 in
    let inside = roomed_inside u c.reserve.new.self r n c.in-Some.ensures.inside c.in_ok-reserve.ensures.ok c.make_room.new.self (room_by c.reserve.new.self.holds c.reserve.new.self.policy) c.make_room.ensures in
    c.hold.ensures.state ∙ ap (λ (e : Entered × State). e.1) (other_entry u c.reserve.new.self r n c.in-Some.ensures.inside c.in_ok-reserve.ensures.ok c.make_room.new.self c.args.actor c.args.now c.args.want.now c.assign.new.self c.make_room.ensures inside c.assign.ensures.assigned (sym c.in-Some.ensures.region))

pub returns-clause-later : goal.returns-clause-later
returns-clause-later g c =
    let u = c.args.self.now in
    let r = c.in-Some.region in
    let n = max (view_at u.cells r).spare 1 in
    let p = room_by c.reserve.new.self.holds c.reserve.new.self.policy in
    let w = c.make_room.new.self in
    let inside = roomed_inside u c.reserve.new.self r n c.in-Some.ensures.inside c.in_ok-reserve.ensures.ok w p c.make_room.ensures in
    later_on (reserved_later u c.reserve.new.self r n c.in-Some.ensures.inside c.in_ok-reserve.ensures.ok)
    (later_on (policy_later c.reserve.new.self w p (counters_roomed c.reserve.new.self.holds c.reserve.new.self.policy) c.make_room.ensures)
    (later_on (assigned_later w c.assign.new.self r (assign (tag_of c.args.want.now.key) c.args.want.now.len (view_at w.cells r).metadata.region) (map_front r (tag_of c.args.want.now.key) c.args.now w.policy) (counters_mapped r (tag_of c.args.want.now.key) c.args.now w.policy) inside c.assign.ensures.assigned) c.hold.ensures.later))
