use Rattle.std.proofs.Common.{◌≡◌, sym, subst, Some}
use Rattle.region_ranges.specs.Keys.{tag_of}
use Rattle.cache_policy.specs.Policy.{tag_at}
use Rattle.cache_door.specs.Cores.{CoreView, core_view}
use Rattle.cache_door.proofs.Entries.{mapped_cells, hold_all, hold_entry, hold_lies, first_fact}
use Rattle.cache_door.proofs.cache.Core.hold.Goals as goal

pub claim-gap-requires-clause-lies : goal.claim-gap-requires-clause-lies
claim-gap-requires-clause-lies g c =
    let i = c.self.inside in
    let M : CoreView → Type 0 = λ q. tag_at q.policy c.args.region ≡ Some (tag_of c.args.want.now.key) in
    let within = mapped_cells (core_view i.config i.policy i.cells.items i.holds.items i.gone.items i.work) c.self.invariant c.args.region (tag_of c.args.want.now.key) (subst M (sym c.self.view_is) c.requires.mapped) in
    hold_lies (core_view i.config i.policy i.cells.items i.holds.items i.gone.items i.work) c.args.self.now c.self.view_is c.self.invariant c.args.actor c.args.region c.args.want.now c.index_mut-cell.result.now within c.index_mut-cell.ensures.value c.requires.actor c.requires.free c.requires.mapped c.requires.want c.requires.len

pub invariant_of-self : goal.invariant_of-self
invariant_of-self g c =
    let i = c.self.inside in
    let M : CoreView → Type 0 = λ q. tag_at q.policy c.args.region ≡ Some (tag_of c.args.want.now.key) in
    let within = mapped_cells (core_view i.config i.policy i.cells.items i.holds.items i.gone.items i.work) c.self.invariant c.args.region (tag_of c.args.want.now.key) (subst M (sym c.self.view_is) c.requires.mapped) in
    (hold_all (core_view i.config i.policy i.cells.items i.holds.items i.gone.items i.work) c.args.self.now c.self.view_is c.self.invariant c.args.actor c.args.region c.args.want.now c.index_mut-cell.result.now within c.index_mut-cell.ensures.value c.requires.actor c.requires.free c.requires.mapped c.claim-gap.new.cell c.claim-gap.result.0 c.claim-gap.result.1 c.claim-gap.ensures.cell c.claim-gap.ensures.good c.claim-gap.ensures.hold c.claim-gap.ensures.gap (first_fact c.claim-gap.result.1 _ _ _ c.claim-gap.ensures.inside) c.ticket_weights.ensures c.gap_weights.ensures).0

pub returns-clause-answer : goal.returns-clause-answer
returns-clause-answer g c =
    let i = c.self.inside in
    let M : CoreView → Type 0 = λ q. tag_at q.policy c.args.region ≡ Some (tag_of c.args.want.now.key) in
    let within = mapped_cells (core_view i.config i.policy i.cells.items i.holds.items i.gone.items i.work) c.self.invariant c.args.region (tag_of c.args.want.now.key) (subst M (sym c.self.view_is) c.requires.mapped) in
    (hold_all (core_view i.config i.policy i.cells.items i.holds.items i.gone.items i.work) c.args.self.now c.self.view_is c.self.invariant c.args.actor c.args.region c.args.want.now c.index_mut-cell.result.now within c.index_mut-cell.ensures.value c.requires.actor c.requires.free c.requires.mapped c.claim-gap.new.cell c.claim-gap.result.0 c.claim-gap.result.1 c.claim-gap.ensures.cell c.claim-gap.ensures.good c.claim-gap.ensures.hold c.claim-gap.ensures.gap (first_fact c.claim-gap.result.1 _ _ _ c.claim-gap.ensures.inside) c.ticket_weights.ensures c.gap_weights.ensures).3

pub returns-clause-state : goal.returns-clause-state
returns-clause-state g c =
    let i = c.self.inside in
    let M : CoreView → Type 0 = λ q. tag_at q.policy c.args.region ≡ Some (tag_of c.args.want.now.key) in
    let within = mapped_cells (core_view i.config i.policy i.cells.items i.holds.items i.gone.items i.work) c.self.invariant c.args.region (tag_of c.args.want.now.key) (subst M (sym c.self.view_is) c.requires.mapped) in
    (hold_all (core_view i.config i.policy i.cells.items i.holds.items i.gone.items i.work) c.args.self.now c.self.view_is c.self.invariant c.args.actor c.args.region c.args.want.now c.index_mut-cell.result.now within c.index_mut-cell.ensures.value c.requires.actor c.requires.free c.requires.mapped c.claim-gap.new.cell c.claim-gap.result.0 c.claim-gap.result.1 c.claim-gap.ensures.cell c.claim-gap.ensures.good c.claim-gap.ensures.hold c.claim-gap.ensures.gap (first_fact c.claim-gap.result.1 _ _ _ c.claim-gap.ensures.inside) c.ticket_weights.ensures c.gap_weights.ensures).1

pub returns-clause-entry : goal.returns-clause-entry
returns-clause-entry g c =
    let i = c.self.inside in
    let M : CoreView → Type 0 = λ q. tag_at q.policy c.args.region ≡ Some (tag_of c.args.want.now.key) in
    let within = mapped_cells (core_view i.config i.policy i.cells.items i.holds.items i.gone.items i.work) c.self.invariant c.args.region (tag_of c.args.want.now.key) (subst M (sym c.self.view_is) c.requires.mapped) in
    hold_entry (core_view i.config i.policy i.cells.items i.holds.items i.gone.items i.work) c.args.self.now c.self.view_is c.self.invariant c.args.actor c.args.region c.args.want.now c.index_mut-cell.result.now within c.index_mut-cell.ensures.value c.requires.actor c.requires.free c.requires.mapped c.requires.len c.claim-gap.result.1 c.claim-gap.ensures.inside

pub returns-clause-later : goal.returns-clause-later
returns-clause-later g c =
    let i = c.self.inside in
    let M : CoreView → Type 0 = λ q. tag_at q.policy c.args.region ≡ Some (tag_of c.args.want.now.key) in
    let within = mapped_cells (core_view i.config i.policy i.cells.items i.holds.items i.gone.items i.work) c.self.invariant c.args.region (tag_of c.args.want.now.key) (subst M (sym c.self.view_is) c.requires.mapped) in
    (hold_all (core_view i.config i.policy i.cells.items i.holds.items i.gone.items i.work) c.args.self.now c.self.view_is c.self.invariant c.args.actor c.args.region c.args.want.now c.index_mut-cell.result.now within c.index_mut-cell.ensures.value c.requires.actor c.requires.free c.requires.mapped c.claim-gap.new.cell c.claim-gap.result.0 c.claim-gap.result.1 c.claim-gap.ensures.cell c.claim-gap.ensures.good c.claim-gap.ensures.hold c.claim-gap.ensures.gap (first_fact c.claim-gap.result.1 _ _ _ c.claim-gap.ensures.inside) c.ticket_weights.ensures c.gap_weights.ensures).2
