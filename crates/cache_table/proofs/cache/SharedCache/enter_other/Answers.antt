use Rattle.std.proofs.Common.{arith, ◌≡◌, ◌<◌, ◌∙◌, ℕ, List, sym, subst, ap, refl, Some}
use Rattle.std.specs.Prelude.{◌==◌, if◌then◌else◌, IsTrue}
use Rattle.atomic_table.specs.Table.{rest}
use Rattle.region_ranges.specs.Keys.{tag_of as key_tag}
use Rattle.cache_policy.specs.Policy.{PolicyView, tag_at}
use Rattle.region_cell.specs.Cells.{CellView, CellMetadata, claim_run}
use Rattle.cache_door.specs.declared.hold.Hold.{Hold}
use Rattle.cache_table.specs.Rule.{place}
use Rattle.cache_table.specs.Plays.{popped}
use Rattle.cache_table.specs.Calls.{Stays-on}
use Rattle.cache_table.specs.Entries.{IsChoice, blank}
use Rattle.cache_table.proofs.Turned.{moves_as, moves_fresh, some_run}
use Rattle.cache_table.proofs.Entered.{changes_new, held_new, faults_on}
use Rattle.cache_table.proofs.cache.SharedCache.enter_other.Goals as goal

pub give_cell-requires-2-clause-place : goal.give_cell-requires-2-clause-place
give_cell-requires-2-clause-place g c = (omega arith, (let p = c.in-Some.ensures.place in omega arith), c.in-Some.ensures.cell.0, omega arith)

pub give_cell-requires-2-clause-changes : goal.give_cell-requires-2-clause-changes
give_cell-requires-2-clause-changes g c = let h = c.claim_anew-gap.ensures.hold in
    changes_new (place c.in-Some.region) c.in-Some.word c.pack.result c.choose.new.seat.me.0.hold c.claim_anew-gap.result.0 c.choose.ensures.hold (ap (λ (z : Hold). place z.region) h) (ap (λ (z : Hold). z.tag) h ∙ sym c.pack.ensures.value) c.in-Some.ensures.cell.0 c.in-Some.ensures.cell.1

pub give_cell-requires-2-clause-moves : goal.give_cell-requires-2-clause-moves
give_cell-requires-2-clause-moves g c =
    let k = c.claim_anew-gap.ensures in let x = c.in-Some.boxed in let y = c.reserve.new.self in let e = c.in-Some.ensures.cell in
    moves_as (place c.in-Some.region) c.choose.ensures.hold (ap (λ (h : Hold). Some h) k.hold) (ap (λ (n : CellMetadata). n.region.tracker) (sym e.2)) (ap (λ (v : CellView). v.metadata.region.tracker) k.cell)
    (moves_fresh c.ticket_weights.ensures c.gap_weights.ensures (place c.in-Some.region) y.metadata.range c.in-Some.region c.args.want.now x.metadata.region.tracker (blank c.args.want.now) refl (e.4.none e.1) (refl, refl) (some_run _ _ _ _ _ k.gap k.inside))

pub returns-clause-within : goal.returns-clause-within
returns-clause-within g c =
    let t = c.requires.turn in let s = c.choose.ensures.scanned in let e = c.give_cell-2.ensures in let m = c.args.seat.now.me.0 in let n = c.choose.new.seat.me.0 in
    let w = c.give_cell-2.new.seat.me.0 in let x = c.in-Some.boxed in let cell = c.in-Some.ensures.cell in
    let same : c.reserve.new.self.metadata ≡ x.metadata = ap (λ (v : CellView). v.metadata) c.in_default-reserve.ensures.ok ∙ ap (λ (v : CellView). v.metadata) c.get_mut-cell.ensures.value in
    record {
      turn = record {
        turns = e.turn ∙ ap popped c.in-Some.ensures.turn.0 ∙ t.turns;
        slots = e.out ∙ ap rest c.in-Some.ensures.turn.1 ∙ t.slots;
        shares = subst (λ (k : ℕ). 0 < k) (sym (e.stays.shares ∙ s.stays.shares)) t.shares;
        about = e.stays.about ∙ s.stays.about ∙ t.about;
      };
      stays = Stays-on m n w s.stays e.stays;
      hold = e.hold;
      taken = e.cache.taken ∙ s.cache.taken;
      cache_turns = e.cache.cache_turns ∙ s.cache.cache_turns;
      mount_word = e.cache.mount_word ∙ s.cache.mount_word;
      faults = faults_on c.args.self.now.about m n w n.cell.frame.faults c.claim_anew-gap.new.cell.metadata.frame.faults s.faults e.faults
          (λ (steady : IsTrue c.args.self.now.about.steady). let z = cell.3.good.unfailed (cell.3.steady steady) in (
            ap (λ (k : CellMetadata). k.frame.faults) (sym cell.2) ∙ z,
            ap (λ (v : CellView). v.metadata.frame.faults) c.claim_anew-gap.ensures.cell ∙ ap (λ (k : CellMetadata). k.frame.faults) same ∙ z,
          ));
    }

pub returns-clause-held : goal.returns-clause-held
returns-clause-held g c =
    let k = c.claim_anew-gap.ensures in let y = c.reserve.new.self in
    let range : y.metadata.range ≡ c.args.self.now.about.config.range = ap (λ (v : CellView). v.metadata.range) c.in_default-reserve.ensures.ok ∙ ap (λ (v : CellView). v.metadata.range) c.get_mut-cell.ensures.value ∙ c.in-Some.ensures.cell.3.range in
    held_new c.args.self.now.about c.args.want.now c.in-Some.region y.metadata.range c.claim_anew-gap.result.0 c.claim_anew-gap.result.1 (blank c.args.want.now) k.hold k.gap range c.in-Some.ensures.place k.inside

pub returns-clause-chosen : goal.returns-clause-chosen
returns-clause-chosen g c =
    let want = c.args.want.now in let r = c.in-Some.region in
    let range : c.reserve.new.self.metadata.range ≡ c.args.self.now.about.config.range = ap (λ (v : CellView). v.metadata.range) c.in_default-reserve.ensures.ok ∙ ap (λ (v : CellView). v.metadata.range) c.get_mut-cell.ensures.value ∙ c.in-Some.ensures.cell.3.range in (
      subst (λ (l : List ℕ). IsChoice r c.args.policy.now l) (sym c.give_cell-2.ensures.note.0) c.in-Some.ensures.choice,
      c.claim_anew-gap.ensures.gap ∙ ap (λ (n : ℕ). claim_run n want.sub (blank want)) range,
      λ s. c.map_chosen.ensures.tags s ∙ ap (λ (z : PolicyView). if s == r then Some (key_tag want.key) else tag_at z s) c.choose.ensures.passed.1,
    )
