use Rattle.std.proofs.Common.{◌≡◌, ◌+◌, Bool, List, length, sym, ap, subst, refl, ◌∙◌, arith}
use Rattle.std.specs.Vec.{with_items}
use Rattle.std.proofs.lemmas.List.{with_items_is}
use Rattle.doc_bits.specs.Counts.{counted}
use Rattle.doc_bits.specs.Places.{zip_with}
use Rattle.doc_bits.specs.Planes.{number, digits_at, counts_of, AreLaidOut}
use Rattle.doc_bits.proofs.PlaneLemmas.{length-counts_of, all_long, count_le, each_added, laid_out_added, counts_added}
use Rattle.doc_bits.proofs.tally.Tally.add.Goals as goal

pub copy_from-requires : goal.copy_from-requires
copy_from-requires c = sym (c.requires.same_length ∙ ap (λ t. length t.counts) (sym c.self.view_is) ∙ length-counts_of _ _)

pub add_carry-requires-clause-long : goal.add_carry-requires-clause-long
add_carry-requires-clause-long c =
    let held = ap (λ t. length t.counts) (sym c.self.view_is) ∙ length-counts_of _ _ in
    all_long c.self.inside.planes.items c.deref_mut.result.now (length c.self.inside.carry) (length c.copy_from.new.self) c.deref_mut.ensures.value
    (ap length c.copy_from.ensures ∙ c.requires.same_length ∙ held) c.self.invariant.each_long

pub add_carry-requires-clause-room : goal.add_carry-requires-clause-room
add_carry-requires-clause-room c i low =
    let held = ap (λ t. length t.counts) (sym c.self.view_is) ∙ length-counts_of (length c.self.inside.carry) c.self.inside.planes.items in
    let long = ap length c.copy_from.ensures ∙ c.requires.same_length ∙ held in
    let few = count_le c.self.inside.added (length c.self.inside.carry) c.self.inside.planes.items i c.self.invariant (omega arith) in
    let same = ap (λ ps. number (digits_at ps i)) c.deref_mut.ensures.value in
    let enough = c.planes_for.ensures.enough in
    omega arith

pub invariant_of-self : goal.invariant_of-self
invariant_of-self c =
    let old = c.self.inside.planes.items in
    let new = c.add_carry.new.planes in
    let len = length c.self.inside.carry in
    let held = ap (λ t. length t.counts) (sym c.self.view_is) ∙ length-counts_of len old in
    let long = c.requires.same_length ∙ held in
    let copy = ap length c.copy_from.ensures ∙ long in
    let many : length new ≡ length old = c.add_carry.auto.planes ∙ ap length c.deref_mut.ensures.value in
    let items : (with_items c.self.inside.planes new).items ≡ new = with_items_is c.self.inside.planes new (many ∙ sym c.self.inside.planes.ok.0) in
    let value = ap (λ t. t.added) c.self.view_is in
    let room = c.requires.room in
    let P : List (List Bool) → Type 0 = AreLaidOut (c.self.inside.added + 1) (length c.add_carry.new.carry) in
    subst P (sym items)
    (laid_out_added c.self.inside.added len old new c.args.bits.now c.add_carry.new.carry (omega arith) long (c.add_carry.ensures.carry_long ∙ copy) many
    (all_long new new (length c.copy_from.new.self) len refl (sym copy) c.add_carry.ensures.long)
    (each_added old new c.deref_mut.result.now c.args.bits.now c.copy_from.new.self len c.deref_mut.ensures.value c.copy_from.ensures long c.add_carry.ensures.counts)
    c.self.invariant)

pub returns-clause-counts : goal.returns-clause-counts
returns-clause-counts c =
    let old = c.self.inside.planes.items in
    let new = c.add_carry.new.planes in
    let len = length c.self.inside.carry in
    let held = ap (λ t. length t.counts) (sym c.self.view_is) ∙ length-counts_of len old in
    let long = c.requires.same_length ∙ held in
    let copy = ap length c.copy_from.ensures ∙ long in
    let many : length new ≡ length old = c.add_carry.auto.planes ∙ ap length c.deref_mut.ensures.value in
    let items : (with_items c.self.inside.planes new).items ≡ new = with_items_is c.self.inside.planes new (many ∙ sym c.self.inside.planes.ok.0) in
    rw items
    (ap (λ n. counts_of n new) (c.add_carry.ensures.carry_long ∙ copy)
    ∙ counts_added len old new c.args.bits.now long
    (each_added old new c.deref_mut.result.now c.args.bits.now c.copy_from.new.self len c.deref_mut.ensures.value c.copy_from.ensures long c.add_carry.ensures.counts)
    ∙ ap (λ t. zip_with counted t.counts c.args.bits.now) c.self.view_is)

pub returns-clause-length : goal.returns-clause-length
returns-clause-length c = length-counts_of _ _ ∙ c.add_carry.ensures.carry_long ∙ ap length c.copy_from.ensures ∙ c.requires.same_length
