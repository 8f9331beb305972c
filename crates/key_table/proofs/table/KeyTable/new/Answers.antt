use Rattle.std.proofs.Common.{arith, rules, ◌≡◌, ◌<◌, ◌∙◌, sym, Option, Some, None}
use Rattle.std.proofs.lemmas.List.{length-replicate}
use Rattle.std.proofs.lemmas.Nat.{pow_pos}
use Rattle.key_table.specs.declared.places.Entry.{Entry}
use Rattle.key_table.proofs.Calls.{no_entry, no_region, no_keys}
use Rattle.key_table.proofs.table.KeyTable.new.Goals as goal

pub invariant_of-result : goal.invariant_of-result
invariant_of-result c =
    let slots = c.in_ok-vec.ensures.items_if_clones_equal (λ y h. search rules) in
    let size = c.next_power_of_two-size.result in
    let power = c.next_power_of_two-size.ensures.power in
    let count = length-replicate {A = Option Entry} size None in
    let some : 0 < size = rw power.1 (pow_pos power.0) in
    rw slots (record {
      size = rw count (c.next_power_of_two-size.ensures.power, c.next_power_of_two-size.ensures.lower_bound, c.next_power_of_two-size.ensures.upper_bound);
      some = rw count some;
      apart = λ s t e g a b i. absurd (let bad : None ≡ Some e = sym (no_entry size s) ∙ a in cc);
      reached = λ s e m a h le. absurd (let bad : None ≡ Some e = sym (no_entry size s) ∙ a in cc);
      room = omega (arith, no_keys size);
      few = omega arith;
    })

pub returns-clause-empty : goal.returns-clause-empty
returns-clause-empty c key =
    let slots = c.in_ok-vec.ensures.items_if_clones_equal (λ y h. search rules) in
    let size = c.next_power_of_two-size.result in
    rw slots (no_region key size)

pub returns-clause-len : goal.returns-clause-len
returns-clause-len c =
    let slots = c.in_ok-vec.ensures.items_if_clones_equal (λ y h. search rules) in
    let size = c.next_power_of_two-size.result in
    rw slots (no_keys size)
