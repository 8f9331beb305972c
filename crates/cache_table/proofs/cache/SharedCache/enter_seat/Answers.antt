use Rattle.std.proofs.Common.{◌∙◌, sym, ap, Ok}
use Rattle.cache_table.specs.Entries.{EntersBy}
use Rattle.cache_table.proofs.Entered.{some_is, left_as, by_as}
use Rattle.cache_table.proofs.cache.SharedCache.enter_seat.Goals as goal

pub returns-in-Err-clause-memory : goal.returns-in-Err-clause-memory
returns-in-Err-clause-memory g c =
    let k = c.enter_key-answer.new.seat.me.0 in let w = c.give_cache-2.new.seat.me.0 in let e = c.give_cache-2.ensures in
    left_as c.args.want.now c.get_mut.result.now w.taken c.enter_key-answer.new.policy w.given k w
    (e.policies.0 ∙ c.enter_key-answer.ensures.within.taken ∙ c.is_gone.ensures.stays.0.policies.0 ∙ sym c.take_cache-word.ensures.policy.0 ∙ sym c.get_mut.ensures.value) e.policies.1 e.note.2 c.in-Err.ensures.memory

pub returns-in-Ok-Some-clause-entry : goal.returns-in-Ok-Some-clause-entry
returns-in-Ok-Some-clause-entry g c =
    let k = c.enter_key-answer.new.seat.me.0 in let w = c.give_cache-2.new.seat.me.0 in let e = c.give_cache-2.ensures in
    let p = c.get_mut.result.now in let q = c.enter_key-answer.new.policy in let a = c.args.self.now.about in
    by_as a c.args.want.now c.args.now c.in-Ok-Some.entered p w.taken q w.given k w
    (e.policies.0 ∙ c.enter_key-answer.ensures.within.taken ∙ c.is_gone.ensures.stays.0.policies.0 ∙ sym c.take_cache-word.ensures.policy.0 ∙ sym c.get_mut.ensures.value) e.policies.1 e.note.2 e.note.1 e.region.1 e.region.2
    (some_is _ (λ t. EntersBy a c.args.want.now c.args.now t.0 p q k) (c.in-Ok-Some.entered, c.in-Ok-Some.hold) (c.in-Ok-Some.is ∙ ap (λ o. Ok o) (rw c.in-Ok-Some.is at c.in-Ok-Some.field-0-is)) c.enter_key-answer.ensures.entry)
