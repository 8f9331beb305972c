use Rattle.std.proofs.Common.{ℕ}
use Rattle.cache_table.specs.Calls.{PassedOver}
use Rattle.cache_table.specs.Entries.{EntersBy, EntersChosen, IsFull, FindsNoRoom}
use Rattle.cache_table.proofs.Chosen.{enters_other, finds_no_room}
use Rattle.cache_table.proofs.Doors.{on_err}
use Rattle.cache_table.proofs.Entered.{some_more, none_more, none_is, left_none}
use Rattle.cache_table.proofs.cache.SharedCache.enter_key.Goals as goal

pub returns-in_err-held-clause-memory : goal.returns-in_err-held-clause-memory
returns-in_err-held-clause-memory g c = on_err _ (left_none c.args.want.now c.args.policy.now c.enter_known.new.policy c.enter_known.new.seat.me.0 c.in_err-held.ensures.err)

pub returns-clause-entry : goal.returns-clause-entry
returns-clause-entry g c =
    let a = c.args.self.now.about in let want = c.args.want.now in let p = c.args.policy.now in let o = c.enter_known.new.policy in
    let q = c.enter_other.new.policy in let v = c.enter_other.new.seat.me.0 in let noted = c.enter_known.new.seat.me.0.noted in
    some_more _ (λ e. EntersChosen a want e o q v) (λ e. EntersBy a want c.args.now e p q v)
    (λ e. enters_other c.candidates_left.ensures a want c.args.now noted p o q e v c.requires.policy.good (none_is _ _ c.in_default.is c.in_ok-held.ensures.unmapped) c.enter_other.ensures.noted) c.enter_other.ensures.chosen

pub returns-clause-full : goal.returns-clause-full
returns-clause-full g c =
    let a = c.args.self.now.about in let want = c.args.want.now in let p = c.args.policy.now in let o = c.enter_known.new.policy in
    let q = c.enter_other.new.policy in let v = c.enter_other.new.seat.me.0 in let noted = c.enter_known.new.seat.me.0.noted in
    none_more _ (IsFull o v.found_held) ((n : ℕ) × PassedOver n o q) (FindsNoRoom a want p q v)
    (λ full over. finds_no_room a want noted over.0 p o q v c.requires.policy.good c.enter_known.ensures.policy (none_is _ _ c.in_default.is c.in_ok-held.ensures.unmapped) c.enter_other.ensures.noted full over.1)
    c.enter_other.ensures.full c.enter_other.ensures.passed
