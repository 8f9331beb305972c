use Rattle.std.proofs.Common.{arith, ◌≡◌, ℕ, List, subst, ap, take, Some, inr}
use Rattle.std.specs.Prelude.{slice_get}
use Rattle.freq_lists.specs.Lists.{times}
use Rattle.cache_policy.specs.Policy.{PolicyView}
use Rattle.cache_policy.specs.Ageing.{candidates}
use Rattle.cache_table.specs.Calls.{FoundAll}
use Rattle.cache_table.proofs.Chosen.{found_later, found_free, found_leaving}
use Rattle.cache_table.proofs.cache.SharedCache.choose.Goals as goal

pub returns-in-Some-choose_candidate-clause-choice : goal.returns-in-Some-choose_candidate-clause-choice
returns-in-Some-choose_candidate-clause-choice g c =
    let p = c.args.policy.now in let q = c.choose_free.new.policy in let f = c.choose_free.ensures.passed in
    let f0 = c.choose_free.new.seat.me.0.found_held in let f1 = c.choose_leaving.new.seat.me.0.found_held in let f2 = c.choose_candidate.new.seat.me.0.found_held in
    let m1 = c.choose_leaving.ensures.scanned.found in let m2 = c.choose_candidate.ensures.scanned.found in
    let k = c.in-Some-choose_candidate.ensures.earlier in
    let same : candidates q ≡ candidates p = ap candidates f.1 in
    inr (
      k.0,
      subst (λ (l : List ℕ). slice_get l k.0 ≡ Some c.in-Some-choose_candidate.vacant.0) same k.1,
      subst (λ (l : List ℕ). FoundAll (take k.0 l) f2) same k.2,
      found_later p.free f1 f2 m2 (found_later p.free f0 f1 m1 (found_free f.0 p q f0 f.1 c.in_default.ensures.none.1 f.2)),
      found_later p.leaving f1 f2 m2 (found_leaving f.0 p q f1 f.1 c.in_default-choose_leaving.ensures.none.1),
    )

pub returns-clause-none : goal.returns-clause-none
returns-clause-none g c =
    let p = c.args.policy.now in let q = c.choose_free.new.policy in let f = c.choose_free.ensures.passed in
    let f0 = c.choose_free.new.seat.me.0.found_held in let f1 = c.choose_leaving.new.seat.me.0.found_held in let f2 = c.choose_candidate.new.seat.me.0.found_held in
    let m1 = c.choose_leaving.ensures.scanned.found in let m2 = c.choose_candidate.ensures.scanned.found in
    let last = c.in_default-choose_candidate.ensures.none in (
      last.0,
      record {
        free = found_later p.free f1 f2 m2 (found_later p.free f0 f1 m1 (found_free f.0 p q f0 f.1 c.in_default.ensures.none.1 f.2));
        leaving = found_later p.leaving f1 f2 m2 (found_leaving f.0 p q f1 f.1 c.in_default-choose_leaving.ensures.none.1);
        mapped = λ r h. last.1 r (let e = ap (λ (z : PolicyView). times r z.lists) f.1 in omega arith);
      },
    )
