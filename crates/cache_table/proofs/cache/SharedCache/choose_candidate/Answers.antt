use Rattle.std.proofs.Common.{arith, ◌≡◌, ◌+◌, ◌∙◌, sym, take, Some, []}
use Rattle.std.specs.Prelude.{slice_get}
use Rattle.cache_policy.specs.Ageing.{candidates}
use Rattle.cache_door.proofs.Walks.{candidate_left}
use Rattle.cache_table.proofs.Chosen.{found_more, found_get, found_end, scanned_on}
use Rattle.cache_table.proofs.cache.SharedCache.choose_candidate.Goals as goal

pub loop-next-smaller : goal.loop-next-smaller
loop-next-smaller g c =
    rw c.next_candidate-next-in-Some.ensures.rule (candidate_left [] c.args.policy.now c.lesson.ensures.good c.loop-next.next c.in-Some.region c.in-Some.is (rw c.in-Some.is at c.loop-next.invariant.6))

pub loop-next-preserved : goal.loop-next-preserved
loop-next-preserved g c =
    let i = c.loop-next.invariant in let e = c.examine.ensures in let none = c.in_default-examine.ensures.none in let r = c.in-Some.region in let n = i.5.0 in
    let xs = candidates c.args.policy.now in
    let get : slice_get xs n ≡ Some r = sym i.5.1 ∙ c.in-Some.is in (
      e.id.0 ∙ i.0,
      e.id.1 ∙ i.1,
      none.0,
      scanned_on c.args.self.now.about c.args.seat.now.me.0 c.loop-next.seat.me.0 c.examine.new.seat.me.0 i.3 e.scanned,
      e.hold,
      (
        n + 1,
        c.next_candidate-next-in-Some.ensures.place n get,
        found_get n r xs c.examine.new.seat.me.0.found_held get (found_more (take n xs) c.loop-next.seat.me.0.found_held c.examine.new.seat.me.0.found_held r e.scanned.found i.5.2 none.1),
      ),
      c.next_candidate-next-in-Some.ensures.mapped,
    )

pub returns-clause-none : goal.returns-clause-none
returns-clause-none g c =
    let i = c.loop-next.invariant in let p = c.args.policy.now in
    (i.2, λ r h. found_end i.5.0 (candidates p) c.loop-next.seat.me.0.found_held (sym i.5.1 ∙ c.in_default.is) i.5.2 r (let l = c.lesson.ensures.listed r in omega arith))
