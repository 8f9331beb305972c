use Rattle.std.proofs.Common.{arith, ◌≤◌, ◌∙◌, sym, add-one}
use Rattle.freq_lists.specs.Lists.{times_in}
use Rattle.cache_policy.specs.Fields.{view_of}
use Rattle.cache_policy.proofs.Candidates.{next_place, head_times, next_times}
use Rattle.cache_policy.proofs.Places.{candidate_times}
use Rattle.cache_policy.specs.Ageing.{candidates_in}
use Rattle.cache_policy.proofs.Good.{at_most_one}
use Rattle.cache_policy.proofs.Mapped.{mapped_all}
use Rattle.cache_policy.proofs.policy.Policy.next_candidate.Goals as goal

pub returns-in-None-clause-mapped : goal.returns-in-None-clause-mapped
returns-in-None-clause-mapped c =
    let f = c.self.inside in
    rw (← c.self.view_is) (mapped_all (view_of f) c.self.invariant.good c.first_from.result (λ r e. head_times r (candidates_in f.lists.lists) (sym c.first_from.ensures ∙ e)))

pub returns-in-Some-clause-place : goal.returns-in-Some-clause-place
returns-in-Some-clause-place c = rw c.in-Some.is (λ i h.
    let f = c.self.inside in
    let r = c.in-Some.region in
    let g = rw (← c.self.view_is) at h in
    let once : times_in r (candidates_in f.lists.lists) ≤ 1 = omega (arith, candidate_times r f.lists.lists, at_most_one (view_of f) c.self.invariant.good r) in
    rw (← c.self.view_is, add-one i) (c.behind.ensures ∙ next_place r i (candidates_in f.lists.lists) once g))

pub returns-in-Some-clause-mapped : goal.returns-in-Some-clause-mapped
returns-in-Some-clause-mapped c =
    let f = c.self.inside in
    rw (← c.self.view_is) (mapped_all (view_of f) c.self.invariant.good c.behind.result (λ r e. next_times c.in-Some.region r (candidates_in f.lists.lists) (sym c.behind.ensures ∙ e)))
