use Rattle.std.proofs.Common.{arith, ◌∙◌, ◌+◌, ◌∷◌, [], ℕ, List, map, ap, sym, subst, refl, Option, add-zero}
use Rattle.std.proofs.lemmas.List.{map-append}
use Rattle.std.specs.Vec.Iter.{into_iter_items, into_iter_len}
use Rattle.cache_table.specs.Views.{PassView}
use Rattle.shared_run.specs.declared.job.Job.{Job}
use Rattle.shared_run.specs.Dealt.{AllDealt, IsDealt}
use Rattle.shared_run.proofs.Deals.{front_more, mapped_more, dealt_more, dealt_from, one_more_share, no_share}
use Rattle.shared_run.proofs.deal.deal.Goals as goal

pub loop-init : goal.loop-init
loop-init g c =
    let J = Job g.row.A.Denot g.row.S.Denot in
    let none = c.requires.none.0 in
    record {
      count = c.requires.none.1;
      space = c.requires.room;
      sources = ap (map (λ (j : J). j.source)) none;
      others = refl;
      left = add-zero (into_iter_len c.args.sources.now);
      replies = ap (map (λ (j : J). j.replies)) none;
      rest = refl;
      rooms = add-zero (into_iter_len c.args.rooms.now);
      shares = subst (λ (js : List J). AllDealt c.args.cache.now c.args.pass.now (map (λ (j : J). j.pass) js)) (sym none) (tt {0});
      idle = c.requires.idle;
      pass = no_share c.args.pass.now;
    }

pub loop-preserved : goal.loop-preserved
loop-preserved g c =
    let J = Job g.row.A.Denot g.row.S.Denot in
    let i = c.loop.invariant in
    let k = c.loop.counter in
    let js = c.loop.jobs.items in
    let job = c.new_job-job.result in
    let told = c.new_job-job.ensures in
    let items = c.in-Ok.ensures.items in
    let room = sym i.rest ∙ c.in-Some.ensures.items in
    let source = sym i.others ∙ c.in-Some-next.ensures.items in
    let from = c.args.pass.now in
    let cache = c.args.cache.now in
    let own : IsDealt cache from job.pass = dealt_from cache k from job.pass (subst (λ (p : PassView). IsDealt cache p job.pass) i.pass told.share) in
    record {
      count = c.in-Ok.ensures.len ∙ ap (λ (n : ℕ). n + 1) i.count;
      space = omega (arith, i.space, c.in-Ok.ensures.capacity);
      sources = ap (map (λ (j : J). j.source)) items
          ∙ mapped_more (λ (j : J). j.source) js job k (into_iter_items c.args.sources.now) c.in-Some-next.source (into_iter_items c.next-in-loop.new.self) source told.source i.sources;
      others = sym (front_more k (into_iter_items c.args.sources.now) c.in-Some-next.source (into_iter_items c.next-in-loop.new.self) source).1;
      left = (let n = c.in-Some-next.ensures.len in omega (arith, n, i.left));
      replies = ap (map (λ (j : J). j.replies)) items
          ∙ mapped_more (λ (j : J). j.replies) js job k (into_iter_items c.args.rooms.now) c.in-Some.replies (into_iter_items c.next.new.self) room told.replies i.replies;
      rest = sym (front_more k (into_iter_items c.args.rooms.now) c.in-Some.replies (into_iter_items c.next.new.self) room).1;
      rooms = (let n = c.in-Some.ensures.len in omega (arith, n, i.rooms));
      shares = subst (λ (os : List (Option PassView)). AllDealt cache from os) (sym (ap (map (λ (j : J). j.pass)) items ∙ map-append (λ (j : J). j.pass) js (job ∷ [])))
          (dealt_more cache from (map (λ (j : J). j.pass) js) job.pass i.shares own);
      idle = told.idle;
      pass = one_more_share k from c.loop.pass c.new_job-job.new.pass i.pass told.pass;
    }
