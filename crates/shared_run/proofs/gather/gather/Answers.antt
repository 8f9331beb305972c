use Rattle.std.proofs.Common.{arith, ◌∙◌, ◌++◌, ◌∷◌, [], List, map, ap, sym, subst, Option}
use Rattle.std.proofs.lemmas.List.{append_assoc, map-append, length-append}
use Rattle.cache_table.specs.Views.{PassView}
use Rattle.shared_run.specs.declared.job.Job.{Job}
use Rattle.shared_run.specs.Gathered.{JoinedAll}
use Rattle.std.specs.Prelude.{vec_len}
use Rattle.std.specs.Vec.Iter.{into_iter_items, into_iter_len}
use Rattle.shared_run.proofs.Joins.{joined_more}
use Rattle.shared_run.proofs.Queues.{mapped_push}
use Rattle.shared_run.proofs.gather.gather.Goals as goal

pub loop-job-preserved : goal.loop-job-preserved
loop-job-preserved g c =
    let J = Job g.row.A.Denot g.row.S.Denot in
    let i = c.loop-job.invariant in
    let js = c.loop-job.yielded in
    let job = c.in-Some.job in
    let told = c.join_job.ensures in
    let before = c.args.sources.now.items in
    record {
      sources = told.sources ∙ ap (λ (l : List g.row.S.Denot). l ++ job.source ∷ []) i.sources ∙ append_assoc before (map (λ (j : J). j.source) js) (job.source ∷ [])
          ∙ ap (λ (l : List g.row.S.Denot). before ++ l) (sym (map-append (λ (j : J). j.source) js (job ∷ [])));
      len = (let n = length-append js (job ∷ []) in omega (arith, told.len, i.len, n));
      room = omega (arith, i.room, told.count);
      joined = subst (λ (os : List (Option PassView)). JoinedAll c.args.pass.now os c.join_job.new.pass) (sym (map-append (λ (j : J). j.pass) js (job ∷ [])))
          (joined_more c.args.pass.now (map (λ (j : J). j.pass) js) c.loop-job.pass job.pass c.join_job.new.pass i.joined told.joined);
      replies = mapped_push into_iter_items (λ (j : J). j.replies.items) c.loop-job.queues.items c.args.queues.now.items js job c.join_job.new.queues.items told.replies i.replies;
      lens = mapped_push into_iter_len (λ (j : J). vec_len j.replies) c.loop-job.queues.items c.args.queues.now.items js job c.join_job.new.queues.items told.lens i.lens;
      many = (let n = length-append js (job ∷ []) in omega (arith, told.queues.0, i.many, n));
      space = omega (arith, i.space, told.queues.1);
      idle = told.idle;
    }
