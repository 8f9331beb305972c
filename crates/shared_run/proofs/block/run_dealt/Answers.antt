use Rattle.std.proofs.Common.{arith, rules, ◌≡◌, ◌∙◌, ◌≤◌, ◌++◌, ℕ, List, length, map, take, drop, get_or, sym, ap, ap₂, subst, zero-add}
use Rattle.std.specs.Prelude.{vec_len, vec_capacity}
use Rattle.std.proofs.lemmas.List.{length-map}
use Rattle.std.specs.declared.vec.IntoIter.{IntoIter}
use Rattle.cache_outside.specs.Sources.{SourceView}
use Rattle.std.specs.Vec.Iter.{into_iter_items, into_iter_len}
use Rattle.std.specs.declared.alloc.Global.{Global}
use Rattle.cache_table.specs.Views.{PassView}
use Rattle.mount_script.specs.declared.reply.Reply.{Reply}
use Rattle.script_run.specs.Lines.{cached}
use Rattle.shared_run.specs.declared.job.Job.{Job}
use Rattle.shared_run.specs.Blocks.{JobsRan}
use Rattle.shared_run.specs.Dealt.{AreRooms, AllDealt}
use Rattle.shared_run.specs.Gathered.{JoinedAll}
use Rattle.shared_run.specs.Workers.{JobRan}
use Rattle.shared_run.specs.Shares.{share}
use Rattle.shared_run.proofs.Jobs.{all_ready, jobs_ran, rooms_front, room_at, map_map, filled, each_number}
use Rattle.shared_run.proofs.block.run_dealt.Goals as goal

pub run_jobs-requires-clause-ready : goal.run_jobs-requires-clause-ready
run_jobs-requires-clause-ready g c κs within =
    let J = Job g.row.A.Denot g.row.S.Denot in
    let dealt = subst (λ (l : List J). AllDealt c.args.cache.now c.args.pass.now (map (λ (j : J). j.pass) l)) (sym c.deref_mut.ensures.value) c.deal.ensures.shares in
    all_ready (λ (j : J). g.S.BlobSource.view j.source) (λ (j : J). j.pass) (λ (j : J). j.replies.items) (cached g.A.Archive.tells g.A.Archive.blobs c.args.config.now) c.args.cache.now c.args.roster.now c.args.workers c.args.block.now
    c.args.pass.now c.deref_mut.result.now dealt

pub run_jobs-requires-clause-none : goal.run_jobs-requires-clause-none
run_jobs-requires-clause-none g c κs within = λ k d below.
    let J = Job g.row.A.Denot g.row.S.Denot in
    let items : into_iter_items c.into_iter-rooms.result ≡ c.args.room.rooms.items = search rules in
    let front = rooms_front c.args.workers 0 c.args.workers c.args.block.now c.args.room.rooms.items c.requires.rooms.1 in
    let is : take c.args.workers c.args.room.rooms.items ≡ map (λ (j : J). j.replies) c.deref_mut.result.now =
    ap (take c.args.workers) (sym items) ∙ sym c.deal.ensures.replies ∙ ap (map (λ (j : J). j.replies)) (sym c.deref_mut.ensures.value) in
    let rooms = subst (AreRooms c.args.workers 0 c.args.block.now) is front in
    let one = room_at (λ (j : J). j.replies) c.args.workers 0 c.args.block.now c.deref_mut.result.now rooms k d below in
    (one.0, one.1)

pub run_jobs-requires-clause-room : goal.run_jobs-requires-clause-room
run_jobs-requires-clause-room g c κs within = λ k d below.
    let J = Job g.row.A.Denot g.row.S.Denot in
    let items : into_iter_items c.into_iter-rooms.result ≡ c.args.room.rooms.items = search rules in
    let front = rooms_front c.args.workers 0 c.args.workers c.args.block.now c.args.room.rooms.items c.requires.rooms.1 in
    let is : take c.args.workers c.args.room.rooms.items ≡ map (λ (j : J). j.replies) c.deref_mut.result.now =
    ap (take c.args.workers) (sym items) ∙ sym c.deal.ensures.replies ∙ ap (map (λ (j : J). j.replies)) (sym c.deref_mut.ensures.value) in
    let rooms = subst (AreRooms c.args.workers 0 c.args.block.now) is front in
    let one = room_at (λ (j : J). j.replies) c.args.workers 0 c.args.block.now c.deref_mut.result.now rooms k d below in
    let many : length c.deref_mut.result.now ≡ c.args.workers = c.deref_mut.ensures.len ∙ c.deal.ensures.count in
    subst (λ (w : ℕ). length (share w k 0 c.args.block.now) ≤ vec_capacity (get_or c.deref_mut.result.now k d).replies) (sym many)
    (subst (λ (m : ℕ). length (share c.args.workers m 0 c.args.block.now) ≤ vec_capacity (get_or c.deref_mut.result.now k d).replies) (zero-add k) one.2)

pub returns-clause-count : goal.returns-clause-count
returns-clause-count g c =
    let J = Job g.row.A.Denot g.row.S.Denot in
    let ks = c.run_jobs.new.jobs in
    let many : length c.deref_mut.result.now ≡ c.args.workers = c.deref_mut.ensures.len ∙ c.deal.ensures.count in
    let back : take c.deal.new.jobs.len (ks ++ drop (length ks) c.deal.new.jobs.items) ≡ ks = filled c.deal.new.jobs.len ks c.deal.new.jobs.items (c.run_jobs.ensures.count ∙ ap length c.deref_mut.ensures.value) c.deal.new.jobs.ok.0 in
    let replies : map into_iter_items c.gather.new.queues.items ≡ map (λ (j : J). j.replies.items) ks =
    c.gather.ensures.replies ∙ ap₂ (λ (a : List (IntoIter Reply Global)) (b : List J). map into_iter_items a ++ map (λ (j : J). j.replies.items) b) c.requires.queues.0 back in
    sym (length-map c.gather.new.queues.items into_iter_items) ∙ ap length replies ∙ length-map ks (λ (j : J). j.replies.items) ∙ c.run_jobs.ensures.count ∙ many

pub returns-clause-lens : goal.returns-clause-lens
returns-clause-lens g c = λ i below.
    let J = Job g.row.A.Denot g.row.S.Denot in
    let ks = c.run_jobs.new.jobs in
    let many : length c.deref_mut.result.now ≡ c.args.workers = c.deref_mut.ensures.len ∙ c.deal.ensures.count in
    let back : take c.deal.new.jobs.len (ks ++ drop (length ks) c.deal.new.jobs.items) ≡ ks = filled c.deal.new.jobs.len ks c.deal.new.jobs.items (c.run_jobs.ensures.count ∙ ap length c.deref_mut.ensures.value) c.deal.new.jobs.ok.0 in
    let lens : map into_iter_len c.gather.new.queues.items ≡ map (λ (j : J). vec_len j.replies) ks =
    c.gather.ensures.lens ∙ ap₂ (λ (a : List (IntoIter Reply Global)) (b : List J). map into_iter_len a ++ map (λ (j : J). vec_len j.replies) b) c.requires.queues.0 back in
    ap (λ (l : List ℕ). get_or l i 0) lens
    ∙ each_number (λ (j : J). vec_len j.replies) (λ k. length (share (length c.deref_mut.result.now) k 0 c.args.block.now)) (length c.deref_mut.result.now) ks c.run_jobs.ensures.count c.run_jobs.ensures.lens i (omega (arith, below, many))
    ∙ ap (λ (w : ℕ). length (share w i 0 c.args.block.now)) many

pub returns-clause-ran : goal.returns-clause-ran
returns-clause-ran g c =
    let J = Job g.row.A.Denot g.row.S.Denot in
    let js = c.deref_mut.result.now in
    let ks = c.run_jobs.new.jobs in
    let view = g.S.BlobSource.view in
    let e = cached g.A.Archive.tells g.A.Archive.blobs c.args.config.now in
    let cache = c.args.cache.now in
    let r = c.args.roster.now in
    let w = c.args.workers in
    let block = c.args.block.now in
    let many : length js ≡ w = c.deref_mut.ensures.len ∙ c.deal.ensures.count in
    let back : take c.deal.new.jobs.len (ks ++ drop (length ks) c.deal.new.jobs.items) ≡ ks = filled c.deal.new.jobs.len ks c.deal.new.jobs.items (c.run_jobs.ensures.count ∙ ap length c.deref_mut.ensures.value) c.deal.new.jobs.ok.0 in
    let replies : map into_iter_items c.gather.new.queues.items ≡ map (λ (j : J). j.replies.items) ks =
    c.gather.ensures.replies ∙ ap₂ (λ (a : List (IntoIter Reply Global)) (b : List J). map into_iter_items a ++ map (λ (j : J). j.replies.items) b) c.requires.queues.0 back in
    let news : c.gather.new.sources.items ≡ map (λ (j : J). j.source) ks = c.gather.ensures.sources ∙ ap₂ (λ (a : List g.row.S.Denot) (b : List J). a ++ map (λ (j : J). j.source) b) c.requires.sources.0 back in
    let olds : map (λ (j : J). j.source) js ≡ take w (into_iter_items c.args.given.now) = ap (map (λ (j : J). j.source)) c.deref_mut.ensures.value ∙ c.deal.ensures.sources.0 in
    let dealt = subst (λ (l : List J). AllDealt cache c.args.pass.now (map (λ (j : J). j.pass) l)) (sym c.deref_mut.ensures.value) c.deal.ensures.shares in
    let base = jobs_ran (λ (j : J). view j.source) (λ (j : J). j.pass) (λ (j : J). j.replies.items) e cache r w block 0 js ks c.run_jobs.ensures.count
    (λ k d below. subst (λ (n : ℕ). JobRan e cache r (share w n 0 block) (get_or ks k d).replies.items (view (get_or js k d).source) (view (get_or ks k d).source) (get_or js k d).pass (get_or ks k d).pass) (sym (zero-add k))
    (subst (λ (n : ℕ). JobRan e cache r (share n k 0 block) (get_or ks k d).replies.items (view (get_or js k d).source) (view (get_or ks k d).source) (get_or js k d).pass (get_or ks k d).pass) many (c.run_jobs.ensures.ran k d below))) in
    let P : List (List Reply) → List SourceView → List SourceView → Type 0 = λ xss a b. JobsRan e cache r w 0 block xss a b (map (λ (j : J). j.pass) js) (map (λ (j : J). j.pass) ks) in
    record {
      dealt = map (λ (j : J). j.pass) js;
      back = map (λ (j : J). j.pass) ks;
      many = ap length replies ∙ length-map ks (λ (j : J). j.replies.items) ∙ c.run_jobs.ensures.count ∙ many;
      shares = dealt;
      ran = subst (λ (xss : List (List Reply)). P xss (map view (take w (into_iter_items c.args.given.now))) (map view c.gather.new.sources.items)) (sym replies)
          (subst (λ (a : List SourceView). P (map (λ (j : J). j.replies.items) ks) a (map view c.gather.new.sources.items)) (sym (map_map view (λ (j : J). j.source) js) ∙ ap (map view) olds)
          (subst (λ (b : List SourceView). P (map (λ (j : J). j.replies.items) ks) (map (λ (j : J). view j.source) js) b) (sym (map_map view (λ (j : J). j.source) ks) ∙ ap (map view) (sym news)) base));
      joined = subst (λ (p : PassView). JoinedAll p (map (λ (j : J). j.pass) ks) c.gather.new.pass) c.deal.ensures.pass
          (subst (λ (l : List J). JoinedAll c.deal.new.pass (map (λ (j : J). j.pass) l) c.gather.new.pass) back c.gather.ensures.joined);
    }
