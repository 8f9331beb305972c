use Rattle.std.proofs.Common.{◌≡◌, ◌∙◌, sym, ap, ap₂, subst, Option, Some}
use Rattle.cache_door.specs.Doors.{DoorView}
use Rattle.cache_reader.specs.Going.{moment}
use Rattle.cache_table.specs.Views.{PassView}
use Rattle.cache_table.specs.Doors.{view_at}
use Rattle.script_run.specs.Lines.{cached}
use Rattle.shared_run.specs.Shares.{share}
use Rattle.shared_run.specs.Workers.{LinesDid, JobRan}
use Rattle.shared_run.proofs.job.work.Goals as goal

pub returns-clause-ran : goal.returns-clause-ran
returns-clause-ran g c =
    let e = cached g.A.Archive.tells g.A.Archive.blobs c.args.config.now in
    let r = c.args.roster.now in
    let ls = share c.args.workers c.args.worker 0 c.args.block.now in
    let xs = c.run_share.new.replies.items in
    let a = g.S.BlobSource.view c.args.job.now.source in
    let b = g.S.BlobSource.view c.run_share.new.source in
    let told = c.run_share.ensures in
    let about = c.args.cache.now.about in
    let first = c.new-door.result in
    let last = c.run_share.new.door in
    let start : view_at first.cache.now.about first.pass ≡ view_at about c.in-Some.pass = ap₂ view_at (ap (λ (k : _). k.now.about) c.new-door.ensures.cache) c.new-door.ensures.pass in
    let end : view_at last.cache.now.about last.pass ≡ view_at about c.into_pass.result =
    ap₂ view_at (ap (λ (k : _). k.now.about) (told.stays.0 ∙ c.new-door.ensures.cache)) (sym c.into_pass.ensures.pass) in
    let did : LinesDid e r ls xs (moment a (view_at about c.in-Some.pass)) (moment b (view_at about c.into_pass.result)) =
    subst (λ (x : DoorView). LinesDid e r ls xs (moment a x) (moment b (view_at about c.into_pass.result))) start
    (subst (λ (x : DoorView). LinesDid e r ls xs (moment a (view_at first.cache.now.about first.pass)) (moment b x)) end told.did) in
    let was : c.args.job.now.pass ≡ Some c.in-Some.pass = sym c.take.ensures.value ∙ c.in-Some.is in
    subst (λ (o : Option PassView). JobRan e c.args.cache.now r ls xs a b o (Some c.into_pass.result)) (sym was) (record {
      did = did;
      shares = ap (λ (p : PassView). p.view.shares) c.into_pass.ensures.pass ∙ told.stays.1.shares ∙ ap (λ (p : PassView). p.view.shares) c.new-door.ensures.pass;
    })
