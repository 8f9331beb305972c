use Rattle.std.proofs.Common.{Bool, arith, ◌∙◌, ◌+◌, ◌++◌, ◌∷◌, [], ℕ, List, length, take, sym, ap, subst, refl}
use Rattle.std.proofs.lemmas.List.{length-append}
use Rattle.mount_script.specs.declared.reply.Reply.{Reply}
use Rattle.cache_reader.specs.Going.{moment}
use Rattle.cache_reader.specs.Reports.{no_bytes}
use Rattle.std.specs.Prelude.{◌&&◌}
use Rattle.std.proofs.lemmas.Bool.{eq-eqb}
use Rattle.script_run.specs.Lines.{cached}
use Rattle.script_run.specs.Shelves.{ShelvesFit}
use Rattle.script_run.proofs.KeptShelves.{fits_new}
use Rattle.shared_run.specs.Shares.{share}
use Rattle.shared_run.specs.Workers.{LinesDid}
use Rattle.shared_run.proofs.Shares.{no_mount_at, share_more, share_same, share_room, other_is}
use Rattle.shared_run.proofs.LinesDone.{no_lines, line_did, did_as}
use Rattle.shared_run.proofs.lines.run_share.Goals as goal
use Rattle.shared_run.proofs.lines.run_share.Goals.{then-k-workers, else-k-workers}

pub loop-k-init : goal.loop-k-init
loop-k-init g c =
    let e = cached g.A.Archive.tells g.A.Archive.blobs c.args.config.now in
    let p = moment (g.S.BlobSource.view c.args.source.now) (g.D.CacheDoor.view c.args.door.now) in
    record {
      did = subst (λ (xs : List Reply). LinesDid e c.args.roster.now [] xs p p) (sym c.requires.none.0) (no_lines g.A.Archive.tells g.A.Archive.blobs c.args.config.now c.args.roster.now p);
      stays = g.met.D.CacheDoor.stays_same c.args.door.now;
      hold = c.requires.idle;
      shelves = fits_new _ _ _ c.new-shelves.result c.new-shelves.ensures;
      len = c.requires.none.1;
      room = c.requires.room;
    }

pub worker_line-reply-requires-clause-no_mount : goal.worker_line-reply-requires-clause-no_mount
worker_line-reply-requires-clause-no_mount g c = no_mount_at c.args.block.now c.loop-k.k c.index-block-k.result c.requires.lines c.loop-k-test.true c.index-block-k.is

pub worker_line-reply-requires-clause-shelves : goal.worker_line-reply-requires-clause-shelves
worker_line-reply-requires-clause-shelves g c =
    subst (λ (f : Bool). ShelvesFit (g.A.Archive.tells && f) g.A.Archive.blobs c.args.roster.now c.loop-k.shelves) (sym (g.met.D.CacheDoor.later c.args.door.now c.loop-k.door c.loop-k.invariant.stays).frames_tell) c.loop-k.invariant.shelves

pub put-requires : goal.put-requires
put-requires g c =
    let below = share_room c.args.workers c.args.worker c.loop-k.k c.args.block.now c.index-block-k.result c.loop-k-test.true c.index-block-k.is (eq-eqb _ _ c.if-k-workers.true) in
    omega (arith, below, c.loop-k.invariant.len, c.loop-k.invariant.room)

pub loop-k-preserved : goal.loop-k-preserved
loop-k-preserved g c =
    let e = cached g.A.Archive.tells g.A.Archive.blobs c.args.config.now in
    let r = c.args.roster.now in
    let k = c.loop-k.k in
    let i = c.loop-k.invariant in
    let block = c.args.block.now in
    let part = share c.args.workers c.args.worker 0 (take k block) in
    let p = moment (g.S.BlobSource.view c.args.source.now) (g.D.CacheDoor.view c.args.door.now) in
    let y = moment (g.S.BlobSource.view c.loop-k.source) (g.D.CacheDoor.view c.loop-k.door) in
    elim c.if-k-workers.branch [
      | then-k-workers w ↦
          let l = w.index-block-k.result in
          let x = w.worker_line-reply.result in
          let told = w.worker_line-reply.ensures in
          let later = g.met.D.CacheDoor.later c.loop-k.door w.worker_line-reply.new.door told.stays in
          let z = moment (g.S.BlobSource.view w.worker_line-reply.new.source) (g.D.CacheDoor.view w.worker_line-reply.new.door) in
          let next = share_more c.args.workers c.args.worker k block l c.loop-k-test.true w.index-block-k.is (eq-eqb _ _ w.if-k-workers.true) in
          let did = line_did g.A.Archive.tells g.A.Archive.blobs c.args.config.now r c.args.now no_bytes y z part c.loop-k.replies.items l x p i.did (g.met.D.CacheDoor.later c.args.door.now c.loop-k.door i.stays).frames_tell later.seen
          told.reply told.mark told.kind told.source told.works in
          rw (w.replies-is, w.source-is, w.door-is, w.shelves-is) (record {
            did = did_as e r (part ++ l ∷ []) (share c.args.workers c.args.worker 0 (take (k + 1) block)) (c.loop-k.replies.items ++ x ∷ []) w.put.new.replies.items p z z next w.put.ensures.items refl did;
            stays = g.met.D.CacheDoor.stays_on c.args.door.now c.loop-k.door w.worker_line-reply.new.door i.stays told.stays;
            hold = told.hold;
            shelves = subst (λ (f : Bool). ShelvesFit (g.A.Archive.tells && f) g.A.Archive.blobs c.args.roster.now w.worker_line-reply.new.shelves) (g.met.D.CacheDoor.later c.args.door.now c.loop-k.door i.stays).frames_tell told.shelves;
            len = w.put.ensures.len ∙ ap (λ (n : ℕ). n + 1) i.len ∙ sym (ap length next ∙ length-append part (l ∷ []));
            room = omega (arith, i.room, w.put.ensures.room);
          })
      | else-k-workers w ↦
          let same = share_same c.args.workers c.args.worker k block c.loop-k-test.true (other_is _ _ w.if-k-workers.false) in
          rw (w.replies-is, w.source-is, w.door-is, w.shelves-is) (record {
            did = did_as e r part (share c.args.workers c.args.worker 0 (take (k + 1) block)) c.loop-k.replies.items c.loop-k.replies.items p y y same refl refl i.did;
            stays = i.stays;
            hold = i.hold;
            shelves = i.shelves;
            len = i.len ∙ sym (ap length same);
            room = i.room;
          })
    ]
