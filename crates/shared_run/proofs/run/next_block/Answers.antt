use Rattle.std.proofs.Common.{arith, ◌≡◌, ◌∙◌, ◌<◌, ◌++◌, ◌∷◌, [], false, List, length, map, set, sym, ap, subst}
use Rattle.std.proofs.lemmas.List.{length-map, get_or-map}
use Rattle.mount_script.specs.declared.command.Line.{Line}
use Rattle.mount_script.specs.declared.reply.Reply.{Reply}
use Rattle.script_run.specs.Blocks.{Forgotten}
use Rattle.script_run.specs.Lines.{cached, is_shared}
use Rattle.script_run.proofs.Blocks.{block_single}
use Rattle.shared_run.proofs.Queues.{map_set}
use Rattle.shared_run.proofs.Runs.{mount_ran, block_ran, no_mounts_in, replies_length}
use Rattle.shared_run.proofs.run.next_block.Goals as goal

pub returns-in-Mount-clause-ran : goal.returns-in-Mount-clause-ran
returns-in-Mount-clause-ran g c =
    let view = g.S.BlobSource.view in
    let l = c.index-block-0.result in
    let told = c.mount_between-reply.ensures in
    let x = c.mount_between-reply.result in
    let sources = c.args.sources.now.items in
    let before = map view sources in
    let some : 0 < length sources = omega (arith, c.requires.workers.0, c.requires.workers.2) in
    let command = ap (λ (n : Line). n.command) c.index-block-0.is ∙ c.in-Mount.is in
    let single : is_shared l.command ≡ false = ap is_shared command in
    mount_ran g.A.Archive.tells c.args.cache.now.about.tells g.A.Archive.blobs c.args.config.now c.args.workers c.args.config.now.regions c.args.block.now l _ _ c.args.roster.now c.mount_between-reply.new.roster
    x c.put.new.replies.items before (map view (set sources 0 c.mount_between-reply.new.source)) (view c.index_mut-source.result.now) (view c.mount_between-reply.new.source) c.args.pass.now c.mount_between-reply.new.pass
    (block_single c.args.block.now l c.requires.block c.index-block-0.is single) command (c.put.ensures.items ∙ ap (λ (xs : List Reply). xs ++ x ∷ []) c.in_ok-replies.ensures.items)
    (omega (arith, some, length-map sources view)) (ap view c.index_mut-source.ensures.value ∙ sym (get_or-map view sources 0 c.index_mut-source.result.now _ some)) (map_set view sources 0 c.mount_between-reply.new.source)
    (omega (arith, c.requires.workers.0)) c.requires.none told.reply told.kind told.roster told.source told.unmounted told.decays told.clears told.stored told.turned

pub run_block-requires-clause-lines : goal.run_block-requires-clause-lines
run_block-requires-clause-lines g c κs within = no_mounts_in c.args.block.now c.index-block-0.result c.requires.block c.index-block-0.is (λ name manifest e. c.in_default.not-Mount name manifest (sym (ap (λ (n : Line). n.command) c.index-block-0.is) ∙ e))

pub forget-requires : goal.forget-requires
forget-requires g c =
    ap length c.deref.ensures.value
    ∙ replies_length (cached g.A.Archive.tells g.A.Archive.blobs c.args.config.now) c.args.cache.now c.args.workers c.args.roster.now c.args.block.now c.in_ok-replies-2.replies.items _ _ c.args.pass.now c.run_block.new.pass c.in_ok-replies-2.ensures.did

pub returns-clause-ran : goal.returns-clause-ran
returns-clause-ran g c =
    let plain = no_mounts_in c.args.block.now c.index-block-0.result c.requires.block c.index-block-0.is (λ name manifest e. c.in_default.not-Mount name manifest (sym (ap (λ (n : Line). n.command) c.index-block-0.is) ∙ e)) in
    block_ran (cached g.A.Archive.tells g.A.Archive.blobs c.args.config.now) c.args.cache.now c.args.workers c.args.config.now.regions c.args.roster.now c.forget.new.roster c.args.block.now c.in_ok-replies-2.replies.items
    (map g.S.BlobSource.view c.args.sources.now.items) (map g.S.BlobSource.view c.run_block.new.sources.items) c.args.pass.now c.run_block.new.pass
    c.lesson.ensures plain c.requires.none c.in_ok-replies-2.ensures.did
    (subst (λ (xs : List Reply). Forgotten c.args.block.now xs c.args.roster.now c.forget.new.roster) c.deref.ensures.value c.forget.ensures)
    (c.in_ok-replies-2.ensures.allowed c.requires.whole c.requires.none.names)

pub returns-clause-count : goal.returns-clause-count
returns-clause-count g c =
    let view = g.S.BlobSource.view in
    sym (length-map c.run_block.new.sources.items (λ (s : g.row.S.Denot). (view s).identity)) ∙ ap length c.in_ok-replies-2.ensures.identities ∙ length-map c.args.sources.now.items (λ (s : g.row.S.Denot). (view s).identity)
