use Rattle.std.proofs.Common.{◌≡◌, ◌∙◌, ap, refl, inl, inr, false, List, ◌++◌, ◌∷◌, []}
use Rattle.mount_script.specs.declared.reply.Reply.{Reply}
use Rattle.mount_script.specs.declared.command.Command.TheVariants.{Mount, Stats}
use Rattle.mount_script.specs.declared.command.Line.{Line}
use Rattle.script_run.specs.Lines.{is_shared}
use Rattle.script_run.proofs.Blocks.{block_single, mount_ran}
use Rattle.script_run.proofs.KeptShelves.{fits_mounted}
use Rattle.script_run.proofs.Steps.{single_line}
use Rattle.script_run.proofs.block.run_block.Goals as goal

pub returns-in-Mount-clause-ran : goal.returns-in-Mount-clause-ran
returns-in-Mount-clause-ran g c =
    let command : c.index-block-0.result.command ≡ Mount c.in-Mount.name c.in-Mount.manifest = ap (λ (n : Line). n.command) c.index-block-0.is ∙ c.in-Mount.is in
    let own : is_shared c.index-block-0.result.command ≡ false = ap is_shared command in
    let one = block_single c.args.block.now c.index-block-0.result c.requires.block c.index-block-0.is own in
    let x = c.core_mount-reply.result in
    let only : c.put.new.replies.items ≡ x ∷ [] = c.put.ensures.items ∙ ap (λ (xs : List Reply). xs ++ x ∷ []) c.requires.none.0 in
    let told = c.core_mount-reply.ensures in
    mount_ran g.A.Archive.tells _ g.A.Archive.blobs _ c.args.block.now c.index-block-0.result c.in-Mount.name c.in-Mount.manifest _ _ x _ _ _ _ _ one command only
    c.requires.idle c.requires.unmounted told.reply told.kind told.roster told.later told.source told.does

pub returns-in-Mount-clause-shelves : goal.returns-in-Mount-clause-shelves
returns-in-Mount-clause-shelves g c =
    fits_mounted _ g.A.Archive.tells g.A.Archive.blobs _ _ c.args.roster.now c.core_mount-reply.new.roster c.args.shelves.now c.requires.shelves c.core_mount-reply.result c.core_mount-reply.ensures.roster

pub returns-in-Mount-clause-went : goal.returns-in-Mount-clause-went
returns-in-Mount-clause-went g c =
    let command : c.index-block-0.result.command ≡ Mount c.in-Mount.name c.in-Mount.manifest = ap (λ (n : Line). n.command) c.index-block-0.is ∙ c.in-Mount.is in
    let own : is_shared c.index-block-0.result.command ≡ false = ap is_shared command in
    let one = block_single c.args.block.now c.index-block-0.result c.requires.block c.index-block-0.is own in
    let x = c.core_mount-reply.result in
    let told = c.core_mount-reply.ensures in
    inr (inl (record {
      number = c.index-block-0.result.number;
      name = c.in-Mount.name;
      manifest = c.in-Mount.manifest;
      given = x;
      line = single_line c.args.block.now c.index-block-0.result (Mount c.in-Mount.name c.in-Mount.manifest) one command;
      reply_is = c.put.ensures.items ∙ ap (λ (xs : List Reply). xs ++ x ∷ []) c.requires.none.0;
      kind = told.kind;
      roster = told.roster;
      door = told.does;
      took = told.took;
      faults = told.source.later;
      core = told.later;
      sums = refl;
    }))

pub returns-in-Stats-clause-went : goal.returns-in-Stats-clause-went
returns-in-Stats-clause-went g c =
    let command : c.index-block-0.result.command ≡ Stats = ap (λ (n : Line). n.command) c.index-block-0.is ∙ c.in-Stats.is in
    let own : is_shared c.index-block-0.result.command ≡ false = ap is_shared command in
    let one = block_single c.args.block.now c.index-block-0.result c.requires.block c.index-block-0.is own in
    let x = c.stats_reply-reply.result in
    inr (inr (record {
      number = c.index-block-0.result.number;
      line = single_line c.args.block.now c.index-block-0.result Stats one command;
      reply_is = c.put-in-Stats.ensures.items ∙ ap (λ (xs : List Reply). xs ++ x ∷ []) c.requires.none.0 ∙ ap (λ (y : Reply). y ∷ []) c.stats_reply-reply.ensures.reply;
      roster = refl;
      rests = refl;
    }))
