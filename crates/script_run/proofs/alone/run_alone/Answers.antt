use Rattle.std.proofs.Common.{subst, sym, ◌≡◌, ◌∙◌, Bool, ap, length, arith, rules, refl}
use Rattle.std.specs.Prelude.{◌||◌, ◌&&◌}
use Rattle.std.specs.List.{list_any}
use Rattle.script_run.specs.Allowed.{is_mark, is_memory}
use Rattle.script_run.specs.Lines.{cached}
use Rattle.script_run.specs.Shelves.{ShelvesFit}
use Rattle.script_run.proofs.KeptShelves.{fits_new}
use Rattle.script_run.proofs.Scripts.{read_block}
use Rattle.script_run.proofs.Runs.{started, stopped, finished, written_block, cut_fault, cut_memory, block_length}
use Rattle.script_run.proofs.alone.run_alone.Goals as goal

pub loop-i-init : goal.loop-i-init
loop-i-init g c = record {
  written = started (cached g.A.Archive.tells g.A.Archive.blobs c.args.config.now) _ c.new-roster.result c.new-sums.result _ _ _ _ c.new-roster.ensures c.new-sums.ensures c.requires.fresh c.requires.setting
      (record { sound = c.sound_manifests.ensures; few = g.A.Archive.few_manifests; go = c.acts_go_on.ensures; fit = c.mounts_fit.ensures; once = c.mounts_once.ensures }) c.lesson.ensures.good;
  shelves = fits_new _ _ _ _ c.new-shelves.ensures;
}

pub run_block-requires-clause-shelves : goal.run_block-requires-clause-shelves
run_block-requires-clause-shelves g c =
    subst (λ (f : Bool). ShelvesFit (g.A.Archive.tells && f) g.A.Archive.blobs c.loop-i.roster c.loop-i.shelves) (sym c.loop-i.invariant.written.ran.core.tell) c.loop-i.invariant.shelves

pub run_block-requires-clause-block : goal.run_block-requires-clause-block
run_block-requires-clause-block g c = read_block c.args.script.now c.loop-i.i c.block-block.result.now c.requires.read c.block-block.ensures

pub write_block-requires : goal.write_block-requires
write_block-requires g c =
    ap length c.deref-in-loop-i-2.ensures.value ∙ block_length _ _ _ c.block-block.result.now c.run_block.new.replies.items _ _ _ _ c.run_block.ensures.ran

pub returns-in_default-clause-run : goal.returns-in_default-clause-run
returns-in_default-clause-run g c =
    stopped (cached g.A.Archive.tells g.A.Archive.blobs c.args.config.now) _ c.args.script.now c.loop-i.i c.loop-i.roster c.loop-i.sums c.loop-i.marked c.loop-i.lacking _ _ (g.C.Clock.view c.args.clock.now) (g.C.Clock.view c.loop-i.clock) c.args.core.now c.loop-i.core
    (g.K.Sink.view c.args.sink.now) (g.K.Sink.view c.loop-i.sink) c.loop-i.invariant.written

pub returns-in-Err-Failed-clause-run : goal.returns-in-Err-Failed-clause-run
returns-in-Err-Failed-clause-run g c =
    cut_fault (cached g.A.Archive.tells g.A.Archive.blobs c.args.config.now) c.now-now.result g.A.Archive.tells _ g.A.Archive.blobs _ c.args.script.now c.loop-i.i c.loop-i.roster c.run_block.new.roster c.loop-i.sums c.run_block.new.sums c.loop-i.marked c.loop-i.lacking
    (g.S.BlobSource.view c.args.source.now) (g.S.BlobSource.view c.loop-i.source) (g.S.BlobSource.view c.run_block.new.source)
    (g.C.Clock.view c.args.clock.now) (g.C.Clock.view c.loop-i.clock) (g.C.Clock.view c.now-now.new.self)
    c.args.core.now c.loop-i.core c.run_block.new.core (g.K.Sink.view c.args.sink.now) (g.K.Sink.view c.loop-i.sink) (g.K.Sink.view c.write_block.new.sink)
    c.block-block.result.now c.run_block.new.replies.items refl c.requires.fresh (read_block c.args.script.now c.loop-i.i c.block-block.result.now c.requires.read c.block-block.ensures) c.block-block.ensures
    c.loop-i.invariant.written c.now-now.ensures.clock c.now-now.ensures.time c.run_block.ensures.ran c.run_block.ensures.stats c.run_block.ensures.sums c.run_block.ensures.went
    (rw c.deref-in-loop-i-2.ensures.value at c.in-Err-Failed.ensures.front) (c.in-Err-Failed.ensures.cause.failed (search rules))

pub returns-in-Err-NoMemory-clause-run : goal.returns-in-Err-NoMemory-clause-run
returns-in-Err-NoMemory-clause-run g c =
    cut_memory (cached g.A.Archive.tells g.A.Archive.blobs c.args.config.now) c.now-now.result g.A.Archive.tells _ g.A.Archive.blobs _ c.args.script.now c.loop-i.i c.loop-i.roster c.run_block.new.roster c.loop-i.sums c.run_block.new.sums c.loop-i.marked c.loop-i.lacking
    (g.S.BlobSource.view c.args.source.now) (g.S.BlobSource.view c.loop-i.source) (g.S.BlobSource.view c.run_block.new.source)
    (g.C.Clock.view c.args.clock.now) (g.C.Clock.view c.loop-i.clock) (g.C.Clock.view c.now-now.new.self)
    c.args.core.now c.loop-i.core c.run_block.new.core (g.K.Sink.view c.args.sink.now) (g.K.Sink.view c.loop-i.sink) (g.K.Sink.view c.write_block.new.sink)
    c.block-block.result.now c.run_block.new.replies.items refl c.requires.fresh (read_block c.args.script.now c.loop-i.i c.block-block.result.now c.requires.read c.block-block.ensures) c.block-block.ensures
    c.loop-i.invariant.written c.now-now.ensures.clock c.now-now.ensures.time c.run_block.ensures.ran c.run_block.ensures.stats c.run_block.ensures.sums c.run_block.ensures.went
    (rw c.deref-in-loop-i-2.ensures.value at c.in-Err-NoMemory.ensures.front)

pub loop-i-preserved : goal.loop-i-preserved
loop-i-preserved g c =
    let marks = ap (λ (b : Bool). c.loop-i.marked || b) (c.has_mark-marked.ensures ∙ ap (list_any is_mark) c.deref.ensures.value) in
    let lacks = ap (λ (b : Bool). c.loop-i.lacking || b) (c.wants_memory-lacking.ensures ∙ ap (list_any is_memory) c.deref-in-loop-i.ensures.value) in
    record {
      written =
          written_block (cached g.A.Archive.tells g.A.Archive.blobs c.args.config.now) c.now-now.result g.A.Archive.tells _ g.A.Archive.blobs _ c.args.script.now c.loop-i.i c.loop-i.roster c.run_block.new.roster c.loop-i.sums c.run_block.new.sums c.loop-i.marked c.loop-i.lacking _ _
          (g.S.BlobSource.view c.args.source.now) (g.S.BlobSource.view c.loop-i.source) (g.S.BlobSource.view c.run_block.new.source) _ _ _
          c.args.core.now c.loop-i.core c.run_block.new.core (g.K.Sink.view c.args.sink.now) (g.K.Sink.view c.loop-i.sink) (g.K.Sink.view c.write_block.new.sink)
          c.block-block.result.now c.run_block.new.replies.items refl c.requires.fresh (read_block c.args.script.now c.loop-i.i c.block-block.result.now c.requires.read c.block-block.ensures) c.block-block.ensures
          c.loop-i.invariant.written c.now-now.ensures.clock c.now-now.ensures.time c.run_block.ensures.ran c.run_block.ensures.stats c.run_block.ensures.sums c.run_block.ensures.went marks lacks
          (rw c.deref-in-loop-i-2.ensures.value at c.in-Ok-write_block.ensures.whole) (c.write_block.ensures.cause.later);
      shelves = subst (λ (f : Bool). ShelvesFit (g.A.Archive.tells && f) g.A.Archive.blobs c.run_block.new.roster c.run_block.new.shelves) c.loop-i.invariant.written.ran.core.tell c.run_block.ensures.shelves;
    }

pub returns-then-lacking-clause-run : goal.returns-then-lacking-clause-run
returns-then-lacking-clause-run g c =
    stopped (cached g.A.Archive.tells g.A.Archive.blobs c.args.config.now) _ c.args.script.now c.loop-i.i c.loop-i.roster c.loop-i.sums c.loop-i.marked c.loop-i.lacking _ _ (g.C.Clock.view c.args.clock.now) (g.C.Clock.view c.loop-i.clock) c.args.core.now c.loop-i.core
    (g.K.Sink.view c.args.sink.now) (g.K.Sink.view c.loop-i.sink) c.loop-i.invariant.written

pub returns-clause-run : goal.returns-clause-run
returns-clause-run g c =
    let end : c.loop-i.i ≡ length c.args.script.now = omega (arith, c.loop-i-test.false, c.loop-i.auto.i-end, c.blocks_len-i-end.ensures) in
    finished (cached g.A.Archive.tells g.A.Archive.blobs c.args.config.now) _ c.args.script.now c.loop-i.i c.loop-i.roster c.loop-i.sums c.loop-i.marked c.loop-i.lacking _ _ (g.C.Clock.view c.args.clock.now) (g.C.Clock.view c.loop-i.clock) c.args.core.now c.loop-i.core
    (g.K.Sink.view c.args.sink.now) (g.K.Sink.view c.loop-i.sink) end c.if-lacking.false c.loop-i.invariant.written
