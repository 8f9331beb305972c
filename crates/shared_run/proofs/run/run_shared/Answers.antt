use Rattle.std.proofs.Common.{◌≡◌, ◌∙◌, Bool, ap, sym, subst, length, map, arith, rules, refl, List}
use Rattle.std.specs.Prelude.{◌||◌, ◌&&◌}
use Rattle.std.specs.List.{list_any}
use Rattle.cache_outside.specs.Sources.{SourceView}
use Rattle.cache_table.specs.Views.{PassView}
use Rattle.script_run.specs.Allowed.{is_mark, is_memory}
use Rattle.script_run.specs.declared.ended.Ended.TheVariants.{NoMemory}
use Rattle.script_run.proofs.Scripts.{read_block}
use Rattle.script_run.specs.Lines.{cached}
use Rattle.shared_run.specs.Blocks.{several}
use Rattle.shared_run.specs.Runs.{IsSharedRun, outsides}
use Rattle.shared_run.proofs.Runs.{started, stopped, lacked, finished, written_block, cut_fault, cut_memory, block_length}
use Rattle.shared_run.proofs.run.run_shared.Goals as goal

pub loop-i-init : goal.loop-i-init
loop-i-init g c = record {
  written = started _ _ c.new-roster.result _ _ c.args.pass.now _ c.new-roster.ensures c.requires.unmounted;
  others = refl;
  count = refl;
  idle = c.requires.pass;
  shares = c.requires.whole;
}

pub next_block-requires-clause-block : goal.next_block-requires-clause-block
next_block-requires-clause-block g c κs within = read_block c.args.script.now c.loop-i.i c.block-block.result.now c.requires.read c.block-block.ensures

pub returns-in_default-clause-run : goal.returns-in_default-clause-run
returns-in_default-clause-run g c =
    let e = cached g.A.Archive.tells g.A.Archive.blobs c.args.config.now in
    let s = several (g.A.Archive.tells && c.args.cache.now.about.tells) g.A.Archive.blobs c.args.workers c.args.config.now.regions in
    let view = g.S.BlobSource.view in
    let same = c.in_default.ensures.memory refl in
    let base = stopped e s c.args.script.now c.loop-i.i c.loop-i.roster c.loop-i.marked c.loop-i.lacking (map view c.args.sources.now.items) (map view c.loop-i.sources.items)
    (g.C.Clock.view c.args.clock.now) (g.C.Clock.view c.loop-i.clock) (g.C.Clock.view c.now-now.new.self) c.args.pass.now c.loop-i.pass (g.K.Sink.view c.args.sink.now) (g.K.Sink.view c.loop-i.sink) c.loop-i.invariant.written c.now-now.ensures.clock in
    subst (λ (p : PassView). IsSharedRun e s c.args.script.now (outsides (map view c.args.sources.now.items) (g.K.Sink.view c.args.sink.now) (g.C.Clock.view c.args.clock.now))
    (outsides (map view c.next_block.new.sources.items) (g.K.Sink.view c.loop-i.sink) (g.C.Clock.view c.now-now.new.self)) c.args.pass.now p NoMemory) (sym same.0)
    (subst (λ (l : List SourceView). IsSharedRun e s c.args.script.now (outsides (map view c.args.sources.now.items) (g.K.Sink.view c.args.sink.now) (g.C.Clock.view c.args.clock.now))
    (outsides l (g.K.Sink.view c.loop-i.sink) (g.C.Clock.view c.now-now.new.self)) c.args.pass.now c.loop-i.pass NoMemory) (ap (map view) (sym same.2)) base)

pub write_block-requires : goal.write_block-requires
write_block-requires g c =
    ap length c.deref-in-loop-i-2.ensures.value ∙ block_length _ _ _ _ c.block-block.result.now c.in-Ok.replies.items _ _ _ _ c.in-Ok.ensures.ran

pub returns-in-Err-Failed-clause-run : goal.returns-in-Err-Failed-clause-run
returns-in-Err-Failed-clause-run g c =
    let e = cached g.A.Archive.tells g.A.Archive.blobs c.args.config.now in
    let s = several (g.A.Archive.tells && c.args.cache.now.about.tells) g.A.Archive.blobs c.args.workers c.args.config.now.regions in
    let view = g.S.BlobSource.view in
    cut_fault e s c.args.script.now c.loop-i.i c.loop-i.roster c.next_block.new.roster c.loop-i.marked c.loop-i.lacking (map view c.args.sources.now.items) (map view c.loop-i.sources.items) (map view c.next_block.new.sources.items)
    (g.C.Clock.view c.args.clock.now) (g.C.Clock.view c.loop-i.clock) (g.C.Clock.view c.now-now.new.self) c.args.pass.now c.loop-i.pass c.next_block.new.pass
    (g.K.Sink.view c.args.sink.now) (g.K.Sink.view c.loop-i.sink) (g.K.Sink.view c.write_block.new.sink) c.block-block.result.now c.in-Ok.replies.items c.block-block.ensures
    c.loop-i.invariant.written c.now-now.ensures.clock c.in-Ok.ensures.ran (rw c.deref-in-loop-i-2.ensures.value at c.in-Err-Failed.ensures.front) (c.in-Err-Failed.ensures.cause.failed (search rules))

pub returns-in-Err-NoMemory-clause-run : goal.returns-in-Err-NoMemory-clause-run
returns-in-Err-NoMemory-clause-run g c =
    let e = cached g.A.Archive.tells g.A.Archive.blobs c.args.config.now in
    let s = several (g.A.Archive.tells && c.args.cache.now.about.tells) g.A.Archive.blobs c.args.workers c.args.config.now.regions in
    let view = g.S.BlobSource.view in
    cut_memory e s c.args.script.now c.loop-i.i c.loop-i.roster c.next_block.new.roster c.loop-i.marked c.loop-i.lacking (map view c.args.sources.now.items) (map view c.loop-i.sources.items) (map view c.next_block.new.sources.items)
    (g.C.Clock.view c.args.clock.now) (g.C.Clock.view c.loop-i.clock) (g.C.Clock.view c.now-now.new.self) c.args.pass.now c.loop-i.pass c.next_block.new.pass
    (g.K.Sink.view c.args.sink.now) (g.K.Sink.view c.loop-i.sink) (g.K.Sink.view c.write_block.new.sink) c.block-block.result.now c.in-Ok.replies.items c.block-block.ensures
    c.loop-i.invariant.written c.now-now.ensures.clock c.in-Ok.ensures.ran (rw c.deref-in-loop-i-2.ensures.value at c.in-Err-NoMemory.ensures.front)

pub loop-i-preserved : goal.loop-i-preserved
loop-i-preserved g c =
    let e = cached g.A.Archive.tells g.A.Archive.blobs c.args.config.now in
    let s = several (g.A.Archive.tells && c.args.cache.now.about.tells) g.A.Archive.blobs c.args.workers c.args.config.now.regions in
    let view = g.S.BlobSource.view in
    let marks = ap (λ (b : Bool). c.loop-i.marked || b) (c.has_mark-marked.ensures ∙ ap (list_any is_mark) c.deref.ensures.value) in
    let lacks = ap (λ (b : Bool). c.loop-i.lacking || b) (c.wants_memory-lacking.ensures ∙ ap (list_any is_memory) c.deref-in-loop-i.ensures.value) in
    record {
      written = written_block e s c.args.script.now c.loop-i.i c.loop-i.roster c.next_block.new.roster c.loop-i.marked c.loop-i.lacking _ _ (map view c.args.sources.now.items) (map view c.loop-i.sources.items) (map view c.next_block.new.sources.items)
          _ _ _ c.args.pass.now c.loop-i.pass c.next_block.new.pass (g.K.Sink.view c.args.sink.now) (g.K.Sink.view c.loop-i.sink) (g.K.Sink.view c.write_block.new.sink) c.block-block.result.now c.in-Ok.replies.items c.block-block.ensures
          c.loop-i.invariant.written c.now-now.ensures.clock c.in-Ok.ensures.ran marks lacks (rw c.deref-in-loop-i-2.ensures.value at c.in-Ok-write_block.ensures.whole) c.write_block.ensures.cause.later;
      others = c.in-Ok.ensures.others ∙ c.loop-i.invariant.others;
      count = c.in-Ok.ensures.count ∙ c.loop-i.invariant.count;
      idle = c.in-Ok.ensures.pass.0;
      shares = c.in-Ok.ensures.pass.1 ∙ c.loop-i.invariant.shares;
    }

pub returns-then-lacking-clause-run : goal.returns-then-lacking-clause-run
returns-then-lacking-clause-run g c =
    lacked _ _ c.args.script.now c.loop-i.i c.loop-i.roster c.loop-i.marked c.loop-i.lacking _ _ (g.C.Clock.view c.args.clock.now) (g.C.Clock.view c.loop-i.clock) c.args.pass.now c.loop-i.pass
    (g.K.Sink.view c.args.sink.now) (g.K.Sink.view c.loop-i.sink) c.loop-i.invariant.written

pub returns-clause-run : goal.returns-clause-run
returns-clause-run g c =
    let end : c.loop-i.i ≡ length c.args.script.now = omega (arith, c.loop-i-test.false, c.loop-i.auto.i-end, c.blocks_len-i-end.ensures) in
    finished _ _ c.args.script.now c.loop-i.i c.loop-i.roster c.loop-i.marked c.loop-i.lacking _ _ (g.C.Clock.view c.args.clock.now) (g.C.Clock.view c.loop-i.clock) c.args.pass.now c.loop-i.pass
    (g.K.Sink.view c.args.sink.now) (g.K.Sink.view c.loop-i.sink) end c.if-lacking.false c.loop-i.invariant.written
