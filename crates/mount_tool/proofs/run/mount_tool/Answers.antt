use Rattle.std.proofs.Common.{◌≡◌, ℕ, map, drop, sym, subst, false}
use Rattle.run_setup.specs.Words.{texts, command, asks}
use Rattle.mount_tool.specs.Calls.{world}
use Rattle.mount_tool.proofs.Calls.{usage_of, readers_alone}
use Rattle.mount_tool.proofs.run.mount_tool.Goals as goal

pub returns-then-asks_threads-clause-usage : goal.returns-then-asks_threads-clause-usage
returns-then-asks_threads-clause-usage g c =
    usage_of g.S.BlobSource.view c.args.sources.items g.A.Archive.tells g.A.Archive.blobs (texts c.args.words.now)
    (g.T.TextSource.view c.args.script.now) (g.M.FrameMaker.view c.args.frames.now) (g.K.Sink.view c.args.sink.now) (g.C.Clock.view c.args.clock.now)
    (world (g.T.TextSource.view c.answer_shared.new.script) (g.M.FrameMaker.view c.answer_shared.new.frames) (g.K.Sink.view c.answer_shared.new.sink) (g.C.Clock.view c.answer_shared.new.clock) (map g.S.BlobSource.view c.answer_shared.result.sources.items))
    c.answer_shared.result.status c.answer_shared.ensures.call

pub returns-clause-others : goal.returns-clause-others
returns-clause-others g c =
    let asked = c.asks_threads.ensures in
    let none = c.if-asks_threads.false in
    let alone : asks (command (texts c.args.words.now)) ≡ false = cc in
    subst (λ (n : ℕ). drop n c.mount_alone.result.sources.items ≡ drop n c.args.sources.items) (sym (readers_alone (command (texts c.args.words.now)) alone)) c.mount_alone.ensures.others
