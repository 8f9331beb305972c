use Rattle.std.proofs.Common.{map}
use Rattle.run_setup.specs.Words.{texts}
use Rattle.mount_tool.specs.Calls.{world}
use Rattle.mount_tool.proofs.Calls.{usage_of}
use Rattle.mount_tool.proofs.run.mount_alone.Goals as goal

pub returns-clause-usage : goal.returns-clause-usage
returns-clause-usage g c =
    usage_of g.S.BlobSource.view c.args.sources.items g.A.Archive.tells g.A.Archive.blobs (texts c.args.words.now)
    (g.T.TextSource.view c.args.script.now) (g.M.FrameMaker.view c.args.frames.now) (g.K.Sink.view c.args.sink.now) (g.C.Clock.view c.args.clock.now)
    (world (g.T.TextSource.view c.answer.new.script) (g.M.FrameMaker.view c.answer.new.frames) (g.K.Sink.view c.answer.new.sink) (g.C.Clock.view c.answer.new.clock) (map g.S.BlobSource.view c.answer.result.sources.items))
    c.answer.result.status c.answer.ensures.call
