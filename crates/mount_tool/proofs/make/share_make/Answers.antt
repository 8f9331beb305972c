use Rattle.mount_tool.proofs.Makes.{several_cut_short, several_came_to_their_end}
use Rattle.mount_tool.proofs.make.share_make.Goals as goal

pub returns-then-status-gt1 : goal.returns-then-status-gt1
returns-then-status-gt1 g c = record {
  run = several_cut_short c.args.settings.now (g.M.FrameMaker.view c.args.frames.now) (g.M.FrameMaker.view c.share_blocks-status.new.frames)
      (g.K.Sink.view c.args.sink.now) (g.C.Clock.view c.args.clock.now) (g.C.Clock.view c.share_blocks-status.new.clock)
      _ _ c.in-Some.drawn.script c.share_blocks-status.result
      c.in-Some.ensures.script
      c.if-status-gt1.true c.requires.several c.share_blocks-status.ensures.run;
}

pub returns : goal.returns
returns g c = record {
  run = several_came_to_their_end c.args.settings.now (g.M.FrameMaker.view c.args.frames.now) (g.M.FrameMaker.view c.share_blocks-status.new.frames)
      (g.K.Sink.view c.args.sink.now) (g.K.Sink.view c.write_summary.new.sink)
      (g.C.Clock.view c.args.clock.now) (g.C.Clock.view c.share_blocks-status.new.clock)
      _ _ c.in-Some.drawn.script c.share_blocks-status.result c.share_blocks-status.new.sink.total c.share_blocks-status.new.sink.sum c.write_summary.result
      c.in-Some.ensures.script
      c.if-status-gt1.false c.requires.several c.write_summary.ensures c.share_blocks-status.ensures.run;
}
