use Rattle.mount_tool.proofs.Makes.{cut_short, came_to_its_end}
use Rattle.mount_tool.proofs.make.run_make.Goals as goal

pub returns-then-status-gt1 : goal.returns-then-status-gt1
returns-then-status-gt1 g c = record {
  run = cut_short c.args.settings.now (g.M.FrameMaker.view c.args.frames.now) (g.M.FrameMaker.view c.run_blocks-status.new.frames)
      (g.K.Sink.view c.args.sink.now) (g.C.Clock.view c.args.clock.now) (g.C.Clock.view c.run_blocks-status.new.clock)
      _ _ c.in-Some.drawn.script c.run_blocks-status.result
      c.in-Some.ensures.script
      c.if-status-gt1.true c.requires.one c.run_blocks-status.ensures.run;
}

pub returns : goal.returns
returns g c = record {
  run = came_to_its_end c.args.settings.now (g.M.FrameMaker.view c.args.frames.now) (g.M.FrameMaker.view c.run_blocks-status.new.frames)
      (g.K.Sink.view c.args.sink.now) (g.K.Sink.view c.write_summary.new.sink)
      (g.C.Clock.view c.args.clock.now) (g.C.Clock.view c.run_blocks-status.new.clock)
      _ _ c.in-Some.drawn.script c.run_blocks-status.result c.run_blocks-status.new.sink.total c.run_blocks-status.new.sink.sum c.write_summary.result
      c.in-Some.ensures.script
      c.if-status-gt1.false c.requires.one c.write_summary.ensures c.run_blocks-status.ensures.run;
}
