use Rattle.cache_frame.specs.Makers.{frame_of}
use Rattle.script_run.proofs.News.{new_core}
use Rattle.run_checks.proofs.tests.run_at.Goals as goal

pub run_alone-requires-clause-fresh : goal.run_alone-requires-clause-fresh
run_alone-requires-clause-fresh g c = new_core c.config_of-config.result frame_of c.in_ok-frames.frames.items c.in_ok-core.core c.in_ok-core.ensures.state
