use Rattle.cache_frame.specs.Makers.{frame_of}
use Rattle.script_run.proofs.News.{new_core}
use Rattle.shared_checks.proofs.tests.drawn_tests.run_by_one.Goals as goal

pub run_alone-requires-clause-fresh : goal.run_alone-requires-clause-fresh
run_alone-requires-clause-fresh g c = new_core c.config_of-config.result frame_of c.in_ok-frames.frames.items c.in_ok-core.core c.in_ok-core.ensures.state
