use Rattle.cache_door.specs.Cores.{all_tell}
use Rattle.script_run.specs.Runs.{core_seen}
use Rattle.script_run.proofs.News.{new_core}
use Rattle.mount_tool.proofs.Cores.{new_tell, over_made}
use Rattle.mount_tool.proofs.Ends.{over_frames}
use Rattle.mount_tool.proofs.script.run_blocks.Goals as goal

pub run_alone-ended-requires-clause-fresh : goal.run_alone-ended-requires-clause-fresh
run_alone-ended-requires-clause-fresh g c = new_core c.config-config.result g.M.F.Frame.view c.in-Ok.made.items c.in-Ok-new.core c.in-Ok-new.ensures.state

pub returns-clause-run : goal.returns-clause-run
returns-clause-run g c =
    let v = c.in-Ok-new.core in
    let w = c.run_alone-ended.new.core in
    let frames = c.in-Ok.made.items in
    over_frames _ _ c.args.settings.now c.args.script.now _ _ _ _ (all_tell v.cells) (core_seen v w) c.run_alone-ended.result c.run_status.result c.config-config.result
    c.config-config.ensures.config
    c.run_status.ensures
    (over_made _ g.M.F.Frame.view frames v w (all_tell v.cells) g.met.M.F.Frame.unfailed
    (λ t. new_tell c.config-config.result g.M.F.Frame.view frames v c.in-Ok-new.ensures.state (c.in-Ok.ensures.tell t))
    c.in-Ok.ensures.steady c.in-Ok-new.ensures.steady c.in-Ok-new.ensures.faults c.run_alone-ended.ensures.core)
    c.run_alone-ended.ensures.run
