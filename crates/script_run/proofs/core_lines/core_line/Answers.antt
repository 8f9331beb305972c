use Rattle.std.proofs.Common.{Bool, ap, rules, subst}
use Rattle.std.specs.Prelude.{◌&&◌}
use Rattle.cache_door.specs.Cores.{CoreView, all_tell}
use Rattle.script_run.specs.Shelves.{ShelvesFit}
use Rattle.script_run.proofs.Carried.{line_carried}
use Rattle.script_run.proofs.core_lines.core_line.Goals as goal

pub returns-clause-does : goal.returns-clause-does
returns-clause-does g c =
    line_carried _ _ _ _ _ _ _ _ _ _ c.core-1.given.0 c.run_line.new.door.core.now _ c.run_line.new.door.actor c.run_line.ensures.does c.door-door.ensures.core c.door-door.ensures.actor (search rules) c.run_line.ensures.stays.1

pub returns-clause-shelves : goal.returns-clause-shelves
returns-clause-shelves g c =
    subst (λ (f : Bool). ShelvesFit (g.A.Archive.tells && f) g.A.Archive.blobs c.args.roster.now c.run_line.new.shelves) (ap (λ (v : CoreView). all_tell v.cells) c.door-door.ensures.core) c.run_line.ensures.shelves
