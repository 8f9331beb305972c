use Rattle.std.proofs.Common.{rules}
use Rattle.script_run.proofs.Carried.{mount_carried}
use Rattle.script_run.proofs.core_lines.core_mount.Goals as goal

pub returns-clause-does : goal.returns-clause-does
returns-clause-does g c =
    mount_carried _ _ _ c.core-1.given.0 c.mount_line.new.door.core.now _ c.mount_line.new.door.actor c.mount_line.ensures.does c.door-door.ensures.core c.door-door.ensures.actor (search rules) c.mount_line.ensures.stays.1
