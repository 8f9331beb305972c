use Rattle.std.proofs.Common.{◌∙◌, sym, ap}
use Rattle.index_mounts.specs.Rosters.{mounted}
use Rattle.script_run.proofs.KeptShelves.{used_is_named}
use Rattle.script_run.proofs.line.shelf_line.Goals as goal

pub mounted_line-requires-clause-shelf : goal.mounted_line-requires-clause-shelf
mounted_line-requires-clause-shelf g c =
    c.requires.shelf _ (ap (λ n. mounted n c.args.roster.now) (used_is_named c.args.command.now c.in-Some.name.now (sym c.in-Some.ensures)) ∙ sym c.in-Some-find.ensures.mount)
