use Rattle.std.proofs.Common.{◌∙◌, sym, ap, subst}
use Rattle.std.specs.Prelude.{option_map}
use Rattle.index_mounts.specs.Rosters.{mounted, IsRoster}
use Rattle.index_mounts.specs.Calls.{mount_view}
use Rattle.index_mounts.proofs.Rosters.{lookup_seen, seen_copied}
use Rattle.index_mounts.proofs.Kept.{found_kept, found_below}
use Rattle.index_mounts.proofs.roster.Roster.find.Goals as goal

pub returns-clause-mount : goal.returns-clause-mount
returns-clause-mount g c =
    seen_copied mount_view c.get.result ∙ ap (option_map mount_view) c.get.ensures.value
    ∙ sym (lookup_seen mount_view c.args.name.now c.self.inside.mounts.entries) ∙ ap (mounted c.args.name.now) c.self.view_is

pub returns-clause-kept : goal.returns-clause-kept
returns-clause-kept g c =
    let kept = subst (IsRoster g.A.Archive.tells g.A.Archive.blobs) c.self.view_is c.self.invariant in
    found_kept _ _ c.args.self.now kept mount_view c.args.name.now c.get.result (returns-clause-mount g c)

pub returns-clause-below : goal.returns-clause-below
returns-clause-below g c =
    let kept = subst (IsRoster g.A.Archive.tells g.A.Archive.blobs) c.self.view_is c.self.invariant in
    found_below _ _ c.args.self.now kept mount_view c.args.name.now c.get.result (returns-clause-mount g c)
