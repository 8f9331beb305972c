use Rattle.std.proofs.Common.{◌≡◌, ◌∙◌, ◌+◌, refl, sym, ap, subst}
use Rattle.std.specs.Prelude.{Ok}
use Rattle.std.specs.Ordering.{nat_cmp}
use Rattle.std.specs.Cmp.Lexicographic.{slice_cmp}
use Rattle.std.specs.List.Sorted.{IsStrictlySortedBy}
use Rattle.index_mounts.specs.Rosters.{RosterView, MountView, with_mount}
use Rattle.index_mounts.specs.Calls.{mount_view, roster_view, check_of}
use Rattle.index_mounts.proofs.Rosters.{seen, insert_seen, keys_seen, update_seen}
use Rattle.index_mounts.proofs.Kept.{kept_with, has_room}
use Rattle.index_mounts.proofs.roster.Roster.mount.Goals as goal

pub invariant_of-self-2 : goal.invariant_of-self-2
invariant_of-self-2 g c =
    let before : RosterView = roster_view c.self.inside.mounts.entries c.self.inside.made in
    let now : RosterView = roster_view c.insert.new.self.entries (c.self.inside.made + 1) in
    let new : MountView = record { mount = c.self.inside.made; number = c.args.number; facts = c.args.manifest; parts = c.args.parts } in
    let checked = subst (λ (r : RosterView). check_of c.args.name r ≡ Ok (tt {0})) (sym c.self.view_is) (sym c.in_ok-check.ensures) in
    let ascend = subst (IsStrictlySortedBy (slice_cmp nat_cmp)) (sym (keys_seen mount_view c.insert.new.self.entries)) c.in_ok-insert.ensures.ordered in
    kept_with _ _ before c.self.invariant c.args.name now ascend new refl c.requires (has_room c.args.name before checked) refl
    (λ other. update_seen mount_view c.args.name other c.self.inside.mounts.entries c.insert.new.self.entries _ (c.in_ok-insert.ensures.updates.0 other))

pub returns : goal.returns
returns g c =
    let listed = ap (seen mount_view) c.in_ok-insert.ensures.entries ∙ insert_seen mount_view c.self.inside.mounts.entries c.args.name _ in
    let view : roster_view c.insert.new.self.entries (c.self.inside.made + 1) ≡ _ = ap (λ mounts. record { mounts = mounts; made = c.self.inside.made + 1 }) listed in
    (sym c.in_ok-check.ensures, ap (λ (r : RosterView). r.made) c.self.view_is, view ∙ ap (with_mount c.args.name c.args.number c.args.manifest c.args.parts) c.self.view_is)
