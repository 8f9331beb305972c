use Rattle.std.proofs.Common.{◌∙◌, refl, sym, ap, subst}
use Rattle.std.specs.Prelude.{None, option_map}
use Rattle.std.specs.Ordering.{nat_cmp}
use Rattle.std.specs.Cmp.Lexicographic.{slice_cmp}
use Rattle.std.specs.List.Sorted.{IsStrictlySortedBy}
use Rattle.index_mounts.specs.Rosters.{RosterView, mounted, without}
use Rattle.index_mounts.specs.Calls.{mount_view, roster_view, number_of}
use Rattle.index_mounts.proofs.Rosters.{seen, lookup_seen, remove_seen, keys_seen, update_seen}
use Rattle.index_mounts.proofs.Kept.{kept_without}
use Rattle.index_mounts.proofs.roster.Roster.unmount.Goals as goal

pub invariant_of-self : goal.invariant_of-self
invariant_of-self g c =
    let before : RosterView = roster_view c.self.inside.mounts.entries c.self.inside.made in
    let now : RosterView = roster_view c.remove.new.self.entries c.self.inside.made in
    let ascend = subst (IsStrictlySortedBy (slice_cmp nat_cmp)) (sym (keys_seen mount_view c.remove.new.self.entries)) c.remove.ensures.ordered in
    kept_without _ _ before c.self.invariant c.args.name.now now ascend refl
    (λ other. update_seen mount_view c.args.name.now other c.self.inside.mounts.entries c.remove.new.self.entries None (c.remove.ensures.updates.0 other))

pub returns-clause-number : goal.returns-clause-number
returns-clause-number g c =
    let found = ap (option_map mount_view) c.remove.ensures.value ∙ sym (lookup_seen mount_view c.args.name.now c.self.inside.mounts.entries) in
    c.number_of.ensures ∙ ap number_of (found ∙ ap (mounted c.args.name.now) c.self.view_is)

pub returns-clause-roster : goal.returns-clause-roster
returns-clause-roster g c =
    let listed = ap (seen mount_view) c.remove.ensures.entries ∙ remove_seen mount_view c.args.name.now c.self.inside.mounts.entries in
    ap (λ mounts. record { mounts = mounts; made = c.self.inside.made }) listed ∙ ap (without c.args.name.now) c.self.view_is
