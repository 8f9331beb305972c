use Rattle.std.proofs.Common.{◌<◌, refl, sym, length}
use Rattle.std.proofs.lemmas.Option.{slice_get_read}
use Rattle.mount_manifest.proofs.manifest.Manifest.segment.Goals as goal

pub returns-clause-kept : goal.returns-clause-kept
returns-clause-kept c =
    let inside : c.args.i < length c.self.inside.segments.items = rw (sym c.self.view_is) at c.requires in
    rw (sym c.self.view_is) (c.self.invariant.segment c.args.i _ (slice_get_read _ _ _ _ refl inside c.index.ensures))
