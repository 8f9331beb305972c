use Rattle.std.proofs.Common.{◌<◌, ◌/◌, length, arith, refl}
use Rattle.std.proofs.lemmas.Option.{slice_get_read}
use Rattle.blob_parts.proofs.Placed.{part_below}
use Rattle.blob_parts.proofs.table.place_in.Goals as goal

pub returns-clause-blob : goal.returns-clause-blob
returns-clause-blob c =
    let below = part_below c.args.entry.now.length c.args.entry.now.part_size c.args.at c.requires.cut.some_size c.requires.inside in
    let inside : c.args.at / c.args.entry.now.part_size < length c.args.entry.now.blobs.items = omega (arith, below, c.requires.cut.count) in
    slice_get_read c.args.entry.now.blobs.items _ _ _ refl inside c.index.ensures
