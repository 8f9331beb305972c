use Rattle.std.proofs.Common.{◌<◌, length, sym, arith}
use Rattle.std.proofs.lemmas.List.{length-map}
use Rattle.blob_parts.specs.Entries.{parts_in}
use Rattle.blob_parts.proofs.Placed.{read_mapped}
use Rattle.blob_parts.proofs.table.PartTable.entry.Goals as goal

pub returns-clause-cut : goal.returns-clause-cut
returns-clause-cut g c =
    let asked = rw (sym c.self.view_is) at c.requires in
    let inside : c.args.file < length c.self.inside.entries.items = omega (arith, length-map c.self.inside.entries.items parts_in, asked) in
    c.self.invariant.cut c.args.file _ (read_mapped parts_in c.self.inside.entries.items c.args.file _ inside c.index.ensures)

pub returns-clause-blobs : goal.returns-clause-blobs
returns-clause-blobs g c tells =
    let asked = rw (sym c.self.view_is) at c.requires in
    let inside : c.args.file < length c.self.inside.entries.items = omega (arith, length-map c.self.inside.entries.items parts_in, asked) in
    rw (sym c.self.view_is) (c.self.invariant.found tells c.args.file _ (read_mapped parts_in c.self.inside.entries.items c.args.file _ inside c.index.ensures))
