use Rattle.blob_parts.specs.Entries.{parts_in}
use Rattle.blob_parts.proofs.Placed.{placed}
use Rattle.blob_parts.proofs.table.PartTable.place.Goals as goal

pub returns-clause-placed : goal.returns-clause-placed
returns-clause-placed g c tells =
    let own = c.place_in.ensures in
    placed g.A.Archive.blobs c.args.self.now.number c.args.file (parts_in c.entry.result.now) c.args.at _ c.place_in.result.blob c.place_in.result.at c.place_in.result.room
    (c.entry.ensures.blobs tells) own.blob own.whole own.room own.some
