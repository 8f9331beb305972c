use Rattle.blob_parts.specs.Entries.{parts_in}
use Rattle.blob_parts.proofs.Placed.{found_length}
use Rattle.blob_parts.proofs.table.PartTable.length.Goals as goal

pub returns-clause-whole : goal.returns-clause-whole
returns-clause-whole g c tells =
    found_length g.A.Archive.blobs c.args.self.now.number c.args.file (parts_in c.entry.result.now) c.entry.ensures.cut (c.entry.ensures.blobs tells)
