-- The parts that an entry of a table states.
use Rattle.blob_parts.specs.Tables.{FileParts}
use Rattle.blob_parts.specs.declared.table.FileEntry.{FileEntry}

abbrev pub parts_in : FileEntry → FileParts
parts_in e = record { length = e.length; part_size = e.part_size; blobs = e.blobs.items }
