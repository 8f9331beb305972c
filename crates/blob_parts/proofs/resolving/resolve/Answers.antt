use Rattle.std.proofs.Common.{◌≡◌, length, map, arith}
use Rattle.std.proofs.lemmas.List.{length-map}
use Rattle.blob_parts.specs.Entries.{parts_in}
use Rattle.blob_parts.proofs.Tabled.{table_is, lengths_same}
use Rattle.blob_parts.proofs.resolving.resolve.Goals as goal

pub size_files-requires-clause-entries : goal.size_files-requires-clause-entries
size_files-requires-clause-entries g c = rw c.deref.ensures.value c.in-Ok.ensures.entries

pub of-requires : goal.of-requires
of-requires g c =
    let count : length (map parts_in c.in-Ok.entries.items) ≡ length c.args.manifest.now.files =
    omega (arith, length-map c.in-Ok.entries.items parts_in, c.in-Ok.ensures.count) in
    table_is g.A.Archive.tells g.A.Archive.blobs c.args.number c.args.manifest.now (map parts_in c.in-Ok.entries.items)
    c.requires.small c.requires.whole c.lesson.ensures count c.in-Ok.ensures.entries
    (λ tells. let own = c.in-Ok-size_files.ensures.sized tells in let same = rw c.deref.ensures.value at own in same)

pub returns-in-Ok-size_files-clause-files : goal.returns-in-Ok-size_files-clause-files
returns-in-Ok-size_files-clause-files g c =
    let count : length (map parts_in c.in-Ok.entries.items) ≡ length c.args.manifest.now.files =
    omega (arith, length-map c.in-Ok.entries.items parts_in, c.in-Ok.ensures.count) in
    rw c.of.ensures (lengths_same g.A.Archive.tells g.A.Archive.blobs c.args.manifest.now.files (map parts_in c.in-Ok.entries.items) count c.in-Ok.ensures.entries)
