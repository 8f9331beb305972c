use Rattle.std.proofs.Common.{rules, sym}
use Rattle.blob_parts.specs.Content.{wrong_in}
use Rattle.blob_parts.specs.Entries.{parts_in}
use Rattle.blob_parts.proofs.Resolved.{file_stop, file_next, refused_whole, sized_files_next}
use Rattle.blob_parts.proofs.Placed.{read_mapped}
use Rattle.blob_parts.proofs.resolving.size_files.Goals as goal

pub size_parts-requires-clause-count : goal.size_parts-requires-clause-count
size_parts-requires-clause-count g c =
    let at = read_mapped parts_in c.args.entries.now c.loop-i.i c.index-entries-i.result (search rules) c.index-entries-i.is in
    rw (c.deref.ensures.value, sym c.index-entries-i.is) (c.requires.entries c.loop-i.i _ at _ c.file.ensures.value).count

pub size_parts-requires-clause-named : goal.size_parts-requires-clause-named
size_parts-requires-clause-named g c tells =
    let at = read_mapped parts_in c.args.entries.now c.loop-i.i c.index-entries-i.result (search rules) c.index-entries-i.is in
    rw (c.deref.ensures.value, sym c.index-entries-i.is) ((c.requires.entries c.loop-i.i _ at _ c.file.ensures.value).named tells)

pub returns-in-Err-clause-wrong : goal.returns-in-Err-clause-wrong
returns-in-Err-clause-wrong g c tells =
    refused_whole _ _ _ (file_stop (wrong_in g.A.Archive.blobs) c.args.manifest.now.files c.loop-i.i _ c.file.ensures.value (c.loop-i.invariant.0 tells)) (c.in-Err.ensures.wrong tells)

pub loop-i-preserved : goal.loop-i-preserved
loop-i-preserved g c =
    let at = read_mapped parts_in c.args.entries.now c.loop-i.i c.index-entries-i.result (search rules) c.index-entries-i.is in (
      λ tells. file_next (wrong_in g.A.Archive.blobs) c.args.manifest.now.files c.loop-i.i _ c.file.ensures.value (c.loop-i.invariant.0 tells) (c.in-Ok.ensures.wrong tells),
      λ tells. sized_files_next g.A.Archive.tells g.A.Archive.blobs c.args.manifest.now.files _ c.loop-i.i _ _ c.file.ensures.value at (c.loop-i.invariant.1 tells)
          (let own = c.in-Ok.ensures.sized tells in let same = rw (c.deref.ensures.value, sym c.index-entries-i.is) at own in same),
      search rules,
      search rules,
      search rules,
    )
