use Rattle.std.proofs.Common.{◌∙◌, sym, ap, length}
use Rattle.std.specs.Prelude.{◌&&◌}
use Rattle.blob_parts.specs.Content.{content}
use Rattle.blob_parts.specs.Tables.{file_length}
use Rattle.shard_search.proofs.Shelves.{shelf_fits_same}
use Rattle.script_run.proofs.door_lines.search_line.Goals as goal

pub search_reply-reply-requires-clause-shelf : goal.search_reply-reply-requires-clause-shelf
search_reply-reply-requires-clause-shelf g c =
    let table = c.new-bytes.ensures.table in
    shelf_fits_same _ _ (ap (λ t. length t.now.files) table) (ap (λ t. file_length t.now) table) (ap (λ d. g.A.Archive.tells && (g.D.CacheDoor.view d).frames_tell) c.new-bytes.ensures.door)
    (ap (λ t. content g.A.Archive.blobs t.now.number) table) c.requires.shelf

pub returns-clause-shelf : goal.returns-clause-shelf
returns-clause-shelf g c =
    let table = c.new-bytes.ensures.table in
    let later = c.search_reply-reply.ensures.cause.files in
    shelf_fits_same _ _ (sym (later.count ∙ ap (λ t. length t.now.files) table)) (sym (later.lengths ∙ ap (λ t. file_length t.now) table))
    (sym (later.tells ∙ ap (λ d. g.A.Archive.tells && (g.D.CacheDoor.view d).frames_tell) c.new-bytes.ensures.door)) (sym (later.bytes ∙ ap (λ t. content g.A.Archive.blobs t.now.number) table))
    c.search_reply-reply.ensures.shelf
