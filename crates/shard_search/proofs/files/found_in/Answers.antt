use Rattle.std.proofs.Common.{◌∙◌, ap, sym, ℕ, List}
use Rattle.query_lang.specs.Trees.{tree_of}
use Rattle.directory_input.proofs.Later.{files_join, going_join}
use Rattle.simpletext_postings.specs.Postings.{postings}
use Rattle.simpletext_postings.proofs.Fitting.{text_fits_later}
use Rattle.shard_search.specs.Hits.{in_file}
use Rattle.shard_search.proofs.FileLemmas.{found, length_kept, bad_live}
use Rattle.shard_search.proofs.Going.{rows_later}
use Rattle.shard_search.proofs.Shelves.{kept_rows, more_later}
use Rattle.shard_search.proofs.files.found_in.Goals as goal

pub returns-clause-documents : goal.returns-clause-documents
returns-clause-documents g c = λ t.
    let one = c.keep.ensures.cause.files in
    let two = files_join one c.live_set.ensures.cause.files in
    let t1 = one.tells ∙ t in
    let table = c.dictionary-dictionary.result.now in
    let kept = c.keep.ensures.more.here table c.dictionary-dictionary.ensures in
    let rows = kept_rows (g.B.FileBytes.view c.keep.new.bytes) c.args.segment.now table kept t1 in
    found (g.B.FileBytes.view c.args.bytes.now).bytes (tree_of c.args.query.now) c.args.segment.now rows.0 c.in-Ok.live c.in-Ok-matching.bits c.and_live.result
    (ap (λ (b : ℕ → List ℕ). in_file c.args.segment.now.postings (postings (b c.args.segment.now.postings) c.args.segment.now.docs)) (sym one.bytes) ∙ rows.2)
    (rw (one.bytes) at (c.in-Ok.ensures.documents t1))
    c.in-Ok.ensures.length
    (c.in-Ok-matching.ensures.documents (two.tells ∙ t) rows.0 (rows_later _ _ table rows.0 c.live_set.ensures.cause.files.bytes rows.1))
    c.and_live.ensures

pub returns-in-Err-live_set-clause-documents : goal.returns-in-Err-live_set-clause-documents
returns-in-Err-live_set-clause-documents g c = λ t.
    let one = c.keep.ensures.cause.files in
    let t1 = one.tells ∙ t in
    let table = c.dictionary-dictionary.result.now in
    let rows = kept_rows (g.B.FileBytes.view c.keep.new.bytes) c.args.segment.now table (c.keep.ensures.more.here table c.dictionary-dictionary.ensures) t1 in
    bad_live (g.B.FileBytes.view c.args.bytes.now).bytes (tree_of c.args.query.now) c.args.segment.now rows.0 c.in-Err-live_set.e
    (ap (λ (b : ℕ → List ℕ). in_file c.args.segment.now.postings (postings (b c.args.segment.now.postings) c.args.segment.now.docs)) (sym one.bytes) ∙ rows.2)
    (rw (one.bytes) at (c.in-Err-live_set.ensures.documents t1))

pub matching-requires-clause-docs : goal.matching-requires-clause-docs
matching-requires-clause-docs g c = sym (c.keep.ensures.more.here c.dictionary-dictionary.result.now c.dictionary-dictionary.ensures).docs

pub matching-requires-clause-fits : goal.matching-requires-clause-fits
matching-requires-clause-fits g c = text_fits_later c.live_set.ensures.cause.files (c.keep.ensures.more.here c.dictionary-dictionary.result.now c.dictionary-dictionary.ensures).fits

pub returns-in-Err-live_set-clause-more : goal.returns-in-Err-live_set-clause-more
returns-in-Err-live_set-clause-more g c = more_later c.live_set.ensures.cause.files c.keep.ensures.more

pub returns-in-Err-matching-clause-more : goal.returns-in-Err-matching-clause-more
returns-in-Err-matching-clause-more g c = more_later (files_join c.live_set.ensures.cause.files c.matching.ensures.cause.files) c.keep.ensures.more

pub returns-clause-length : goal.returns-clause-length
returns-clause-length g c = length_kept c.in-Ok.live c.in-Ok-matching.bits c.and_live.result c.args.segment.now.docs c.in-Ok-matching.ensures.length c.in-Ok.ensures.length c.and_live.ensures

pub returns-clause-more : goal.returns-clause-more
returns-clause-more g c = more_later (files_join c.live_set.ensures.cause.files c.matching.ensures.cause.files) c.keep.ensures.more

pub returns-clause-goes : goal.returns-clause-goes
returns-clause-goes g c =
    let more = g.met.B.FileBytes.by_more in
    going_join more (going_join more c.keep.ensures.goes c.live_set.ensures.goes) c.matching.ensures.goes

pub returns-in-Err-live_set-clause-goes : goal.returns-in-Err-live_set-clause-goes
returns-in-Err-live_set-clause-goes g c = going_join g.met.B.FileBytes.by_more c.keep.ensures.goes c.live_set.ensures.goes

pub returns-in-Err-matching-clause-goes : goal.returns-in-Err-matching-clause-goes
returns-in-Err-matching-clause-goes g c =
    let more = g.met.B.FileBytes.by_more in
    going_join more (going_join more c.keep.ensures.goes c.live_set.ensures.goes) c.matching.ensures.goes
