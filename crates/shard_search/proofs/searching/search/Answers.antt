use Rattle.std.proofs.Common.{◌∙◌, ◌-◌, arith, length}
use Rattle.query_lang.specs.Trees.{tree_of}
use Rattle.directory_input.proofs.Later.{cause_join, going_join}
use Rattle.shard_search.proofs.FileLemmas.{at_some}
use Rattle.shard_search.proofs.HitLemmas.{one_segment, bad_segment, shown_more, hits_within}
use Rattle.shard_search.proofs.Shelves.{kept_here, fits_more, still_join}
use Rattle.shard_search.proofs.searching.search.Goals as goal

pub found_in-requires-clause-kept : goal.found_in-requires-clause-kept
found_in-requires-clause-kept g c =
    kept_here (g.B.FileBytes.view c.loop-number.bytes) c.args.shard.now.segments c.loop-number.number c.segment-segment.result.now c.loop-number.shelf c.segment-segment.ensures.value c.loop-number.invariant.fits

pub loop-number-preserved : goal.loop-number-preserved
loop-number-preserved g c =
    let i = c.loop-number.invariant in
    let counted = c.from-total.ensures ∙ c.count.ensures in
    record {
      goes = going_join g.met.B.FileBytes.by_more i.goes c.found_in.ensures.goes;
      cause = cause_join i.cause c.in-Ok.ensures.cause;
      fits = fits_more c.segment-segment.ensures.value c.in-Ok.ensures.cause.files i.fits c.found_in.ensures.more;
      kept = still_join i.kept c.found_in.ensures.more.still;
      small = omega (arith, i.small, c.from-total.ensures, c.count.type_inv);
      shown = shown_more c.args.size c.loop-number.total c.from-total.result c.loop-number.number c.loop-number.list c.show.new.list _ i.shown counted c.in_ok-show.ensures;
      within = hits_within c.args.shard.now.segments c.loop-number.number (c.args.size - length c.loop-number.list) c.segment-segment.result.now c.in-Ok.found c.loop-number.list c.show.new.list
          c.segment-segment.ensures.value c.in-Ok.ensures.length i.within c.in_ok-show.ensures;
      hits = λ t.
          one_segment (g.B.FileBytes.view c.args.bytes.now).bytes (tree_of c.args.query.now) c.args.shard.now.segments c.loop-number.number c.segment-segment.result.now c.segment-segment.ensures.value _
          c.args.size c.loop-number.total c.from-total.result c.loop-number.list c.show.new.list _ counted
          (rw (i.cause.files.bytes) at (c.in-Ok.ensures.documents (i.cause.files.tells ∙ t)))
          c.in_ok-show.ensures (i.hits t);
    }

pub returns-in-Err-clause-hits : goal.returns-in-Err-clause-hits
returns-in-Err-clause-hits g c = λ t.
    let i = c.loop-number.invariant in
    let so_far = i.hits t in
    bad_segment (g.B.FileBytes.view c.args.bytes.now).bytes (tree_of c.args.query.now) c.args.shard.now.segments c.loop-number.number c.segment-segment.result.now c.segment-segment.ensures.value _
    c.in-Err.e so_far.0
    (rw (i.cause.files.bytes) at (c.in-Err.ensures.documents (i.cause.files.tells ∙ t)))
    so_far.3

pub returns-in-Err-clause-known : goal.returns-in-Err-clause-known
returns-in-Err-clause-known g c =
    let kept = c.segment-segment.ensures.kept in
    c.in-Err.ensures.known (length c.args.shard.now.files) kept.postings (at_some c.segment-segment.result.now.live (length c.args.shard.now.files) kept.live)

pub returns-in-Err-clause-goes : goal.returns-in-Err-clause-goes
returns-in-Err-clause-goes g c = going_join g.met.B.FileBytes.by_more c.loop-number.invariant.goes c.found_in.ensures.goes

pub returns-in_err-show-clause-goes : goal.returns-in_err-show-clause-goes
returns-in_err-show-clause-goes g c = going_join g.met.B.FileBytes.by_more c.loop-number.invariant.goes c.found_in.ensures.goes

pub returns-in-Err-clause-shelf : goal.returns-in-Err-clause-shelf
returns-in-Err-clause-shelf g c = fits_more c.segment-segment.ensures.value c.found_in.ensures.cause.files c.loop-number.invariant.fits c.found_in.ensures.more

pub returns-in-Err-clause-kept : goal.returns-in-Err-clause-kept
returns-in-Err-clause-kept g c = still_join c.loop-number.invariant.kept c.found_in.ensures.more.still

pub returns-in_err-show-clause-shelf : goal.returns-in_err-show-clause-shelf
returns-in_err-show-clause-shelf g c = fits_more c.segment-segment.ensures.value c.found_in.ensures.cause.files c.loop-number.invariant.fits c.found_in.ensures.more
