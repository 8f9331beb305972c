use Rattle.std.proofs.Common.{[], ◌≡◌, ◌+◌, ap, sym, ◌∙◌, Some, length, map}
use Rattle.std.specs.Prelude.{◌&&◌, nat_le}
use Rattle.std.specs.List.{range_with_len}
use Rattle.std.proofs.lemmas.Option.{slice_get-get_or}
use Rattle.doc_bits.specs.Counts.{Counted}
use Rattle.doc_bits.specs.Places.{zip_with}
use Rattle.query_lang.specs.Trees.{match_all, term, tree_of, trees_of}
use Rattle.shard_search.specs.Hits.{has_in}
use Rattle.shard_search.specs.Matches.{count_match, matches}
use Rattle.shard_search.specs.Sets.{each_of}
use Rattle.shard_search.proofs.Clauses.{keep_more, keep_done, drop_more, drop_done, count_more, count_done, none_needed, from_zero, length-zeros, map_twice, bool_set}
use Rattle.shard_search.proofs.Going.{rows_later, ok_map}
use Rattle.simpletext_postings.proofs.Fitting.{text_fits_later}
use Rattle.directory_input.proofs.Later.{no_cause, cause_join, files_join, going_join}
use Rattle.shard_search.proofs.QueryTrees.{match_all_is, term_is, bool_is}
use Rattle.shard_search.proofs.SetLemmas.{all_true}
use Rattle.shard_search.proofs.combining.+matching.Goals as goal

pub count_each-loop-query-init : goal.count_each-loop-query-init
count_each-loop-query-init g t c = record {
  goes = record { reads = []; by = g.met.B.FileBytes.by_none _ };
  cause = no_cause _;
  size = ap (λ (k : Counted). length k.counts) c.in_ok-tally.ensures ∙ length-zeros c.args.docs;
  added = ap (λ (k : Counted). k.added) c.in_ok-tally.ensures;
  counts = λ tl rows are. ap (λ (k : Counted). zip_with ◌+◌ k.counts (each_of (count_match (has_in rows) (trees_of (map tree_of c.args.queries.now))) c.args.docs)) c.in_ok-tally.ensures ∙ from_zero c.args.docs _;
}

pub count_each-loop-query-preserved : goal.count_each-loop-query-preserved
count_each-loop-query-preserved g t c =
    let i = c.loop-query.invariant in
    record {
      goes = going_join g.met.B.FileBytes.by_more i.goes c.matching.ensures.goes;
      cause = cause_join i.cause c.in-Ok.ensures.cause;
      size = c.add.ensures.length ∙ i.size;
      added = c.add.ensures.added ∙ ap (λ n. n + 1) i.added;
      counts = λ tl rows are.
          count_more (has_in rows) c.args.queries.now c.loop-query.query-index c.args.docs _ c.query-item.result c.loop-query.tally.counts c.add.new.self.counts c.in-Ok.bits
          (slice_get-get_or _ _ _ c.loop-query-test.true ∙ ap Some (sym c.query-item.is))
          (c.in-Ok.ensures.documents (i.cause.files.tells ∙ tl) rows (rows_later _ _ c.args.dictionary.now rows (i.cause.files.bytes) are))
          c.add.ensures.counts (i.counts tl rows are);
    }

pub count_each-returns-clause-counts : goal.count_each-returns-clause-counts
count_each-returns-clause-counts g t c = λ tl rows are.
    count_done (has_in rows) c.args.queries.now c.loop-query.query-index c.args.docs _ c.loop-query.tally.counts c.loop-query-test.false c.loop-query.invariant.size (c.loop-query.invariant.counts tl rows are)

pub drop_any-loop-query-preserved : goal.drop_any-loop-query-preserved
drop_any-loop-query-preserved g t c =
    let i = c.loop-query.invariant in
    record {
      goes = going_join g.met.B.FileBytes.by_more i.goes c.matching.ensures.goes;
      fits = text_fits_later c.matching.ensures.cause.files i.fits;
      cause = cause_join i.cause c.in-Ok.ensures.cause;
      size = c.and_not.ensures.length ∙ i.size;
      documents = λ tl rows are.
          drop_more (has_in rows) c.args.queries.now c.loop-query.query-index c.args.docs _ c.query-item.result c.loop-query.kept c.and_not.new.self c.in-Ok.bits
          (slice_get-get_or _ _ _ c.loop-query-test.true ∙ ap Some (sym c.query-item.is))
          (c.in-Ok.ensures.documents (i.cause.files.tells ∙ tl) rows (rows_later _ _ c.args.dictionary.now rows (i.cause.files.bytes) are))
          c.and_not.ensures.places (i.documents tl rows are);
    }

pub drop_any-returns-clause-documents : goal.drop_any-returns-clause-documents
drop_any-returns-clause-documents g t c = λ tl rows are.
    drop_done (has_in rows) c.args.queries.now c.loop-query.query-index c.args.docs _ c.loop-query.kept c.loop-query-test.false c.loop-query.invariant.size (c.loop-query.invariant.documents tl rows are)

pub keep_all-loop-query-preserved : goal.keep_all-loop-query-preserved
keep_all-loop-query-preserved g t c =
    let i = c.loop-query.invariant in
    record {
      goes = going_join g.met.B.FileBytes.by_more i.goes c.matching.ensures.goes;
      fits = text_fits_later c.matching.ensures.cause.files i.fits;
      cause = cause_join i.cause c.in-Ok.ensures.cause;
      size = c.and.ensures.length ∙ i.size;
      documents = λ tl rows are.
          keep_more (has_in rows) c.args.queries.now c.loop-query.query-index c.args.docs _ c.query-item.result c.loop-query.kept c.and.new.self c.in-Ok.bits
          (slice_get-get_or _ _ _ c.loop-query-test.true ∙ ap Some (sym c.query-item.is))
          (c.in-Ok.ensures.documents (i.cause.files.tells ∙ tl) rows (rows_later _ _ c.args.dictionary.now rows (i.cause.files.bytes) are))
          c.and.ensures.places (i.documents tl rows are);
    }

pub keep_all-returns-clause-documents : goal.keep_all-returns-clause-documents
keep_all-returns-clause-documents g t c = λ tl rows are.
    keep_done (has_in rows) c.args.queries.now c.loop-query.query-index c.args.docs _ c.loop-query.kept c.loop-query-test.false c.loop-query.invariant.size (c.loop-query.invariant.documents tl rows are)

pub keep_least-returns-then-least-eq0-clause-documents : goal.keep_least-returns-then-least-eq0-clause-documents
keep_least-returns-then-least-eq0-clause-documents g t c = λ tl rows are.
    none_needed c.args.set c.args.docs c.args.least (count_match (has_in rows) (trees_of (map tree_of c.args.queries.now))) c.if-least-eq0.true c.requires.length

pub keep_least-returns-clause-documents : goal.keep_least-returns-clause-documents
keep_least-returns-clause-documents g t c = λ tl rows are.
    c.and.ensures.places
    ∙ ap (zip_with ◌&&◌ c.args.set)
    (c.at_least.ensures.at_least ∙ ap (map (nat_le c.args.least)) (c.in-Ok.ensures.counts tl rows are)
    ∙ map_twice (nat_le c.args.least) (count_match (has_in rows) (trees_of (map tree_of c.args.queries.now))) (range_with_len 0 c.args.docs))

pub matching-returns-in_ok-ones-in-MatchAll-clause-documents : goal.matching-returns-in_ok-ones-in-MatchAll-clause-documents
matching-returns-in_ok-ones-in-MatchAll-clause-documents g t c = λ tl rows are.
    let is : tree_of c.args.query.now ≡ match_all = ap tree_of c.in-MatchAll.is ∙ match_all_is in
    c.in_ok-ones-in-MatchAll.ensures ∙ all_true c.args.docs ∙ ap (λ q. each_of (matches (has_in rows) q) c.args.docs) (sym is)

pub matching-returns-in-Term-clause-documents : goal.matching-returns-in-Term-clause-documents
matching-returns-in-Term-clause-documents g t c = λ tl rows are.
    let is : tree_of c.args.query.now ≡ term c.in-Term.field c.in-Term.value = ap tree_of c.in-Term.is ∙ term_is c.in-Term.field c.in-Term.value in
    ok_map c.docs_with.result _ _
    (λ bits h. h ∙ ap (λ q. each_of (matches (has_in rows) q) c.args.docs) (ap (λ f. term f c.as_bytes-in-Term.result.now) c.as_bytes.ensures ∙ ap (term c.in-Term.field) c.as_bytes-in-Term.ensures ∙ sym is))
    (c.docs_with.ensures.documents tl rows are)

pub matching-returns-in-Ok-drop_any-clause-documents : goal.matching-returns-in-Ok-drop_any-clause-documents
matching-returns-in-Ok-drop_any-clause-documents g t c = λ tl rows are.
    let one = c.keep_all.ensures.cause.files in
    let two = files_join one c.keep_all-in-Bool.ensures.cause.files in
    let three = files_join two c.drop_any.ensures.cause.files in
    let b = c.in-Bool in
    let is = ap tree_of b.is ∙ bool_is b.must b.filter b.should b.must_not b.minimum in
    ok_map c.keep_least.result _ _
    (λ bits h.
    bool_set (has_in rows) (tree_of c.args.query.now) _ _ _ _ b.minimum c.args.docs c.needed-least.result c.in_ok-all-in-Bool.all c.in-Ok.kept c.in-Ok-keep_all.kept c.in-Ok-drop_any.kept bits
    is c.needed-least.ensures c.in_ok-all-in-Bool.ensures
    (rw c.as_slice.ensures at (c.in-Ok.ensures.documents tl rows are))
    (rw c.as_slice-in-Bool.ensures at (c.in-Ok-keep_all.ensures.documents (one.tells ∙ tl) rows (rows_later _ _ c.args.dictionary.now rows (one.bytes) are)))
    (rw c.as_slice-in-Bool-2.ensures at (c.in-Ok-drop_any.ensures.documents (two.tells ∙ tl) rows (rows_later _ _ c.args.dictionary.now rows (two.bytes) are)))
    (rw c.as_slice-in-Bool-3.ensures at h))
    (c.keep_least.ensures.documents (three.tells ∙ tl) rows (rows_later _ _ c.args.dictionary.now rows (three.bytes) are))

pub count_each-returns-in-Err-clause-goes : goal.count_each-returns-in-Err-clause-goes
count_each-returns-in-Err-clause-goes g t c = going_join g.met.B.FileBytes.by_more c.loop-query.invariant.goes c.matching.ensures.goes

pub drop_any-returns-in-Err-clause-fits : goal.drop_any-returns-in-Err-clause-fits
drop_any-returns-in-Err-clause-fits g t c = text_fits_later c.matching.ensures.cause.files c.loop-query.invariant.fits

pub drop_any-returns-in-Err-clause-goes : goal.drop_any-returns-in-Err-clause-goes
drop_any-returns-in-Err-clause-goes g t c = going_join g.met.B.FileBytes.by_more c.loop-query.invariant.goes c.matching.ensures.goes

pub keep_all-returns-in-Err-clause-fits : goal.keep_all-returns-in-Err-clause-fits
keep_all-returns-in-Err-clause-fits g t c = text_fits_later c.matching.ensures.cause.files c.loop-query.invariant.fits

pub keep_all-returns-in-Err-clause-goes : goal.keep_all-returns-in-Err-clause-goes
keep_all-returns-in-Err-clause-goes g t c = going_join g.met.B.FileBytes.by_more c.loop-query.invariant.goes c.matching.ensures.goes

pub matching-returns-in-Err-keep_all-clause-goes : goal.matching-returns-in-Err-keep_all-clause-goes
matching-returns-in-Err-keep_all-clause-goes g t c = going_join g.met.B.FileBytes.by_more c.keep_all.ensures.goes c.keep_all-in-Bool.ensures.goes

pub matching-returns-in-Err-drop_any-clause-goes : goal.matching-returns-in-Err-drop_any-clause-goes
matching-returns-in-Err-drop_any-clause-goes g t c =
    let more = g.met.B.FileBytes.by_more in
    going_join more (going_join more c.keep_all.ensures.goes c.keep_all-in-Bool.ensures.goes) c.drop_any.ensures.goes

pub matching-returns-in-Ok-drop_any-clause-goes : goal.matching-returns-in-Ok-drop_any-clause-goes
matching-returns-in-Ok-drop_any-clause-goes g t c =
    let more = g.met.B.FileBytes.by_more in
    going_join more (going_join more (going_join more c.keep_all.ensures.goes c.keep_all-in-Bool.ensures.goes) c.drop_any.ensures.goes) c.keep_least.ensures.goes

pub matching-returns-in-Ok-drop_any-clause-cause : goal.matching-returns-in-Ok-drop_any-clause-cause
matching-returns-in-Ok-drop_any-clause-cause g t c =
    cause_join (cause_join (cause_join c.in-Ok.ensures.cause c.in-Ok-keep_all.ensures.cause) c.in-Ok-drop_any.ensures.cause) c.keep_least.ensures.cause
