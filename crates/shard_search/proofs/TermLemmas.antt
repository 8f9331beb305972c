-- The documents of a term's postings.
use Rattle.std.proofs.Common.{◌≡◌, ℕ, zero, suc, ◌+◌, ◌<◌, ◌≤◌, Bool, true, false, List, [], ◌∷◌, length, map, sym, refl, ap, ◌∙◌, arith, Some, drop}
use Rattle.std.specs.Prelude.{slice_get, slice_set, ◌||◌, ◌==◌}
use Rattle.std.specs.List.{range_with_len}
use Rattle.std.proofs.lemmas.List.{drop_all}
use Rattle.std.proofs.lemmas.List.FromFn.{length-range_with_len}
use Rattle.std.proofs.Math.Bool.{or-false, or_assoc}
use Rattle.doc_bits.specs.Places.{zip_with}
use Rattle.simpletext_postings.specs.Rows.{RiseWithin, is_of, has_row}
use Rattle.simpletext_postings.specs.Terms.{posting_doc, postings_with}
use Rattle.simpletext_postings.specs.declared.rows.Row.{Row}
use Rattle.simpletext_postings.specs.declared.posting.Posting.{Posting}
use Rattle.shard_search.specs.Sets.{each_of, has_posting}
use Rattle.shard_search.proofs.SetLemmas.{zip_join, zip_unit, put_is, each_same}
use Rattle.byte_text.proofs.Lists.{drop_get}

pub one_more : (postings : List Posting) (i docs : ℕ) (p : Posting) (set new whole : List Bool) → slice_get postings i ≡ Some p → length set ≡ docs → new ≡ slice_set set p.doc true
    → zip_with ◌||◌ set (each_of (has_posting (drop i postings)) docs) ≡ whole
    → zip_with ◌||◌ new (each_of (has_posting (drop (i + 1) postings)) docs) ≡ whole
one_more postings i docs p set new whole at n made before =
    ap (λ s. zip_with ◌||◌ s (each_of (has_posting (drop (i + 1) postings)) docs)) (made ∙ put_is set p.doc docs n)
    ∙ zip_join ◌||◌ ◌||◌ ◌||◌ or_assoc set (λ d. p.doc == d) (has_posting (drop (i + 1) postings)) (range_with_len 0 docs)
    ∙ ap (λ ps. zip_with ◌||◌ set (each_of (has_posting ps) docs)) (sym (drop_get postings i p at))
    ∙ before

pub all_done : (postings : List Posting) (i docs : ℕ) (set whole : List Bool) → length postings ≤ i → length set ≡ docs
    → zip_with ◌||◌ set (each_of (has_posting (drop i postings)) docs) ≡ whole → set ≡ whole
all_done postings i docs set whole past n before =
    sym (zip_unit ◌||◌ false or-false set (range_with_len 0 docs) (n ∙ sym (length-range_with_len 0 docs)))
    ∙ ap (λ ps. zip_with ◌||◌ set (each_of (has_posting ps) docs)) (sym (drop_all i postings past))
    ∙ before

pub is_below : (low docs i : ℕ) (ps : List Posting) (p : Posting) → slice_get ps i ≡ Some p → RiseWithin low docs (map posting_doc ps) → p.doc < docs
is_below low docs i [] p at h = absurd (cc)
is_below low docs zero (q ∷ ps) p at h = let e : q ≡ p = cc in ap_below q p e h.1
  where
    ap_below : (q p : Posting) → q ≡ p → q.doc < docs → p.doc < docs
    ap_below q p e h = let f : q.doc ≡ p.doc = ap (λ (x : Posting). x.doc) e in omega arith
is_below low docs (suc i) (q ∷ ps) p at h = is_below (q.doc + 1) docs i ps p at h.2

same_cases : (field term : List ℕ) (r : Row) (rows : List Row) (d : ℕ) (b : Bool) → is_of field term r ≡ b → has_posting (postings_with field term rows) d ≡ has_row field term rows d
    → has_posting (postings_with field term (r ∷ rows)) d ≡ has_row field term (r ∷ rows) d
same_cases field term r rows d true e h = rw e (ap (λ b. (r.doc == d) || b) h)
same_cases field term r rows d false e h = rw e h

has_same : (field term : List ℕ) (rows : List Row) (d : ℕ) → has_posting (postings_with field term rows) d ≡ has_row field term rows d
has_same field term [] d = refl
has_same field term (r ∷ rows) d = same_cases field term r rows d (is_of field term r) refl (has_same field term rows d)

pub set_is : (field term : List ℕ) (rows : List Row) (docs : ℕ) → each_of (has_posting (postings_with field term rows)) docs ≡ each_of (has_row field term rows) docs
set_is field term rows docs = each_same (has_posting (postings_with field term rows)) (has_row field term rows) docs (has_same field term rows)
