-- A shelf that belongs to files and segments still does at a later state of them, and with one dictionary more.
use Rattle.std.proofs.Common.{◌≡◌, ℕ, List, [], Option, Some, None, sym, refl, ap, subst, ◌∙◌, inl, inr, arith, false}
use Rattle.std.specs.Prelude.{◌≢◌, IsTrue, Ok, ◌++◌, ◌∷◌, zero, suc, slice_get, slice_set, slice_index_or, ◌<◌, length, is_some, IsSome}
use Rattle.std.specs.Option.{ForSome}
use Rattle.std.proofs.lemmas.Bool.{cases_eq}
use Rattle.std.proofs.lemmas.List.{get_or_default, get_or-set_same, get_or-set_other}
use Rattle.directory_input.specs.Files.{FilesView, FilesLater}
use Rattle.directory_input.specs.Windows.{window_bytes}
use Rattle.mount_manifest.specs.declared.record.Segment.{Segment}
use Rattle.simpletext_postings.specs.Postings.{postings}
use Rattle.simpletext_postings.specs.Terms.{TermTable}
use Rattle.simpletext_postings.specs.declared.rows.Row.{Row}
use Rattle.shard_search.specs.Hits.{in_file}
use Rattle.shard_search.specs.Sets.{AreRowsOf}
use Rattle.shard_search.specs.Shelves.{kept_at, IsKept, IsKeptBy, ShelfFits, StillKept, KeepsMore}
use Rattle.shard_search.proofs.FileLemmas.{whole_bytes}

-- ---- other states of the same files

module _ (x y : FilesView) (count : y.count ≡ x.count) (lengths : y.lengths ≡ x.lengths) (tells : y.tells ≡ x.tells) (bytes : y.bytes ≡ x.bytes) where
  is_kept_same : {s : Segment} {t : TermTable} → IsKept x s t → IsKept y s t
  is_kept_same {s} {t} h = record {
    docs = h.docs;
    input = rw lengths h.input;
    fits = record {
      file = record {
        file = rw count h.fits.file.file;
        inside = rw lengths h.fits.file.inside;
        whole = rw (tells, bytes, lengths) h.fits.file.whole;
      };
      table = rw (tells, bytes) h.fits.table;
    };
  }

  is_kept_by_same : (s : Option Segment) (t : TermTable) → IsKeptBy x s t → IsKeptBy y s t
  is_kept_by_same None t h = h
  is_kept_by_same (Some s) t h = is_kept_same h

  -- a shelf that belongs to files belongs to every other object that has the same ones
  pub shelf_fits_same : {segments : List Segment} {shelf : List (Option TermTable)} → ShelfFits x segments shelf → ShelfFits y segments shelf
  shelf_fits_same {segments} {shelf} h = record { each = λ i t at. is_kept_by_same (slice_get segments i) t (h.each i t at) }

pub is_kept_later : {x y : FilesView} {s : Segment} {t : TermTable} → FilesLater x y → IsKept x s t → IsKept y s t
is_kept_later {x} {y} later h = is_kept_same x y later.count later.lengths later.tells later.bytes h

-- so it belongs to the same files later: a caller carries it from search to search
pub shelf_fits_later : {x y : FilesView} {segments : List Segment} {shelf : List (Option TermTable)} → FilesLater x y → ShelfFits x segments shelf → ShelfFits y segments shelf
shelf_fits_later {x} {y} later h = shelf_fits_same x y later.count later.lengths later.tells later.bytes h

-- ---- what is kept

nothing_kept : (files : FilesView) (segments : List Segment) (i : ℕ) (t : TermTable) → kept_at [] i ≡ Some t → IsKeptBy files (slice_get segments i) t
nothing_kept files segments i t at = absurd (cc)

-- an empty shelf belongs to all files and segments
pub empty_fits : (files : FilesView) (segments : List Segment) → ShelfFits files segments []
empty_fits files segments = record { each = nothing_kept files segments }

pub still_same : (shelf : List (Option TermTable)) → StillKept shelf shelf
still_same shelf = record { each = λ i t at. at }

pub still_join : {a b c : List (Option TermTable)} → StillKept a b → StillKept b c → StillKept a c
still_join h k = record { each = λ i t at. k.each i t (h.each i t at) }

pub more_later : {x y : FilesView} {n : ℕ} {s : Segment} {a b : List (Option TermTable)} → FilesLater x y → KeepsMore x n s a b → KeepsMore y n s a b
more_later later h = record { still = h.still; others = h.others; here = λ t at. is_kept_later later (h.here t at) }

-- what a shelf that fits keeps at the place of a segment
pub kept_here : (files : FilesView) (segments : List Segment) (n : ℕ) (s : Segment) (shelf : List (Option TermTable)) → slice_get segments n ≡ Some s → ShelfFits files segments shelf
    → ForSome (kept_at shelf n) (IsKept files s)
kept_here files segments n s shelf there h = λ t at. subst (λ (o : Option Segment). IsKeptBy files o t) there (h.each n t at)

-- with one dictionary more it still fits
pub fits_more : {x y : FilesView} {segments : List Segment} {n : ℕ} {s : Segment} {a b : List (Option TermTable)} → slice_get segments n ≡ Some s → FilesLater x y → ShelfFits x segments a → KeepsMore y n s a b
    → ShelfFits y segments b
fits_more {x} {y} {segments} {n} {s} {a} {b} there later h k = let before = shelf_fits_later later h in record {
  each = λ i t at. elim (cases_eq i n) [
    | inl e ↦ subst (λ (j : ℕ). IsKeptBy y (slice_get segments j) t) (sym e)
        (subst (λ (o : Option Segment). IsKeptBy y o t) (sym there) (k.here t (subst (λ (j : ℕ). kept_at b j ≡ Some t) e at)))
    | inr ne ↦ before.each i t (sym (k.others i ne) ∙ at)
  ];
}

-- ---- the rows of a segment's dictionary

pub kept_rows : (files : FilesView) (s : Segment) (t : TermTable) → IsKept files s t → IsTrue files.tells
    → (rows : List Row) × AreRowsOf files.bytes t rows × (in_file s.postings (postings (files.bytes s.postings) s.docs) ≡ Ok rows)
kept_rows files s t h told =
    let whole : window_bytes files.bytes t.input ≡ files.bytes s.postings = whole_bytes files t.input s.postings h.fits.file h.input told in
    let read = (h.fits.table told).rows in
    (read.0, read.1, ap (in_file s.postings) (ap (postings (files.bytes s.postings)) (sym h.docs) ∙ ap (λ b. postings b t.docs) (sym whole) ∙ read.1))

-- ---- places

-- one place more keeps nothing
pub empty_place : (shelf : List (Option TermTable)) (i : ℕ) → kept_at (shelf ++ None ∷ []) i ≡ kept_at shelf i
empty_place [] zero = refl
empty_place [] (suc i) = refl
empty_place (o ∷ os) zero = refl
empty_place (o ∷ os) (suc i) = empty_place os i

-- what is read at a place that is there
pub read_here : (shelf : List (Option TermTable)) (n : ℕ) (o : Option TermTable) → n < length shelf → o ≡ slice_index_or shelf n o → kept_at shelf n ≡ o
read_here shelf n o below is = get_or_default shelf n None o below ∙ sym is

-- a dictionary is kept only at a place that is there
pub is_there : (shelf : List (Option TermTable)) (n : ℕ) → IsSome (kept_at shelf n) → n < length shelf
is_there [] n h = absurd (cc)
is_there (o ∷ os) zero h = omega arith
is_there (o ∷ os) (suc n) h = omega (arith, is_there os n h)

-- no dictionary was added
pub no_more : {x y : FilesView} {n : ℕ} {s : Segment} {a b : List (Option TermTable)} → ((i : ℕ) → kept_at b i ≡ kept_at a i) → FilesLater x y → ForSome (kept_at a n) (IsKept x s) → KeepsMore y n s a b
no_more {x} {y} {n} {s} {a} {b} same later here = record {
  still = record { each = λ i t at. same i ∙ at };
  others = λ i ne. same i;
  here = λ t at. is_kept_later later (here t (sym (same n) ∙ at));
}

-- a dictionary was put at its place, which kept none
module _ (files : FilesView) (n : ℕ) (s : Segment) (a b c : List (Option TermTable)) (t : TermTable) (same : (i : ℕ) → kept_at b i ≡ kept_at a i) (below : n < length b)
    (put : c ≡ slice_set b n (Some t)) where
  pub put_here : kept_at c n ≡ Some t
  put_here = ap (λ l. kept_at l n) put ∙ get_or-set_same b n (Some t) None below

  put_others : (i : ℕ) → i ≢ n → kept_at c i ≡ kept_at a i
  put_others i ne = ap (λ l. kept_at l i) put ∙ get_or-set_other b n i (Some t) None ne ∙ same i

  put_still : is_some (kept_at b n) ≡ false → (i : ℕ) (u : TermTable) → kept_at a i ≡ Some u → kept_at c i ≡ Some u
  put_still none i u at = elim (cases_eq i n) [
    | inl e ↦ let was : kept_at b n ≡ Some u = subst (λ (j : ℕ). kept_at b j ≡ Some u) e (same i ∙ at) in absurd (cc (ap is_some was))
    | inr ne ↦ put_others i ne ∙ at
  ]

  pub one_more : is_some (kept_at b n) ≡ false → IsKept files s t → KeepsMore files n s a c
  one_more none h = record {
    still = record { each = put_still none };
    others = put_others;
    here = λ u at. let same_table : t ≡ u = cc (put_here) in subst (λ (v : TermTable). IsKept files s v) same_table h;
  }
