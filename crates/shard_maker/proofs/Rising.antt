-- The rows that are made may be written: each is a row, and each may follow the one before it.
use Rattle.std.proofs.Common.{◌≡◌, ◌∙◌, ◌<◌, ◌≤◌, ◌+◌, ◌*◌, ◌/◌, ◌%◌, refl, sym, ap, subst, arith, ℕ, zero, suc, List, [], ◌∷◌, ◌++◌, map, Bool, true, false}
use Rattle.std.specs.Prelude.{◌||◌, ◌&&◌, filter, nat_le, nat_lt}
use Rattle.std.specs.Ordering.{nat_cmp, is_lt}
use Rattle.std.specs.Cmp.Lexicographic.{slice_cmp}
use Rattle.std.specs.Str.{bytes_eq}
use Rattle.std.specs.List.{list_all, range_with_len}
use Rattle.std.proofs.Math.Nat.{div-lt_iff_lt-mul, mod-lt, div-add-mod, lt-mul-div-succ, mul_comm, mul-le-mul_left}
use Rattle.std.proofs.lemmas.Bool.{leb-true, leb-false, lt-ltb, le-leb}
use Rattle.std.proofs.lemmas.Slice.Eq.{bytes_eq-Decides}
use Rattle.std.proofs.Math.Bool.{or-true}
use Rattle.simpletext_postings.specs.declared.rows.Row.{Row}
use Rattle.simpletext_postings.specs.Rows.{is_row, is_small, fits_line, is_later, may_follow, each_follows, are_rows, RiseWithin}
use Rattle.shard_maker.specs.MadeRows.{term_name, pair_row, is_had, rows_below}
use Rattle.shard_maker.specs.Made.{AreLimits}
use Rattle.shard_maker.proofs.Names.{names_rise, escape_short}
use Rattle.shard_maker.proofs.Lists.{rows_had}

-- ---- numbers that are left of a range

rise_weaker : (lower low top : ℕ) (xs : List ℕ) → lower ≤ low → RiseWithin low top xs → RiseWithin lower top xs
rise_weaker lower low top [] h r = tt {0}
rise_weaker lower low top (x ∷ xs) h r = (omega (arith, h, r.0), r.1, r.2)

pub rise_filter : (test : ℕ → Bool) (low n top : ℕ) → low + n ≤ top → RiseWithin low top (filter test (range_with_len low n))
rise_filter test low zero top h = tt {0}
rise_filter test low (suc n) top h = by (test low) refl (rise_filter test (low + 1) n top (omega (arith, h)))
  where
    by : (passes : Bool) → test low ≡ passes → RiseWithin (low + 1) top (filter test (range_with_len (low + 1) n)) → RiseWithin low top (filter test (range_with_len low (suc n)))
    by true e rest = rw e (omega arith, omega (arith, h), rest)
    by false e rest = rw e (rise_weaker low (low + 1) top _ (omega arith) rest)

module _ (docs : ℕ) (some : 0 < docs) (few : docs ≤ 100000) where
  pub term_small : (x : ℕ) → x < 100000 * docs → x / docs < 100000
  term_small x h = (div-lt_iff_lt-mul {k = docs} {x = x} {y = 100000} some).1 h

  -- ---- one row

  pub pair_is_row : (x : ℕ) → x < 100000 * docs → is_row docs (pair_row docs x) ≡ true
  pair_is_row x h =
      let doc = mod-lt x {m = docs} some in
      let term = term_small x h in
      let short = escape_short (term_name (x / docs)) in
      let below : nat_lt (x % docs) docs ≡ true = lt-ltb _ _ doc in
      let small_doc : is_small (x % docs) ≡ true = lt-ltb _ _ (omega (arith, doc, few)) in
      let small_term : is_small (x / docs) ≡ true = lt-ltb _ _ (omega (arith, term)) in
      let line : fits_line 7 (term_name (x / docs)) ≡ true = le-leb _ _ (omega (arith, short)) in
      rw (below, small_doc, small_term, line)

  -- ---- a later row

  term_rises : (m x : ℕ) → m < x → m / docs ≤ x / docs
  term_rises m x rises =
      let past = lt-mul-div-succ x {b = docs} some in
      let below = (div-lt_iff_lt-mul {k = docs} {x = m} {y = x / docs + 1} some).1 (omega (arith, rises, past)) in
      omega (arith, below)

  later_by : (m x : ℕ) → m < x → x < 100000 * docs → (back : Bool) → nat_le (x / docs) (m / docs) ≡ back → is_later (pair_row docs m) (pair_row docs x) ≡ true
  later_by m x rises top true e =
      let same : x / docs ≡ m / docs = omega (arith, leb-true (x / docs) (m / docs) e, term_rises m x rises) in
      let first = div-add-mod m docs in
      let second : docs * (m / docs) + x % docs ≡ x = ap (λ q. docs * q + x % docs) (sym same) ∙ div-add-mod x docs in
      let docs_rise : m % docs < x % docs = omega (arith, first, second, rises) in
      let equal : bytes_eq (term_name (m / docs)) (term_name (x / docs)) ≡ true = (bytes_eq-Decides _ _).1 (ap term_name (sym same)) in
      let later : nat_lt (m % docs) (x % docs) ≡ true = lt-ltb _ _ docs_rise in
      ap (λ b. (b && nat_lt (m % docs) (x % docs)) || is_lt (slice_cmp nat_cmp (term_name (m / docs)) (term_name (x / docs)))) equal
      ∙ ap (λ b. b || is_lt (slice_cmp nat_cmp (term_name (m / docs)) (term_name (x / docs)))) later
  later_by m x rises top false e =
      let above = names_rise (m / docs) (x / docs) (leb-false _ _ e) (term_small x top) in
      ap (λ b. (bytes_eq (term_name (m / docs)) (term_name (x / docs)) && nat_lt (m % docs) (x % docs)) || b) above ∙ or-true _

  -- the newest row, if there is one, is that of an earlier pair
  abbrev Earlier : List Row → ℕ → Type 0
  Earlier [] low = Unit {0}
  Earlier (p ∷ before) low = (m : ℕ) × (m < low) × (p ≡ pair_row docs m)

  may : (before : List Row) (low x : ℕ) → Earlier before low → low ≤ x → x < 100000 * docs → may_follow before (pair_row docs x) ≡ true
  may [] low x e h top = refl
  may (p ∷ before) low x e h top =
      let later = later_by e.0 x (omega (arith, e.1, h)) top (nat_le (x / docs) (e.0 / docs)) refl in
      subst (λ q. may_follow (q ∷ before) (pair_row docs x) ≡ true) (sym e.2) later

  follow : (before : List Row) (low : ℕ) (xs : List ℕ) → Earlier before low → RiseWithin low (100000 * docs) xs → each_follows before (map (pair_row docs) xs) ≡ true
  follow before low [] e r = refl
  follow before low (x ∷ xs) e r =
      let here = may before low x e r.0 r.1 in
      let rest = follow (pair_row docs x ∷ before) (x + 1) xs (x, omega arith, refl) r.2 in
      ap (λ b. b && each_follows (pair_row docs x ∷ before) (map (pair_row docs) xs)) here ∙ rest

  each_is_row : (low : ℕ) (xs : List ℕ) → RiseWithin low (100000 * docs) xs → list_all (is_row docs) (map (pair_row docs) xs) ≡ true
  each_is_row low [] r = refl
  each_is_row low (x ∷ xs) r =
      ap (λ b. b && list_all (is_row docs) (map (pair_row docs) xs)) (pair_is_row x r.1) ∙ each_is_row (x + 1) xs r.2

  pub rows_are : (seed n : ℕ) → n ≤ 100000 * docs → are_rows docs (rows_below seed docs n) ≡ true
  rows_are seed n h =
      let rise = rise_filter (is_had seed) 0 n (100000 * docs) (omega (arith, h)) in
      ap (λ b. b && each_follows [] (rows_below seed docs n)) (each_is_row 0 _ rise) ∙ follow [] 0 _ (tt {0}) rise

pub within_limits : (docs terms : ℕ) → terms ≤ 100000 → docs * terms ≤ 100000 * docs
within_limits docs terms h = subst (λ p. docs * terms ≤ p) (mul_comm docs 100000) (mul-le-mul_left docs h)

-- the row of the next pair that is had may stand behind the rows so far
pub may_push : (seed docs terms n : ℕ) (rows : List Row) (r : Row) → AreLimits docs terms → n < docs * terms → is_had seed n ≡ true → rows ≡ rows_below seed docs n → r ≡ pair_row docs n
    → are_rows docs (rows ++ r ∷ []) ≡ true
may_push seed docs terms n rows r limits below had e f =
    let wide = within_limits docs terms limits.few_terms in
    let all = rows_are docs limits.some_docs limits.few_docs seed (n + 1) (omega (arith, below, wide)) in
    let same : rows ++ r ∷ [] ≡ rows_below seed docs (n + 1) = ap (λ xs. xs ++ r ∷ []) e ∙ ap (λ x. rows_below seed docs n ++ x ∷ []) f ∙ sym (rows_had seed docs n had) in
    ap (are_rows docs) same ∙ all
