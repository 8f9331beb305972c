-- Numbers that a range has more, and how many there are.
use Rattle.std.proofs.Common.{◌≡◌, ◌∙◌, ◌≤◌, ◌+◌, refl, ap, arith, add-one, ℕ, zero, suc, List, [], ◌∷◌, ◌++◌, map, length, Bool, true, false, cond}
use Rattle.std.specs.Prelude.{filter}
use Rattle.std.specs.List.{range_with_len}
use Rattle.std.proofs.lemmas.List.{map-append}
use Rattle.std.proofs.lemmas.List.Elements.{filter-append}
use Rattle.std.proofs.lemmas.List.{append-nil}
use Rattle.shard_maker.specs.MadeRows.{pair_row, is_had, rows_below}

range_next : (a n : ℕ) → range_with_len a (suc n) ≡ range_with_len a n ++ (a + n) ∷ []
range_next a zero = ap (λ k. k ∷ []) (omega arith)
range_next a (suc n) = ap (λ ks. a ∷ ks) (range_next (a + 1) n ∙ ap (λ k. range_with_len (a + 1) n ++ k ∷ []) (omega arith))

-- the range from 0 on
pub range_suc : (n : ℕ) → range_with_len 0 (suc n) ≡ range_with_len 0 n ++ n ∷ []
range_suc n = range_next 0 n ∙ ap (λ k. range_with_len 0 n ++ k ∷ []) (omega arith)

pub range_more : (n : ℕ) → range_with_len 0 (n + 1) ≡ range_with_len 0 n ++ n ∷ []
range_more n = ap (range_with_len 0) (add-one n) ∙ range_suc n

pub filter_one : {X : Type 0} (test : X → Bool) (x : X) (passes : Bool) → test x ≡ passes → filter test (x ∷ []) ≡ cond passes (x ∷ []) []
filter_one test x true e = rw e
filter_one test x false e = rw e

pub map_more : {X Y : Type 0} (f : X → Y) (xs ys : List X) (x : X) → ys ≡ xs ++ x ∷ [] → map f ys ≡ map f xs ++ f x ∷ []
map_more f xs ys x e = ap (map f) e ∙ map-append f xs (x ∷ [])

-- the rows below the next pair, where that is had and where it is not
rows_next : (seed docs n : ℕ) (had : Bool) → is_had seed n ≡ had → rows_below seed docs (n + 1) ≡ rows_below seed docs n ++ cond had (pair_row docs n ∷ []) []
rows_next seed docs n had e =
    ap (λ ns. map (pair_row docs) (filter (is_had seed) ns)) (range_more n)
    ∙ ap (map (pair_row docs)) (filter-append (is_had seed) (range_with_len 0 n) (n ∷ []) ∙ ap (λ ns. filter (is_had seed) (range_with_len 0 n) ++ ns) (filter_one (is_had seed) n had e))
    ∙ map-append (pair_row docs) (filter (is_had seed) (range_with_len 0 n)) (cond had (n ∷ []) []) ∙ ap (λ rs. rows_below seed docs n ++ rs) (by had)
  where
    by : (had : Bool) → map (pair_row docs) (cond had (n ∷ []) []) ≡ cond had (pair_row docs n ∷ []) []
    by true = refl
    by false = refl

pub rows_had : (seed docs n : ℕ) → is_had seed n ≡ true → rows_below seed docs (n + 1) ≡ rows_below seed docs n ++ pair_row docs n ∷ []
rows_had seed docs n e = rows_next seed docs n true e

pub rows_missed : (seed docs n : ℕ) → is_had seed n ≡ false → rows_below seed docs (n + 1) ≡ rows_below seed docs n
rows_missed seed docs n e = rows_next seed docs n false e ∙ append-nil (rows_below seed docs n)

pub filter_shorter : {X : Type 0} (test : X → Bool) (xs : List X) → length (filter test xs) ≤ length xs
filter_shorter test [] = omega arith
filter_shorter test (x ∷ xs) = by (test x) refl (filter_shorter test xs)
  where
    by : (passes : Bool) → test x ≡ passes → length (filter test xs) ≤ length xs → length (filter test (x ∷ xs)) ≤ length (x ∷ xs)
    by true e h = rw e (omega (arith, h))
    by false e h = rw e (omega (arith, h))
