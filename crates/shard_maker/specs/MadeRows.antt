-- The postings that are made of a seed: each pair of a term and a document has a number, and its draw decides.
use Rattle.std.specs.Prelude.{ℕ, ◌+◌, ◌*◌, ◌/◌, ◌%◌, ◌==◌, List, [], ◌∷◌, map, filter, Bool, codes}
use Rattle.std.specs.List.{range_with_len}
use Rattle.simpletext_postings.specs.declared.rows.Row.{Row}
use Rattle.shard_maker.specs.Draws.{draw}

-- the decimal digit of a number at a place, as a byte
abbrev pub digit : ℕ → ℕ → ℕ
digit n place = 48 + n / place % 10

-- the term with a number: a `t` and the number in five digits
abbrev pub term_name : ℕ → List ℕ
term_name t = 116 ∷ digit t 10000 ∷ digit t 1000 ∷ digit t 100 ∷ digit t 10 ∷ digit t 1 ∷ []

-- the row of term t in document d: it stands there once, at position t
abbrev pub row : ℕ → ℕ → Row
row t d = record { field = codes "body"; term = term_name t; doc = d; positions = t ∷ [] }

-- the pair with number n is term n / docs and document n % docs, so that term t and document d have number t * docs + d
abbrev pub pair_row : ℕ → ℕ → Row
pair_row docs n = row (n / docs) (n % docs)

-- whether the document has the term: draw number n, of a number below 16, gives 0
abbrev pub is_had : ℕ → ℕ → Bool
is_had seed n = draw seed n 16 == 0

-- the rows of the pairs below n that are had, in order of their numbers
abbrev pub rows_below : ℕ → ℕ → ℕ → List Row
rows_below seed docs n = map (pair_row docs) (filter (is_had seed) (range_with_len 0 n))

-- all rows
abbrev pub made_rows : ℕ → ℕ → ℕ → List Row
made_rows seed docs terms = rows_below seed docs (docs * terms)
