-- Worked texts that are written, computed by the definition.
use Rattle.std.proofs.Common.{◌≡◌, ℕ, List, length, [], ◌∷◌, refl}
use Rattle.std.specs.Prelude.{codes}
use Rattle.std.specs.Fmt.{digits}
use Rattle.simpletext_postings.specs.Written.{written}
use Rattle.simpletext_postings.specs.declared.rows.Row.{Row}

abbrev body_row : List ℕ → ℕ → List ℕ → Row
body_row term doc positions = record { field = codes "body"; term = term; doc = doc; positions = positions }

abbrev sample : List Row
sample = body_row (codes "fox") 0 (1 ∷ []) ∷ body_row (codes "fox") 2 (0 ∷ []) ∷ body_row (codes "red") 0 (0 ∷ []) ∷ []

-- the whole text
pub whole : written sample ≡ codes "field body\n  term fox\n    doc 0\n      freq 1\n      pos 1\n    doc 2\n      freq 1\n      pos 0\n  term red\n    doc 0\n      freq 1\n      pos 0\nEND\nchecksum 00000000000000000000\n"
unfolding digits
whole = refl

pub whole_length : length (written sample) ≡ 172
unfolding digits
whole_length = refl

-- no rows
pub nothing : written [] ≡ codes "END\nchecksum 00000000000000000000\n"
nothing = refl

-- a document without positions has no freq line, and one with some has their number
pub some_without : written (body_row (codes "fox") 7 [] ∷ body_row (codes "fox") 2147483647 (3 ∷ 3 ∷ 12 ∷ []) ∷ []) ≡ codes "field body\n  term fox\n    doc 7\n    doc 2147483647\n      freq 3\n      pos 3\n      pos 3\n      pos 12\nEND\nchecksum 00000000000000000000\n"
unfolding digits
some_without = refl

-- a newline and a backslash in names
pub escaped : written (record { field = codes "a\\"; term = codes "b\nc"; doc = 0; positions = [] } ∷ []) ≡ codes "field a\\\\\n  term b\\\nc\n    doc 0\nEND\nchecksum 00000000000000000000\n"
unfolding digits
escaped = refl

-- the same term in another field stands under a line of its own
pub two_fields : written (record { field = codes "b"; term = codes "x"; doc = 1; positions = [] } ∷ record { field = codes "a"; term = codes "x"; doc = 0; positions = [] } ∷ []) ≡ codes "field b\n  term x\n    doc 1\nfield a\n  term x\n    doc 0\nEND\nchecksum 00000000000000000000\n"
unfolding digits
two_fields = refl
