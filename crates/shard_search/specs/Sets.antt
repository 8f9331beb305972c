-- A set of documents by what its members have.
use Rattle.std.specs.Prelude.{ℕ, ◌≡◌, ◌==◌, Bool, List, map, Ok}
use Rattle.std.specs.List.{range_with_len, list_any}
use Rattle.directory_input.specs.Windows.{window_bytes}
use Rattle.simpletext_postings.specs.Postings.{postings}
use Rattle.simpletext_postings.specs.Terms.{TermTable}
use Rattle.simpletext_postings.specs.declared.rows.Row.{Row}
use Rattle.simpletext_postings.specs.declared.posting.Posting.{Posting}

-- what each of `docs` documents has, in order
abbrev pub each_of : {A : Type 0} → (ℕ → A) → ℕ → List A
each_of f docs = map f (range_with_len 0 docs)

-- the rows of the text that a dictionary was made of
abbrev pub AreRowsOf : (ℕ → List ℕ) → TermTable → List Row → Type 0
AreRowsOf bytes t rows = postings (window_bytes bytes t.input) t.docs ≡ Ok rows

-- whether document d is among these postings
abbrev pub has_posting : List Posting → ℕ → Bool
has_posting postings d = list_any (λ p. p.doc == d) postings
