-- The script of a seed: a mount of what is made, and 64 searches of it over terms that are drawn.
use Rattle.std.specs.Prelude.{ℕ, ◌+◌, ◌*◌, ◌%◌, ◌==◌, List, [], ◌∷◌, ◌++◌, map, if◌then◌else◌, codes}
use Rattle.std.specs.List.{range_with_len, flat_map}
use Rattle.mount_script.specs.declared.command.Line.{Line}
use Rattle.mount_script.specs.declared.command.Command.TheVariants.{Mount, Search}
use Rattle.shard_maker.specs.Draws.{state, draw}
use Rattle.shard_maker.specs.MadeRows.{term_name}

-- ---- queries

-- the documents that have term t
abbrev pub term_query : ℕ → List ℕ
term_query t = codes "{\"term\":{\"body\":\"" ++ (term_name t ++ codes "\"}}")

-- the queries of terms a and b, with what stands before, between and behind them
abbrev pub pair_query : List ℕ → List ℕ → List ℕ → ℕ → ℕ → List ℕ
pair_query front middle back a b = front ++ (term_query a ++ (middle ++ (term_query b ++ back)))

abbrev pub both : ℕ → ℕ → List ℕ
both a b = pair_query (codes "{\"bool\":{\"must\":[") (codes ",") (codes "]}}") a b

abbrev pub either : ℕ → ℕ → List ℕ
either a b = pair_query (codes "{\"bool\":{\"should\":[") (codes ",") (codes "]}}") a b

abbrev pub first_alone : ℕ → ℕ → List ℕ
first_alone a b = pair_query (codes "{\"bool\":{\"must\":") (codes ",\"must_not\":") (codes "}}") a b

-- the query of search number i, from 0: the first term, both, one or the other, the first without the second, in turns
abbrev pub query_text : ℕ → ℕ → ℕ → List ℕ
query_text i a b =
    if i % 4 == 0 then term_query a else if i % 4 == 1 then both a b else if i % 4 == 2 then either a b else first_alone a b

-- ---- lines

abbrev pub mount_line : Line
mount_line = record { number = 1; command = Mount (codes "made") (codes "mount-made") }

-- the query of search number i, where the draws go on from a state: each search has two
abbrev pub drawn_query : ℕ → ℕ → ℕ → List ℕ
drawn_query from terms i = query_text i (draw from (2 * i) terms) (draw from (2 * i + 1) terms)

-- the search, which shows ten documents
abbrev pub search_line : ℕ → ℕ → ℕ → Line
search_line from terms i = record { number = i + 2; command = Search (codes "made") 10 (drawn_query from terms i) }

-- the mount is a block of its own
abbrev pub script_from : ℕ → ℕ → List (List Line)
script_from from terms = (mount_line ∷ []) ∷ map (search_line from terms) (range_with_len 0 64) ∷ []

-- the draws of the searches stand behind those of all pairs
abbrev pub made_script : ℕ → ℕ → ℕ → List (List Line)
made_script seed docs terms = script_from (state seed (docs * terms)) terms

-- ---- the text

-- the bytes of a search, with the newline
abbrev pub search_bytes : List ℕ → List ℕ
search_bytes query = codes "search made 10 " ++ (query ++ 10 ∷ [])

-- the bytes of the mount and of the first n searches
abbrev pub script_bytes : ℕ → ℕ → ℕ → List ℕ
script_bytes from terms n = codes "mount made mount-made\n" ++ flat_map (λ i. search_bytes (drawn_query from terms i)) (range_with_len 0 n)
