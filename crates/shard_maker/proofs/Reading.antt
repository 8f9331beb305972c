-- The text of a script is read as its lines.
use Rattle.std.proofs.Common.{◌≡◌, ◌∙◌, ◌≤◌, ◌<◌, ◌+◌, ◌*◌, ◌/◌, ◌%◌, refl, sym, ap, arith, ℕ, zero, suc, List, [], ◌∷◌, ◌++◌, map, length, append_assoc, append-nil, length-append, Bool, true, false, Some, Ok, Err}
use Rattle.std.specs.Prelude.{◌==◌, ◌||◌, nat_lt, if◌then◌else◌, codes}
use Rattle.std.specs.Str.{bytes_eq}
use Rattle.std.specs.List.{list_all, range_with_len, flat_map, slice_split, onto_first}
use Rattle.std.proofs.lemmas.Bool.{and_parts, and_from, lt-ltb, leb-true, false≢true}
use Rattle.std.proofs.lemmas.Bool.Decides.{nat_tests}
use Rattle.std.proofs.lemmas.List.{length-map}
use Rattle.std.proofs.lemmas.List.Folds.{list_all-append}
use Rattle.std.proofs.lemmas.List.FromFn.{length-range_with_len}
use Rattle.mount_script.specs.Blocks.{one, blocks, put_block}
use Rattle.mount_script.specs.Commands.{command_of, by_words}
use Rattle.mount_script.specs.Scripts.{script, lines_of, entries, put_line, put_entry, blocks_of, is_too_long}
use Rattle.mount_script.specs.declared.command.Command.TheVariants.{Search}
use Rattle.mount_script.specs.declared.command.Line.{Line}
use Rattle.mount_script.specs.declared.error.ScriptError.TheVariants.{TooLong}
use Rattle.shard_maker.specs.MadeRows.{digit, term_name}
use Rattle.shard_maker.specs.Searches.{term_query, pair_query, both, either, first_alone, query_text, mount_line, drawn_query, search_line, search_bytes, script_bytes, script_from}

-- ---- bytes without a blank or a newline

abbrev plain : ℕ → Bool
plain b = nat_lt 32 b

no_newline : (b : ℕ) → plain b ≡ true → (b == 10) ≡ false
no_newline b h = grind (arith, nat_tests)

no_blank : (b : ℕ) → plain b ≡ true → (b == 32) ≡ false
no_blank b h = grind (arith, nat_tests)

line_then : (q rest : List ℕ) → list_all plain q ≡ true → lines_of (q ++ 10 ∷ rest) ≡ q ∷ lines_of rest
line_then [] rest p = refl
line_then (b ∷ q) rest p = let parts = and_parts (plain b) (list_all plain q) p in rw (no_newline b parts.0) (ap (onto_first b) (line_then q rest parts.1))

word_only : (q : List ℕ) → list_all plain q ≡ true → slice_split (λ b. b == 32) q ≡ q ∷ []
word_only [] p = refl
word_only (b ∷ q) p = let parts = and_parts (plain b) (list_all plain q) p in rw (no_blank b parts.0) (ap (onto_first b) (word_only q parts.1))

plain_append : (xs ys : List ℕ) → list_all plain xs ≡ true → list_all plain ys ≡ true → list_all plain (xs ++ ys) ≡ true
plain_append xs ys p q = list_all-append plain xs ys ∙ and_from _ _ p q

-- ---- queries

-- what a query is used for: its bytes are plain, it has some, and not many
abbrev IsQuery : List ℕ → Type 0
IsQuery [] = false ≡ true
IsQuery (b ∷ q) = (list_all plain (b ∷ q) ≡ true) × (length (b ∷ q) ≤ 128)

digit_plain : (n place : ℕ) → plain (digit n place) ≡ true
digit_plain n place = lt-ltb 32 (digit n place) (above (n / place % 10))
  where
    above : (x : ℕ) → 32 < 48 + x
    above x = omega arith

term_plain : (t : ℕ) → list_all plain (term_name t) ≡ true
term_plain t = and_from _ _ (digit_plain t 10000) (and_from _ _ (digit_plain t 1000) (and_from _ _ (digit_plain t 100) (and_from _ _ (digit_plain t 10) (and_from _ _ (digit_plain t 1) refl))))

query_plain : (t : ℕ) → list_all plain (term_query t) ≡ true
query_plain t = plain_append (codes "{\"term\":{\"body\":\"") (term_name t ++ codes "\"}}") refl (plain_append (term_name t) (codes "\"}}") (term_plain t) refl)

pair_plain : (front middle back : List ℕ) (a b : ℕ) → list_all plain front ≡ true → list_all plain middle ≡ true → list_all plain back ≡ true → list_all plain (pair_query front middle back a b) ≡ true
pair_plain front middle back a b f m k =
    plain_append front (term_query a ++ (middle ++ (term_query b ++ back))) f
    (plain_append (term_query a) (middle ++ (term_query b ++ back)) (query_plain a)
    (plain_append middle (term_query b ++ back) m (plain_append (term_query b) back (query_plain b) k)))

by_turn : (P : List ℕ → Type 0) (x y z : Bool) (q r s t : List ℕ) → P q → P r → P s → P t → P (if x then q else if y then r else if z then s else t)
by_turn P true y z q r s t a b c d = a
by_turn P false true z q r s t a b c d = b
by_turn P false false true q r s t a b c d = c
by_turn P false false false q r s t a b c d = d

is_query : (i a b : ℕ) → IsQuery (query_text i a b)
is_query i a b = by_turn IsQuery (i % 4 == 0) (i % 4 == 1) (i % 4 == 2) (term_query a) (both a b) (either a b) (first_alone a b)
    (query_plain a, leb-true _ _ refl)
    (pair_plain (codes "{\"bool\":{\"must\":[") (codes ",") (codes "]}}") a b refl refl refl, leb-true _ _ refl)
    (pair_plain (codes "{\"bool\":{\"should\":[") (codes ",") (codes "]}}") a b refl refl refl, leb-true _ _ refl)
    (pair_plain (codes "{\"bool\":{\"must\":") (codes ",\"must_not\":") (codes "}}") a b refl refl refl, leb-true _ _ refl)

-- ---- one search

abbrev line_bytes : List ℕ → List ℕ
line_bytes q = codes "search made 10 " ++ q

abbrev plain_query : (q : List ℕ) → IsQuery q → list_all plain q ≡ true
plain_query [] h = absurd (false≢true h)
plain_query (b ∷ q) h = h.0

short_query : (q : List ℕ) → IsQuery q → length q ≤ 128
short_query [] h = absurd (false≢true h)
short_query (b ∷ q) h = h.1

search_is : (q : List ℕ) → IsQuery q → command_of (line_bytes q) ≡ Some (Search (codes "made") 10 q)
search_is [] h = absurd (false≢true h)
search_is (b ∷ q) h = ap (λ ws. by_words (codes "search" ∷ codes "made" ∷ codes "10" ∷ ws)) (word_only (b ∷ q) h.0)

no_bytes : (n : ℕ) → (suc n == 0) ≡ false
no_bytes n = grind (arith, nat_tests)

-- a line that is neither empty nor a divider
entries_next : (n b : ℕ) (l : List ℕ) (ls : List (List ℕ)) → bytes_eq (b ∷ l) (codes "--") ≡ false
    → entries n ((b ∷ l) ∷ ls) ≡ put_line n (command_of (b ∷ l)) (entries (n + 1) ls)
entries_next n b l ls other = rw (no_bytes (length l), other)

-- ---- all searches

module _ (from terms : ℕ) where
  abbrev query : ℕ → List ℕ
  query i = drawn_query from terms i

  query_is : (i : ℕ) → IsQuery (query i)
  query_is i = is_query i _ _

  -- what stands in front of the first line
  abbrev behind_front : List ℕ → List (List ℕ) → List (List ℕ)
  behind_front [] ls = ls
  behind_front (b ∷ bs) ls = onto_first b (behind_front bs ls)

  lines_are : (ns : List ℕ) → lines_of (flat_map (λ i. search_bytes (query i)) ns) ≡ map (λ i. line_bytes (query i)) ns
  lines_are [] = refl
  lines_are (i ∷ ns) =
      let rest : List ℕ = flat_map (λ i. search_bytes (query i)) ns in
      ap (λ s. lines_of (codes "search made 10 " ++ s)) (append_assoc (query i) (10 ∷ []) rest)
      ∙ ap (behind_front (codes "search made 10 ")) (line_then (query i) rest (plain_query (query i) (query_is i)))
      ∙ ap (λ ls. line_bytes (query i) ∷ ls) (lines_are ns)

  entries_are : (k n : ℕ) → entries (k + 2) (map (λ i. line_bytes (query i)) (range_with_len k n)) ≡ Ok (map (λ i. one (search_line from terms i)) (range_with_len k n))
  entries_are k zero = refl
  entries_are k (suc n) =
      let later : List (List ℕ) = map (λ i. line_bytes (query i)) (range_with_len (k + 1) n) in
      entries_next (k + 2) 115 (codes "earch made 10 " ++ query k) later refl
      ∙ ap (λ c. put_line (k + 2) c (entries (k + 2 + 1) later)) (search_is (query k) (query_is k))
      ∙ ap (λ m. put_entry (one (search_line from terms k)) (entries m later)) (omega arith)
      ∙ ap (put_entry (one (search_line from terms k))) (entries_are (k + 1) n)

  blocks_are : (begun : List Line) (ns : List ℕ) → blocks begun (map (λ i. one (search_line from terms i)) ns) ≡ put_block (begun ++ map (search_line from terms) ns) []
  blocks_are begun [] = ap (λ ls. put_block ls []) (sym (append-nil begun))
  blocks_are begun (i ∷ ns) =
      blocks_are (begun ++ search_line from terms i ∷ []) ns ∙ ap (λ ls. put_block ls []) (append_assoc begun (search_line from terms i ∷ []) (map (search_line from terms) ns))

  searches_short : (ns : List ℕ) → length (flat_map (λ i. search_bytes (query i)) ns) ≤ 144 * length ns
  searches_short [] = omega arith
  searches_short (i ∷ ns) =
      let rest : List ℕ = flat_map (λ i. search_bytes (query i)) ns in
      let short = short_query (query i) (query_is i) in
      let later = searches_short ns in
      let all : length (search_bytes (query i) ++ rest) ≡ length (search_bytes (query i)) + length rest = length-append (search_bytes (query i)) rest in
      let one_line : length (query i ++ 10 ∷ []) ≡ length (query i) + 1 = length-append (query i) (10 ∷ []) in
      let line : length (search_bytes (query i)) ≡ 15 + length (query i ++ 10 ∷ []) = length-append (codes "search made 10 ") (query i ++ 10 ∷ []) in
      omega (arith, short, later, all, one_line, line)

  all_lines : (n : ℕ) → lines_of (script_bytes from terms n) ≡ codes "mount made mount-made" ∷ map (λ i. line_bytes (query i)) (range_with_len 0 n)
  all_lines n = ap (λ ls. codes "mount made mount-made" ∷ ls) (lines_are (range_with_len 0 n))

  neither : (a b : Bool) → a ≡ false → b ≡ false → (a || b) ≡ false
  neither false b h k = k
  neither true b h k = h

  fits : (n : ℕ) → n ≤ 64 → is_too_long (script_bytes from terms n) ≡ false
  fits n h =
      let searches : List ℕ = flat_map (λ i. search_bytes (query i)) (range_with_len 0 n) in
      let count = length-range_with_len 0 n in
      let short = searches_short (range_with_len 0 n) in
      let size : length (script_bytes from terms n) ≡ 22 + length searches = length-append (codes "mount made mount-made\n") searches in
      let all : length (lines_of (script_bytes from terms n)) ≡ suc (length (map (λ i. line_bytes (query i)) (range_with_len 0 n))) = ap length (all_lines n) in
      let lines : length (map (λ i. line_bytes (query i)) (range_with_len 0 n)) ≡ length (range_with_len 0 n) = length-map (range_with_len 0 n) (λ i. line_bytes (query i)) in
      neither _ _ (below_limit 1048576 (length (script_bytes from terms n)) (omega (arith, h, count, short, size))) (below_limit 65535 (length (lines_of (script_bytes from terms n))) (omega (arith, h, count, all, lines)))
    where
      below_limit : (limit x : ℕ) → x ≤ limit → nat_lt limit x ≡ false
      below_limit limit x le = grind (arith, nat_tests)

  chosen : {X : Type 0} (b : Bool) (x y : X) → b ≡ false → (if b then x else y) ≡ y
  chosen b x y e = rw e refl

  script_with : (m : ℕ) → suc m ≤ 64 → script (script_bytes from terms (suc m)) ≡ Ok ((mount_line ∷ []) ∷ map (search_line from terms) (range_with_len 0 (suc m)) ∷ [])
  script_with m h =
      chosen (is_too_long (script_bytes from terms (suc m))) (Err TooLong) (blocks_of (entries 1 (lines_of (script_bytes from terms (suc m))))) (fits (suc m) h)
      ∙ ap (λ ls. blocks_of (entries 1 ls)) (all_lines (suc m))
      ∙ ap (λ es. blocks_of (put_entry (one mount_line) es)) (entries_are 0 (suc m))
      ∙ ap (λ bs. Ok ((mount_line ∷ []) ∷ bs)) (blocks_are [] (range_with_len 0 (suc m)))

  pub script_is : script (script_bytes from terms 64) ≡ Ok (script_from from terms)
  script_is = script_with 63 (omega arith)
