-- Bytes that are put behind others one after another.
use Rattle.std.proofs.Common.{◌≡◌, ◌∙◌, ◌+◌, ap, sym, append_assoc, append-nil, ℕ, List, [], ◌∷◌, ◌++◌}
use Rattle.std.specs.Prelude.{codes}
use Rattle.std.specs.List.{range_with_len, flat_map}
use Rattle.std.proofs.lemmas.Grind.{flat_map-append}
use Rattle.shard_maker.specs.Searches.{drawn_query, search_bytes, script_bytes}
use Rattle.shard_maker.proofs.Lists.{range_more}

pub three : (t a b c d t1 t2 t3 : List ℕ) → t1 ≡ t ++ a → t2 ≡ t1 ++ b → b ≡ d → t3 ≡ t2 ++ c → t3 ≡ t ++ (a ++ (d ++ c))
three t a b c d t1 t2 t3 e1 e2 same e3 =
    e3 ∙ ap (λ x. x ++ c) (e2 ∙ ap (λ x. x ++ b) e1) ∙ append_assoc (t ++ a) b c ∙ append_assoc t a (b ++ c) ∙ ap (λ x. t ++ (a ++ (x ++ c))) same

pub five : (t a b c d e t1 t2 t3 t4 t5 : List ℕ) → t1 ≡ t ++ a → t2 ≡ t1 ++ b → t3 ≡ t2 ++ c → t4 ≡ t3 ++ d → t5 ≡ t4 ++ e → t5 ≡ t ++ (a ++ (b ++ (c ++ (d ++ e))))
five t a b c d e t1 t2 t3 t4 t5 e1 e2 e3 e4 e5 =
    e5 ∙ ap (λ x. x ++ e) (e4 ∙ ap (λ x. x ++ d) (e3 ∙ ap (λ x. x ++ c) (e2 ∙ ap (λ x. x ++ b) e1)))
    ∙ append_assoc (((t ++ a) ++ b) ++ c) d e ∙ append_assoc ((t ++ a) ++ b) c (d ++ e) ∙ append_assoc (t ++ a) b (c ++ (d ++ e)) ∙ append_assoc t a (b ++ (c ++ (d ++ e)))

-- the searches so far and one more
pub one_search_more : (from terms n : ℕ) → script_bytes from terms (n + 1) ≡ script_bytes from terms n ++ search_bytes (drawn_query from terms n)
one_search_more from terms n =
    let front : List ℕ = codes "mount made mount-made\n" in
    let bytes : ℕ → List ℕ = λ i. search_bytes (drawn_query from terms i) in
    ap (λ ns. front ++ flat_map bytes ns) (range_more n)
    ∙ ap (λ t. front ++ t) (flat_map-append bytes (range_with_len 0 n) (n ∷ []))
    ∙ sym (append_assoc front (flat_map bytes (range_with_len 0 n)) (bytes n ++ []))
    ∙ ap (λ t. (front ++ flat_map bytes (range_with_len 0 n)) ++ t) (append-nil (bytes n))
