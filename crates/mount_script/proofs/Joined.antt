-- Words with a blank between each two.
use Rattle.std.proofs.Common.{◌≡◌, ◌≤◌, ◌-◌, ℕ, suc, ap, arith, List, [], ◌∷◌, ◌++◌, append-nil, length, take, drop, slice_index_or, Bor}
use Rattle.std.proofs.lemmas.List.{take_all}
use Rattle.std.specs.List.{flat_map, join_with_byte}
use Rattle.mount_script.specs.Words.{texts}

abbrev pub behind_blank : List ℕ → List ℕ
behind_blank w = 32 ∷ w

-- the first word, and each other behind a blank
pub join_is : (w : List ℕ) (ws : List (List ℕ)) → w ++ flat_map behind_blank ws ≡ join_with_byte 32 (w ∷ ws)
join_is w [] = append-nil w
join_is w (v ∷ ws) = ap (λ t. w ++ (32 ∷ t)) (join_is v ws)

-- the same of words that are lent, the first of them taken off
pub join_first : (ws : List (Bor (List ℕ))) (d : Bor (List ℕ)) → 1 ≤ length ws
    → (slice_index_or ws 0 d).now ++ flat_map behind_blank (texts (take (length ws - 1) (drop 1 ws))) ≡ join_with_byte 32 (texts ws)
join_first [] d h = absurd (omega arith)
join_first (w ∷ ws) d h = rw (take_all (suc (length ws) - 1) ws (omega arith)) (join_is w.now (texts ws))
