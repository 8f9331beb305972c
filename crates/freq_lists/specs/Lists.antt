-- Lists of nodes, and the calls as equations on them.
use Rattle.std.specs.Prelude.{◌+◌, ◌==◌, ℕ, zero, suc, Bool, not, List, [], ◌∷◌, ◌++◌, map, filter, Option, Some, None, cond, if◌then◌else◌}
use Rattle.std.specs.List.{list_any, position_from}

pub record ListsView : Type 0 where
  pub nodes : ℕ
  pub lists : List (List ℕ)

abbrev pub is_in : ℕ → List ℕ → Bool
is_in n l = list_any (λ m. m == n) l

abbrev pub without : ℕ → List ℕ → List ℕ
without n l = filter (λ m. not (m == n)) l

-- the number of the list that has the node
abbrev pub list_of : ℕ → List (List ℕ) → Option ℕ
list_of n ls = position_from (is_in n) 0 ls

abbrev pub push_back : ℕ → ℕ → List (List ℕ) → List (List ℕ)
push_back k n [] = []
push_back zero n (l ∷ ls) = (l ++ n ∷ []) ∷ ls
push_back (suc k) n (l ∷ ls) = l ∷ push_back k n ls

abbrev pub unlink : ℕ → List (List ℕ) → List (List ℕ)
unlink n ls = map (without n) ls

abbrev pub head : List ℕ → Option ℕ
head [] = None
head (x ∷ xs) = Some x

abbrev pub list_at : ℕ → List (List ℕ) → List ℕ
list_at k [] = []
list_at zero (l ∷ ls) = l
list_at (suc k) (l ∷ ls) = list_at k ls

abbrev pub front : ℕ → List (List ℕ) → Option ℕ
front k ls = head (list_at k ls)

-- what stands behind the node in its list
abbrev pub behind : ℕ → List ℕ → Option ℕ
behind n [] = None
behind n (x ∷ xs) = if x == n then head xs else behind n xs

abbrev pub next : ℕ → List (List ℕ) → Option ℕ
next n [] = None
next n (l ∷ ls) = if is_in n l then behind n l else next n ls

-- how often the node stands in the lists
abbrev pub times_in : ℕ → List ℕ → ℕ
times_in n [] = 0
times_in n (x ∷ xs) = cond (x == n) 1 0 + times_in n xs

abbrev pub times : ℕ → List (List ℕ) → ℕ
times n [] = 0
times n (l ∷ ls) = times_in n l + times n ls
