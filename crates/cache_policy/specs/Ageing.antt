-- How regions age, by the time of their last access: what a mapping, an access and a decay make of the policy, and the order in
-- which mapped regions are candidates for eviction.
use Rattle.std.specs.Prelude.{◌+◌, ◌-◌, ◌*◌, ◌==◌, ◌&&◌, ℕ, Bool, not, nat_le, nat_lt, List, [], ◌∷◌, ◌++◌, length, drop, filter, slice_set, slice_index, Option, Some, None, if◌then◌else◌}
use Rattle.freq_lists.specs.Lists.{push_back, unlink, list_of, head}
use Rattle.cache_policy.specs.Policy.{PolicyView, rise}

-- the front free region gets the key and frequency 0
abbrev pub map_front : ℕ → ℕ → ℕ → PolicyView → PolicyView
map_front r tag now p = record p { free = drop 1 p.free; lists = push_back 0 r p.lists; tags = slice_set p.tags r (Some tag); last_accesses = slice_set p.last_accesses r now }

-- so many times the least interval passed since the last access
abbrev pub waited : ℕ → ℕ → ℕ → PolicyView → Bool
waited times r now p = nat_le (times * p.min_delta) (now - slice_index p.last_accesses r)

abbrev pub touch_at : Option ℕ → ℕ → ℕ → PolicyView → PolicyView
touch_at None r now p = p
touch_at (Some f) r now p =
    if waited 1 r now p && nat_lt (f + 1) (length p.lists)
    then record p { lists = push_back (f + 1) r (unlink r p.lists); last_accesses = slice_set p.last_accesses r now; promotions = rise p.promotions 1 }
    else p

-- the frequency of a region that waited long enough rises by one
abbrev pub touch : ℕ → ℕ → PolicyView → PolicyView
touch r now p = touch_at (list_of r p.lists) r now p

-- each list but the first keeps what does not go down, and each takes what goes down from the next
abbrev pub lowered_of : (ℕ → Bool) → List (List ℕ) → List ℕ
lowered_of goes [] = []
lowered_of goes (l ∷ ls) = filter goes l

abbrev pub lower_rest : (ℕ → Bool) → List (List ℕ) → List (List ℕ)
lower_rest goes [] = []
lower_rest goes (l ∷ ls) = (filter (λ r. not (goes r)) l ++ lowered_of goes ls) ∷ lower_rest goes ls

abbrev pub lower : (ℕ → Bool) → List (List ℕ) → List (List ℕ)
lower goes [] = []
lower goes (l ∷ ls) = (l ++ lowered_of goes ls) ∷ lower_rest goes ls

abbrev pub count_lowered : (ℕ → Bool) → List (List ℕ) → ℕ
count_lowered goes [] = 0
count_lowered goes (l ∷ ls) = length (filter goes l) + count_lowered goes ls

-- each entry above frequency 0 that waited twice the least interval goes down by one, once
abbrev pub decay : ℕ → PolicyView → PolicyView
decay now p = let goes : ℕ → Bool = λ r. waited 2 r now p in
    record p { lists = lower goes p.lists; demotions = rise p.demotions (count_lowered goes (drop 1 p.lists)) }

abbrev pub candidates_in : List (List ℕ) → List ℕ
candidates_in [] = []
candidates_in (l ∷ ls) = l ++ candidates_in ls

-- the mapped regions, the next to be evicted first: by rising frequency, and in each list from its front
abbrev pub candidates : PolicyView → List ℕ
candidates p = candidates_in p.lists

abbrev pub next_after : ℕ → List ℕ → Option ℕ
next_after r [] = None
next_after r (x ∷ xs) = if x == r then head xs else next_after r xs

abbrev pub next_candidate : Option ℕ → PolicyView → Option ℕ
next_candidate None p = head (candidates p)
next_candidate (Some r) p = next_after r (candidates p)
