-- Worked examples, computed.
use Rattle.std.specs.Prelude.{◌≡◌, [], ◌∷◌, Some, refl, replicate}
use Rattle.cache_policy.specs.Policy.{PolicyView, new_policy, find, clear}
use Rattle.cache_policy.specs.Ageing.{map_front, touch, decay, candidates, next_candidate}

abbrev three : PolicyView
three = touch 2 100000 (touch 1 60000 (map_front 2 12 0 (map_front 1 11 0 (map_front 0 10 0 (new_policy 3 100 60000)))))

lists_before : three.lists ≡ (0 ∷ []) ∷ (1 ∷ 2 ∷ []) ∷ replicate 98 []
lists_before = refl

last_accesses_before : three.last_accesses ≡ 0 ∷ 60000 ∷ 100000 ∷ []
last_accesses_before = refl

lists_after : (decay 180000 three).lists ≡ (0 ∷ 1 ∷ []) ∷ (2 ∷ []) ∷ replicate 98 []
lists_after = refl

lowered : (decay 180000 three).demotions ≡ 1
lowered = refl

abbrev one : PolicyView
one = map_front 0 10 0 (new_policy 1 100 60000)

too_soon : touch 0 59999 one ≡ one
too_soon = refl

in_time : (touch 0 60000 one).lists ≡ [] ∷ (0 ∷ []) ∷ replicate 98 []
in_time = refl

in_time_last_access : (touch 0 60000 one).last_accesses ≡ 60000 ∷ []
in_time_last_access = refl

abbrev at_top : PolicyView
at_top = record one { lists = (replicate 1 []) }

-- the last list is not left
abbrev low : PolicyView
low = map_front 0 10 0 (new_policy 1 2 60000)

stays_at_the_top : touch 0 120000 (touch 0 60000 low) ≡ touch 0 60000 low
stays_at_the_top = refl

earlier_time : touch 0 50 (record one { last_accesses = 100 ∷ [] }) ≡ record one { last_accesses = 100 ∷ [] }
earlier_time = refl

finds : find 11 three ≡ Some 1
finds = refl

order : candidates three ≡ 0 ∷ 1 ∷ 2 ∷ []
order = refl

after_1 : next_candidate (Some 1) three ≡ Some 2
after_1 = refl

cleared : (clear 0 three).leaving ≡ 0 ∷ 1 ∷ 2 ∷ []
cleared = refl
