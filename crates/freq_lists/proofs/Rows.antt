-- A worked example, computed.
use Rattle.std.specs.Prelude.{◌≡◌, ℕ, List, [], ◌∷◌, Some, None, refl, replicate}
use Rattle.freq_lists.specs.Lists.{push_back, unlink, front, next, list_of}

abbrev lists : List (List ℕ)
lists = unlink 0 (push_back 1 4 (push_back 1 0 (push_back 1 3 (replicate 3 []))))

all : lists ≡ [] ∷ (3 ∷ 4 ∷ []) ∷ [] ∷ []
all = refl

first : front 1 lists ≡ Some 3
first = refl

after_3 : next 3 lists ≡ Some 4
after_3 = refl

after_4 : next 4 lists ≡ None
after_4 = refl

of_0 : list_of 0 lists ≡ None
of_0 = refl

none_on_0 : front 0 lists ≡ None
none_on_0 = refl
