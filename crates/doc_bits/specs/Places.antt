-- A set of documents as a list of truth values: document i is in the set where place i holds true.
use Rattle.std.specs.Prelude.{ℕ, Bool, false, not, ◌&&◌, ◌||◌, List, [], ◌∷◌, length, filter, slice_index_or}
use Rattle.std.specs.List.{range_with_len}

-- place by place, as far as both lists go
abbrev pub zip_with : {A B C : Type 0} → (A → B → C) → List A → List B → List C
zip_with f [] ys = []
zip_with f (x ∷ xs) [] = []
zip_with f (x ∷ xs) (y ∷ ys) = f x y ∷ zip_with f xs ys

-- the first and not the second
abbrev pub and_not : Bool → Bool → Bool
and_not a b = a && not b

-- one of the two and not both
abbrev pub either_not_both : Bool → Bool → Bool
either_not_both a b = (a || b) && not (a && b)

-- the second
abbrev pub second : Bool → Bool → Bool
second a b = b

-- the places that hold true, rising
abbrev pub places_of : List Bool → List ℕ
places_of bits = filter (λ i. slice_index_or bits i false) (range_with_len 0 (length bits))
