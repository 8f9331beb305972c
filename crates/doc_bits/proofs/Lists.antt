-- Lists that are made place by place, and what a test keeps of a run of numbers.
use Rattle.std.proofs.Common.{◌≡◌, ℕ, suc, zero, ◌+◌, ◌<◌, ◌≤◌, ◌≢◌, Bool, true, false, cond, List, [], ◌∷◌, ◌++◌, length, get_or, map, filter, replicate, sym, refl, ap, ap₂, ◌∙◌, arith}
use Rattle.std.specs.List.{range_with_len}
use Rattle.doc_bits.specs.Places.{zip_with, second}

pub zip_with-map : {V A B C : Type 0} (f : A → B → C) (g : V → A) (h : V → B) (xs : List V)
    → zip_with f (map g xs) (map h xs) ≡ map (λ x. f (g x) (h x)) xs
zip_with-map f g h [] = refl
zip_with-map f g h (x ∷ xs) = ap (λ t. f (g x) (h x) ∷ t) (zip_with-map f g h xs)

pub filter-range_same : (p q : ℕ → Bool) (a n : ℕ) → ((i : ℕ) → a ≤ i → i < a + n → p i ≡ q i)
    → filter p (range_with_len a n) ≡ filter q (range_with_len a n)
filter-range_same p q a zero same = refl
filter-range_same p q a (suc n) same =
    let rest = filter-range_same p q (a + 1) n (λ i low high. same i (omega arith) (omega arith)) in
    rw (same a (omega arith) (omega arith), rest) refl

pub filter-range_none : (p : ℕ → Bool) (a n : ℕ) → ((i : ℕ) → a ≤ i → i < a + n → p i ≡ false)
    → filter p (range_with_len a n) ≡ []
filter-range_none p a zero none = refl
filter-range_none p a (suc n) none =
    rw (none a (omega arith) (omega arith)) (filter-range_none p (a + 1) n (λ i low high. none i (omega arith) (omega arith)))

-- how many numbers a test keeps does not change where run and test are moved together
pub length-filter-range_moved : (p q : ℕ → Bool) (a b n : ℕ) → ((i : ℕ) → i < n → p (a + i) ≡ q (b + i))
    → length (filter p (range_with_len a n)) ≡ length (filter q (range_with_len b n))
length-filter-range_moved p q a b zero same = refl
length-filter-range_moved p q a b (suc n) same =
    let rest = length-filter-range_moved p q (a + 1) (b + 1) n (λ i low. ap p (omega arith) ∙ same (suc i) (omega arith) ∙ ap q (omega arith)) in
    let here : p a ≡ q b = ap p (omega arith) ∙ same 0 (omega arith) ∙ ap q (omega arith) in
    elim (q b) as (λ v. p a ≡ v → length (cond (p a) (a ∷ filter p (range_with_len (a + 1) n)) (filter p (range_with_len (a + 1) n))) ≡ length (cond v (b ∷ filter q (range_with_len (b + 1) n)) (filter q (range_with_len (b + 1) n)))) [
      | true ↦ λ e. rw e (ap suc rest)
      | false ↦ λ e. rw e rest
    ] here

-- the first number that a test keeps, and another test that keeps the same but that one
pub filter-range_first : (p q : ℕ → Bool) (a n t : ℕ) → t < n → ((i : ℕ) → a ≤ i → i < a + t → p i ≡ false) → p (a + t) ≡ true
    → q (a + t) ≡ false → ((i : ℕ) → a ≤ i → i < a + n → i ≢ a + t → q i ≡ p i)
    → filter p (range_with_len a n) ≡ (a + t) ∷ filter q (range_with_len a n)
filter-range_first p q a zero t within below here gone others = absurd (omega arith)
filter-range_first p q a (suc n) zero within below here gone others =
    let at : p a ≡ true = ap p (omega arith) ∙ here in
    let not_at : q a ≡ false = ap q (omega arith) ∙ gone in
    let rest = filter-range_same q p (a + 1) n (λ i low high. others i (omega arith) (omega arith) (λ e. omega (arith, e))) in
    let first : a + 0 ≡ a = omega arith in
    rw (at, not_at, first, rest) refl
filter-range_first p q a (suc n) (suc t) within below here gone others =
    let at : p a ≡ false = below a (omega arith) (omega arith) in
    let not_at : q a ≡ false = others a (omega arith) (omega arith) (λ e. omega (arith, e)) ∙ at in
    let moved : a + suc t ≡ a + 1 + t = omega arith in
    let rest = filter-range_first p q (a + 1) n t (omega arith) (λ i low high. below i (omega arith) (omega arith)) (ap p (sym moved) ∙ here) (ap q (sym moved) ∙ gone) (λ i low high other. others i (omega arith) (omega arith) (λ e. other (e ∙ moved))) in
    rw (at, not_at, moved) rest

pub range-append : (a m n : ℕ) → range_with_len a (m + n) ≡ range_with_len a m ++ range_with_len (a + m) n
range-append a zero n = rw (zero_first n, zero_last a) refl
  where
    zero_first : (k : ℕ) → 0 + k ≡ k
    zero_first k = omega arith

    zero_last : (k : ℕ) → k + 0 ≡ k
    zero_last k = omega arith
range-append a (suc m) n =
    let count : suc m + n ≡ suc (m + n) = omega arith in
    let start : a + 1 + m ≡ a + suc m = omega arith in
    rw (count, ← start) (ap (λ t. a ∷ t) (range-append (a + 1) m n))

pub replicate_of_range : {X : Type 0} (f : ℕ → X) (x : X) (a n : ℕ) → ((i : ℕ) → a ≤ i → i < a + n → f i ≡ x)
    → map f (range_with_len a n) ≡ replicate n x
replicate_of_range f x a zero same = refl
replicate_of_range f x a (suc n) same =
    ap₂ ◌∷◌ (same a (omega arith) (omega arith)) (replicate_of_range f x (a + 1) n (λ i low high. same i (omega arith) (omega arith)))

pub length-zip_with : {A B C : Type 0} (f : A → B → C) (xs : List A) (ys : List B) → length xs ≡ length ys → length (zip_with f xs ys) ≡ length xs
length-zip_with f [] ys same = refl
length-zip_with f (x ∷ xs) [] same = absurd (omega arith)
length-zip_with f (x ∷ xs) (y ∷ ys) same = ap suc (length-zip_with f xs ys (omega arith))

pub get_or-zip_with : {A B C : Type 0} (f : A → B → C) (xs : List A) (ys : List B) (i : ℕ) (c : A) (d : B) (e : C) → i < length xs → i < length ys
    → get_or (zip_with f xs ys) i e ≡ f (get_or xs i c) (get_or ys i d)
get_or-zip_with f [] ys i c d e low short = absurd (omega arith)
get_or-zip_with f (x ∷ xs) [] i c d e low short = absurd (omega arith)
get_or-zip_with f (x ∷ xs) (y ∷ ys) zero c d e low short = refl
get_or-zip_with f (x ∷ xs) (y ∷ ys) (suc i) c d e low short = get_or-zip_with f xs ys i c d e (omega arith) (omega arith)

-- a list of one value, read place by place
pub map_of_one : {X : Type 0} (f : ℕ → X) (x : X) (ns : List ℕ) → ((i : ℕ) → i < length ns → f (get_or ns i 0) ≡ x) → map f ns ≡ replicate (length ns) x
map_of_one f x [] each = refl
map_of_one f x (n ∷ ns) each = ap₂ ◌∷◌ (each 0 (omega arith)) (map_of_one f x ns (λ i low. each (suc i) (omega arith)))

pub zip_with_second : (xs ys : List Bool) → length xs ≡ length ys → zip_with second xs ys ≡ ys
zip_with_second [] [] same = refl
zip_with_second [] (y ∷ ys) same = absurd (omega arith)
zip_with_second (x ∷ xs) [] same = absurd (omega arith)
zip_with_second (x ∷ xs) (y ∷ ys) same = ap (λ t. y ∷ t) (zip_with_second xs ys (omega arith))
