-- The regions that are free, mapped and leaving are all.
use Rattle.std.proofs.Common.{◌≡◌, ◌∙◌, ◌<◌, ◌≤◌, ◌+◌, refl, sym, ap, inl, inr, arith, zero, suc, ℕ, List, [], ◌∷◌, length, filter, Bool, true, false, cond}
use Rattle.std.specs.Prelude.{Option, Some, None, is_some, slice_get, option_and_then, ◌==◌}
use Rattle.std.proofs.lemmas.Bool.{cases_lt}
use Rattle.std.proofs.lemmas.Bool.Decides.{Decides-eqb}
use Rattle.freq_lists.specs.Lists.{times_in, times}
use Rattle.cache_policy.specs.Policy.{PolicyView, tag_at, mapped_len}
use Rattle.cache_policy.specs.Kept.{IsGood, one_if_some, places}

-- the sum over the numbers below n
upto : (ℕ → ℕ) → ℕ → ℕ
upto f zero = 0
upto f (suc n) = upto f n + f n

upto_more : (f : ℕ → ℕ) (n : ℕ) → upto f (suc n) ≡ upto f n + f n
unfolding upto
upto_more f n = refl

upto_none : (f : ℕ → ℕ) → upto f zero ≡ 0
unfolding upto
upto_none f = refl

same_upto : (f g : ℕ → ℕ) (n : ℕ) → ((r : ℕ) → r < n → f r ≡ g r) → upto f n ≡ upto g n
same_upto f g zero h = upto_none f ∙ sym (upto_none g)
same_upto f g (suc n) h =
    let less = same_upto f g n (λ r k. h r (omega (arith, k))) in
    let last = h n (omega arith) in
    omega (arith, upto_more f n, upto_more g n, less, last)

sum_upto : (f g : ℕ → ℕ) (n : ℕ) → upto (λ r. f r + g r) n ≡ upto f n + upto g n
sum_upto f g zero = omega (arith, upto_none (λ r. f r + g r), upto_none f, upto_none g)
sum_upto f g (suc n) = omega (arith, upto_more (λ r. f r + g r) n, upto_more f n, upto_more g n, sum_upto f g n)

ones_upto : (n : ℕ) → upto (λ r. 1) n ≡ n
ones_upto zero = upto_none (λ r. 1)
ones_upto (suc n) = omega (arith, upto_more (λ r. 1) n, ones_upto n)

zeros_upto : (n : ℕ) → upto (λ r. 0) n ≡ 0
zeros_upto zero = upto_none (λ r. 0)
zeros_upto (suc n) = omega (arith, upto_more (λ r. 0) n, zeros_upto n)

-- the first number, and those behind it
front_upto : (f : ℕ → ℕ) (n : ℕ) → upto f (suc n) ≡ f 0 + upto (λ r. f (suc r)) n
front_upto f zero = omega (arith, upto_more f zero, upto_none f, upto_none (λ r. f (suc r)))
front_upto f (suc n) = omega (arith, upto_more f (suc n), front_upto f n, upto_more (λ r. f (suc r)) n)

hit : ℕ → ℕ → ℕ
hit x r = cond (x == r) 1 0

hit_is : (x r : ℕ) → hit x r ≡ cond (x == r) 1 0
unfolding hit
hit_is x r = refl

hit_here : (x : ℕ) → hit x x ≡ 1
hit_here x = hit_is x x ∙ ap (λ (b : Bool). cond b 1 0) ((Decides-eqb x x).1 refl)

hit_other : (x r : ℕ) (b : Bool) → (x == r) ≡ b → (x ≡ r → ⊥) → hit x r ≡ 0
hit_other x r true e h = absurd (h ((Decides-eqb x r).0 e))
hit_other x r false e h = hit_is x r ∙ ap (λ (c : Bool). cond c 1 0) e

past_hits : (x n : ℕ) → n ≤ x → upto (hit x) n ≡ 0
past_hits x n h = same_upto (hit x) (λ r. 0) n (λ r k. hit_other x r (x == r) refl (λ e. omega (arith, h, k, e))) ∙ zeros_upto n

one_hit : (x n : ℕ) → x < n → upto (hit x) n ≡ 1
one_hit x zero h = absurd (omega (arith, h))
one_hit x (suc n) h = by_cases (λ less. one_hit x n less) (x == n) refl
  where
    by_cases : (x < n → upto (hit x) n ≡ 1) → (b : Bool) → (x == n) ≡ b → upto (hit x) (suc n) ≡ 1
    by_cases fewer true e =
        let is : x ≡ n = (Decides-eqb x n).0 e in
        let last : hit x n ≡ 1 = ap (hit x) (sym is) ∙ hit_here x in
        let before : upto (hit x) n ≡ 0 = past_hits x n (omega (arith, is)) in
        omega (arith, upto_more (hit x) n, last, before)
    by_cases fewer false e =
        let apart : x ≡ n → ⊥ = λ is. let t = (Decides-eqb x n).1 is in absurd (cc) in
        let last : hit x n ≡ 0 = hit_other x n false e apart in
        let less : x < n = omega (arith, h, apart) in
        omega (arith, upto_more (hit x) n, last, fewer less)

-- a list of numbers below n
listed : (xs : List ℕ) (n : ℕ) → ((r : ℕ) → n ≤ r → times_in r xs ≡ 0) → upto (λ r. times_in r xs) n ≡ length xs
listed [] n h = zeros_upto n
listed (x ∷ xs) n h =
    let at : (r : ℕ) → times_in r (x ∷ xs) ≡ hit x r + times_in r xs = λ r. ap (λ (k : ℕ). k + times_in r xs) (sym (hit_is x r)) in
    let here : 0 < times_in x (x ∷ xs) = omega (arith, at x, hit_here x) in
    let below : x < n = elim (cases_lt x n) [ inl k ↦ k | inr k ↦ absurd (omega (arith, here, h x k)) ] in
    let fewer : (r : ℕ) → n ≤ r → times_in r xs ≡ 0 = λ r k. omega (arith, at r, h r k) in
    let split = same_upto (λ r. times_in r (x ∷ xs)) (λ r. hit x r + times_in r xs) n (λ r k. at r) ∙ sum_upto (hit x) (λ r. times_in r xs) n in
    omega (arith, split, one_hit x n below, listed xs n fewer)

-- the mapped regions
tags_listed : (tags : List (Option ℕ)) → upto (λ r. one_if_some (option_and_then (λ t. t) (slice_get tags r))) (length tags) ≡ length (filter is_some tags)
tags_listed [] = upto_none _
tags_listed (None ∷ tags) = omega (arith, front_upto (λ r. one_if_some (option_and_then (λ t. t) (slice_get (None ∷ tags) r))) (length tags), tags_listed tags)
tags_listed (Some t ∷ tags) = omega (arith, front_upto (λ r. one_if_some (option_and_then (λ t. t) (slice_get (Some t ∷ tags) r))) (length tags), tags_listed tags)

pub all_regions : (p : PolicyView) → IsGood p → length p.free + mapped_len p + length p.leaving ≡ length p.tags
all_regions p g =
    let n = length p.tags in
    let free = listed p.free n (λ r k. omega (arith, g.none_else r k)) in
    let leaving = listed p.leaving n (λ r k. omega (arith, g.none_else r k)) in
    let lists = same_upto (λ r. times r p.lists) (λ r. one_if_some (tag_at p r)) n (λ r k. g.mapped r) ∙ tags_listed p.tags in
    let all = same_upto (places p) (λ r. 1) n g.once ∙ ones_upto n in
    let two = sum_upto (λ r. times_in r p.free + times_in r p.leaving) (λ r. times r p.lists) n in
    let one = sum_upto (λ r. times_in r p.free) (λ r. times_in r p.leaving) n in
    omega (arith, free, leaving, lists, all, two, one)
