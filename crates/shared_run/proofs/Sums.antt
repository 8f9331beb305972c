-- What is counted worker by worker is what is counted of all lines.
use Rattle.std.proofs.Common.{◌≡◌, ◌∙◌, ◌≢◌, ◌≤◌, ◌<◌, ◌+◌, ◌-◌, ◌^◌, ℕ, zero, suc, Bool, true, false, cond, List, [], ◌∷◌, sym, ap, refl, inl, inr, arith, mod-lt}
use Rattle.std.specs.Prelude.{◌==◌, ◌%◌, ◌||◌, count_by}
use Rattle.std.specs.List.{list_any}
use Rattle.std.proofs.lemmas.List.Sums.{sum_by-cons}
use Rattle.std.proofs.lemmas.Bool.Decides.{eqb_tells}
use Rattle.cache_reader.specs.Reports.{Grew}
use Rattle.shared_run.specs.Shares.{share}
use Rattle.shared_run.proofs.Shares.{other_is}

-- c where m is one of the numbers i, i + 1, .., n of them
abbrev hits : ℕ → ℕ → ℕ → ℕ → ℕ
hits m i zero c = 0
hits m i (suc n) c = cond (m == i) c 0 + hits m (i + 1) n c

hits_none : (m i n c : ℕ) → m < i → hits m i n c ≡ 0
hits_none m i zero c h = refl
hits_none m i (suc n) c h =
    let below : m < i + 1 = omega (arith, h) in
    let p : cond (m == i) c 0 ≡ 0 = ap {B = ℕ} (λ (b : Bool). cond b c 0) (other_is m i (λ e. absurd (omega (arith, h, e)))) in
    let q = hits_none m (i + 1) n c below in
    omega (arith, p, q)

hits_one : (m i n c : ℕ) → i ≤ m → m < i + n → hits m i n c ≡ c
hits_one m i zero c h k = absurd (omega (arith, h, k))
hits_one m i (suc n) c h k = elim (eqb_tells m i) [
  | inl t ↦
      let below : m < i + 1 = omega (arith, t.1) in
      let p : cond (m == i) c 0 ≡ c = ap {B = ℕ} (λ (b : Bool). cond b c 0) t.0 in
      let q = hits_none m (i + 1) n c below in
      omega (arith, p, q)
  | inr f ↦
      let p : cond (m == i) c 0 ≡ 0 = ap {B = ℕ} (λ (b : Bool). cond b c 0) f.0 in
      let other : i ≢ m = λ e. absurd (f.1 (sym e)) in
      let up : i + 1 ≤ m = by_order m i h other in
      let far : m < i + 1 + n = omega (arith, k) in
      let q = hits_one m (i + 1) n c up far in
      omega (arith, p, q)
]
  where
    by_order : (m i : ℕ) → i ≤ m → i ≢ m → i + 1 ≤ m
    by_order m i h e = omega (arith, h, e)

module _ {X : Type 0} (f : X → Bool) (w : ℕ) where
  -- how many items of the parts of workers i, i + 1, .., n of them, are so
  abbrev pub counts : ℕ → ℕ → ℕ → List X → ℕ
  counts i zero k xs = 0
  counts i (suc n) k xs = count_by f (share w i k xs) + counts (i + 1) n k xs

  count_front : (x : X) (xs : List X) → count_by f (x ∷ xs) ≡ cond (f x) 1 0 + count_by f xs
  count_front x xs = sum_by-cons (λ (y : X). cond (f y) 1 0) x xs

  one_part : (i k : ℕ) (x : X) (xs : List X) → count_by f (share w i k (x ∷ xs)) ≡ cond (k % w == i) (cond (f x) 1 0) 0 + count_by f (share w i (k + 1) xs)
  one_part i k x xs = by_cases (k % w == i)
    where
      by_cases : (b : Bool) → count_by f (cond b (x ∷ share w i (k + 1) xs) (share w i (k + 1) xs)) ≡ cond b (cond (f x) 1 0) 0 + count_by f (share w i (k + 1) xs)
      by_cases true = count_front x (share w i (k + 1) xs)
      by_cases false = omega arith

  front : (i n k : ℕ) (x : X) (xs : List X) → counts i n k (x ∷ xs) ≡ hits (k % w) i n (cond (f x) 1 0) + counts i n (k + 1) xs
  front i zero k x xs = refl
  front i (suc n) k x xs = let a = one_part i k x xs in let b = front (i + 1) n k x xs in omega (arith, a, b)

  none : (i n k : ℕ) → counts i n k [] ≡ 0
  none i zero k = refl
  none i (suc n) k = let h = none (i + 1) n k in omega (arith, h)

  pub counts_all : 0 < w → (k : ℕ) (xs : List X) → counts 0 w k xs ≡ count_by f xs
  counts_all some k [] = none 0 w k
  counts_all some k (x ∷ xs) =
      let a = front 0 w k x xs in
      let least : 0 ≤ k % w = omega arith in
      let low : k % w < 0 + w = omega (arith, mod-lt k some) in
      let b = hits_one (k % w) 0 w (cond (f x) 1 0) least low in
      let c = counts_all some (k + 1) xs in
      let d = count_front x xs in
      omega (arith, a, b, c, d)

  -- what no item is, no item of a part is
  pub none_of_share : (i k : ℕ) (xs : List X) → list_any f xs ≡ false → list_any f (share w i k xs) ≡ false
  none_of_share i k [] h = refl
  none_of_share i k (x ∷ xs) h =
      let parts = or_false (f x) (list_any f xs) h in
      by_cases (k % w == i) (none_of_share i (k + 1) xs parts.1) parts.0
    where
      or_false : (a b : Bool) → (a || b) ≡ false → (a ≡ false) × (b ≡ false)
      or_false true b e = absurd (cc)
      or_false false b e = (refl, e)

      by_cases : (b : Bool) → list_any f (share w i (k + 1) xs) ≡ false → f x ≡ false → list_any f (cond b (x ∷ share w i (k + 1) xs) (share w i (k + 1) xs)) ≡ false
      by_cases true rest one = ap (λ (b : Bool). b || list_any f (share w i (k + 1) xs)) one ∙ rest
      by_cases false rest one = rest

-- ---- counts that stop at their last value

-- s is n, or stopped before
pub record Reaches (s n : ℕ) : Type 0 where
  pub most : s ≤ n
  pub whole : s < 2 ^ 64 - 1 → s ≡ n

pub reaches_both : (a b m n : ℕ) → Reaches a m → Reaches b n → Reaches (a + b) (m + n)
reaches_both a b m n h k = record {
  most = omega (arith, h.most, k.most);
  whole = λ below. (let p = h.whole (omega (arith, below)) in let q = k.whole (omega (arith, below)) in omega (arith, p, q));
}

pub reaches_none : Reaches 0 0
reaches_none = record { most = omega arith; whole = λ below. refl }

pub reaches_grew : (a b n : ℕ) → a ≡ 0 → Grew a b n → Reaches b n
reaches_grew a b n e h = record { most = omega (arith, h.most, e); whole = λ below. (let p = h.whole below in omega (arith, p, e)) }

pub grew_reaches : (a b s n : ℕ) → Grew a b s → Reaches s n → Grew a b n
grew_reaches a b s n h k = record {
  later = h.later;
  most = omega (arith, h.most, k.most);
  whole = λ below. (let p = h.whole below in let q = k.whole (omega (arith, p, below)) in omega (arith, p, q));
}
