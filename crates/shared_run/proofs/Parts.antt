-- The workers' parts make the block.
use Rattle.std.proofs.Common.{◌≡◌, ◌<◌, ◌+◌, ℕ, Bool, true, false, cond, List, [], ◌∷◌, length, ap, refl, arith, mod-lt}
use Rattle.std.specs.Prelude.{◌||◌, ◌==◌, ◌%◌, count_by}
use Rattle.std.proofs.lemmas.Bool.Decides.{Decides-eqb}
use Rattle.std.proofs.lemmas.List.Sums.{sum_by-cons}
use Rattle.std.proofs.Math.Bool.{or-true}
use Rattle.cache_outside.specs.Listing.{Listing}
use Rattle.index_mounts.specs.Rosters.{RosterView}
use Rattle.mount_script.specs.declared.command.Line.{Line}
use Rattle.mount_script.specs.declared.reply.Reply.{Reply}
use Rattle.script_run.specs.Allowed.{faults_of, is_fault}
use Rattle.shared_run.specs.Shares.{share}
use Rattle.shared_run.specs.Workers.{AllAnswered, unmounts, unmounted_by}

count_front : (f : Reply → Bool) (x : Reply) (xs : List Reply) → count_by f (x ∷ xs) ≡ cond (f x) 1 0 + count_by f xs
count_front f x xs = sum_by-cons (λ (y : Reply). cond (f y) 1 0) x xs

-- the faults that a source bears are those of its worker's replies
pub faults_are : (w i k : ℕ) (xs : List Reply) → faults_of w i k xs ≡ count_by is_fault (share w i k xs)
faults_are w i k [] = refl
faults_are w i k (x ∷ xs) = by_cases (faults_are w i (k + 1) xs) (k % w == i) refl
  where
    by_cases : faults_of w i (k + 1) xs ≡ count_by is_fault (share w i (k + 1) xs) → (b : Bool) → (k % w == i) ≡ b → faults_of w i k (x ∷ xs) ≡ count_by is_fault (share w i k (x ∷ xs))
    by_cases h true e = rw (e, count_front is_fault x (share w i (k + 1) xs)) (ap (λ (n : ℕ). cond (is_fault x) 1 0 + n) h)
    by_cases h false e = rw e (omega (arith, h))

module _ (tells : Bool) (blobs : Listing) (r : RosterView) (seen : ℕ → Bool) (w : ℕ) (some : 0 < w) where
  -- each worker's lines have their replies, so all lines have theirs
  pub answered_all : (k : ℕ) (ls : List Line) (xs : List Reply) → length ls ≡ length xs
      → ((i : ℕ) → i < w → AllAnswered tells blobs r seen (share w i k ls) (share w i k xs)) → AllAnswered tells blobs r seen ls xs
  answered_all k [] [] n h = tt {0}
  answered_all k [] (x ∷ xs) n h = absurd (omega (arith, n))
  answered_all k (l ∷ ls) [] n h = absurd (omega (arith, n))
  answered_all k (l ∷ ls) (x ∷ xs) n h =
      let own = rw ((Decides-eqb (k % w) (k % w)).1 refl) at (h (k % w) (mod-lt k some)) in
      let fewer : length ls ≡ length xs = omega (arith, n) in
      (own.0, answered_all (k + 1) ls xs fewer (λ i below. rest i below (k % w == i) refl))
    where
      rest : (i : ℕ) → i < w → (b : Bool) → (k % w == i) ≡ b → AllAnswered tells blobs r seen (share w i (k + 1) ls) (share w i (k + 1) xs)
      rest i below true e = (rw e at (h i below)).1
      rest i below false e = rw e at (h i below)

  -- a mount that a line of the block unmounted is one that a line of some worker unmounted
  pub unmounted_some : (k : ℕ) (ls : List Line) (xs : List Reply) (n : ℕ) → unmounted_by r ls xs n ≡ true → (i : ℕ) × (i < w) × (unmounted_by r (share w i k ls) (share w i k xs) n ≡ true)
  unmounted_some k [] xs n h = absurd (cc)
  unmounted_some k (l ∷ ls) [] n h = absurd (cc)
  unmounted_some k (l ∷ ls) (x ∷ xs) n h = by_line (unmounts r l.command x n) refl (unmounted_some (k + 1) ls xs n)
    where
      by_line : (b : Bool) → unmounts r l.command x n ≡ b → (unmounted_by r ls xs n ≡ true → (i : ℕ) × (i < w) × (unmounted_by r (share w i (k + 1) ls) (share w i (k + 1) xs) n ≡ true))
          → (i : ℕ) × (i < w) × (unmounted_by r (share w i k (l ∷ ls)) (share w i k (x ∷ xs)) n ≡ true)
      by_line true e f = (k % w, mod-lt k some, rw ((Decides-eqb (k % w) (k % w)).1 refl, e) refl)
      by_line false e f = let later = f (rw e at h) in (later.0, later.1, kept later.0 later.2 (k % w == later.0) refl)
        where
          kept : (i : ℕ) → unmounted_by r (share w i (k + 1) ls) (share w i (k + 1) xs) n ≡ true → (b : Bool) → (k % w == i) ≡ b → unmounted_by r (share w i k (l ∷ ls)) (share w i k (x ∷ xs)) n ≡ true
          kept i u true t = rw (t, e) u
          kept i u false t = rw t u

  -- and the other way round
  pub unmounted_all : (k : ℕ) (ls : List Line) (xs : List Reply) (n i : ℕ) → unmounted_by r (share w i k ls) (share w i k xs) n ≡ true → length ls ≡ length xs → unmounted_by r ls xs n ≡ true
  unmounted_all k [] [] n i h m = absurd (cc)
  unmounted_all k [] (x ∷ xs) n i h m = absurd (omega (arith, m))
  unmounted_all k (l ∷ ls) [] n i h m = absurd (omega (arith, m))
  unmounted_all k (l ∷ ls) (x ∷ xs) n i h m =
      let fewer : length ls ≡ length xs = omega (arith, m) in
      by_share (k % w == i) refl (λ u. unmounted_all (k + 1) ls xs n i u fewer)
    where
      by_line : (b c : Bool) → (b || c) ≡ true → (c ≡ true → unmounted_by r ls xs n ≡ true) → (b || unmounted_by r ls xs n) ≡ true
      by_line true c e f = refl
      by_line false c e f = f e

      by_share : (b : Bool) → (k % w == i) ≡ b → (unmounted_by r (share w i (k + 1) ls) (share w i (k + 1) xs) n ≡ true → unmounted_by r ls xs n ≡ true) → unmounted_by r (l ∷ ls) (x ∷ xs) n ≡ true
      by_share true e f = by_line (unmounts r l.command x n) (unmounted_by r (share w i (k + 1) ls) (share w i (k + 1) xs) n) (rw e at h) f
      by_share false e f = by_line (unmounts r l.command x n) true (or-true (unmounts r l.command x n)) (λ t. f (rw e at h))
