-- Workers' parts of a list.
use Rattle.std.proofs.Common.{◌≡◌, ◌∙◌, ◌≢◌, ◌<◌, ◌+◌, ℕ, zero, suc, Bool, true, false, cond, List, [], ◌∷◌, ◌++◌, length, take, drop, get_or, sym, ap, refl, inl, inr, arith, add-zero}
use Rattle.std.specs.Prelude.{◌==◌, ◌%◌, ◌||◌}
use Rattle.std.proofs.lemmas.List.{length-append, length-take-le, take_more, take-append-drop, append-nil}
use Rattle.std.proofs.lemmas.Bool.Decides.{eqb_tells}
use Rattle.mount_script.specs.declared.command.Line.{Line}
use Rattle.shared_run.specs.Shares.{share}
use Rattle.script_run.specs.Blocks.{NoMounts}
use Rattle.script_run.specs.Lines.{is_mount}

pub first_holds : (x y : Bool) → y ≡ false → (x || y) ≡ true → x ≡ true
first_holds true y e k = refl
first_holds false y e k = absurd (cc)

pub other_is : (a b : ℕ) → a ≢ b → (a == b) ≡ false
other_is a b h = elim (eqb_tells a b) [
  | inl t ↦ absurd (h t.1)
  | inr f ↦ f.0
]

module _ {X : Type 0} (w i : ℕ) where
  with_front : (k n : ℕ) (x : X) (xs ys : List X) → n ≡ k + length (x ∷ xs) → share w i (k + 1) (xs ++ ys) ≡ share w i (k + 1) xs ++ share w i (k + 1 + length xs) ys → (b : Bool)
      → cond b (x ∷ share w i (k + 1) (xs ++ ys)) (share w i (k + 1) (xs ++ ys)) ≡ cond b (x ∷ share w i (k + 1) xs) (share w i (k + 1) xs) ++ share w i n ys
  with_front k n x xs ys is h b = by_cases b
    where
      place : k + 1 + length xs ≡ n
      place = omega (arith, is)

      rest : share w i (k + 1) (xs ++ ys) ≡ share w i (k + 1) xs ++ share w i n ys
      rest = h ∙ ap (λ (m : ℕ). share w i (k + 1) xs ++ share w i m ys) place

      by_cases : (b : Bool) → cond b (x ∷ share w i (k + 1) (xs ++ ys)) (share w i (k + 1) (xs ++ ys)) ≡ cond b (x ∷ share w i (k + 1) xs) (share w i (k + 1) xs) ++ share w i n ys
      by_cases true = ap (λ (t : List X). x ∷ t) rest
      by_cases false = rest

  pub share_append : (k : ℕ) (xs ys : List X) → share w i k (xs ++ ys) ≡ share w i k xs ++ share w i (k + length xs) ys
  share_append k [] ys = ap (λ (n : ℕ). share w i n ys) (sym (add-zero k))
  share_append k (x ∷ xs) ys = with_front k (k + length (x ∷ xs)) x xs ys refl (share_append (k + 1) xs ys) (k % w == i)

  next_item : (k : ℕ) (xs : List X) (d : X) → k < length xs → (b : Bool) → (k % w == i) ≡ b
      → share w i 0 (take (k + 1) xs) ≡ share w i 0 (take k xs) ++ cond b (get_or xs k d ∷ []) []
  next_item k xs d h b is =
      let front : length (take k xs) ≡ k = length-take-le k xs (omega (arith, h)) in
      let long : 0 + length (take k xs) ≡ k = omega (arith, front) in
      let one = get_or xs k d in
      ap (share w i 0) (take_more xs k d h) ∙ share_append 0 (take k xs) (one ∷ [])
      ∙ ap (λ (n : ℕ). share w i 0 (take k xs) ++ share w i n (one ∷ [])) long ∙ ap (λ (c : Bool). share w i 0 (take k xs) ++ cond c (one ∷ []) []) is

  -- with one item more
  pub share_more : (k : ℕ) (xs : List X) (x : X) → k < length xs → x ≡ get_or xs k x → (k % w == i) ≡ true → share w i 0 (take (k + 1) xs) ≡ share w i 0 (take k xs) ++ x ∷ []
  share_more k xs x h at is = next_item k xs x h true is ∙ ap (λ (y : X). share w i 0 (take k xs) ++ y ∷ []) (sym at)

  pub longer : (k : ℕ) (xs : List X) → k < length xs → (k % w == i) ≡ true → length (share w i 0 (take (k + 1) xs)) ≡ length (share w i 0 (take k xs)) + 1
  longer k [] h is = absurd (omega (arith, h))
  longer k (x ∷ xs) h is = ap length (next_item k (x ∷ xs) x h true is) ∙ length-append (share w i 0 (take k (x ∷ xs))) (get_or (x ∷ xs) k x ∷ [])

  -- an item that is another's
  pub share_same : (k : ℕ) (xs : List X) → k < length xs → (k % w == i) ≡ false → share w i 0 (take (k + 1) xs) ≡ share w i 0 (take k xs)
  share_same k [] h is = absurd (omega (arith, h))
  share_same k (x ∷ xs) h is = next_item k (x ∷ xs) x h false is ∙ append-nil (share w i 0 (take k (x ∷ xs)))

  -- an item of the part has its place in it
  pub share_room : (k : ℕ) (xs : List X) (x : X) → k < length xs → x ≡ get_or xs k x → (k % w == i) ≡ true → length (share w i 0 (take k xs)) < length (share w i 0 xs)
  share_room k xs x h at is =
      let front = share_more k xs x h at is in
      let all : share w i 0 (take (k + 1) xs ++ drop (k + 1) xs) ≡ share w i 0 (take (k + 1) xs) ++ share w i (0 + length (take (k + 1) xs)) (drop (k + 1) xs) = share_append 0 (take (k + 1) xs) (drop (k + 1) xs) in
      let whole : take (k + 1) xs ++ drop (k + 1) xs ≡ xs = take-append-drop (k + 1) xs in
      let n : length (share w i 0 xs) ≡ length (share w i 0 (take (k + 1) xs)) + length (share w i (0 + length (take (k + 1) xs)) (drop (k + 1) xs)) =
      ap (λ (ys : List X). length (share w i 0 ys)) (sym whole) ∙ ap length all ∙ length-append (share w i 0 (take (k + 1) xs)) (share w i (0 + length (take (k + 1) xs)) (drop (k + 1) xs)) in
      let m : length (share w i 0 (take (k + 1) xs)) ≡ length (share w i 0 (take k xs)) + 1 = ap length front ∙ length-append (share w i 0 (take k xs)) (x ∷ []) in
      omega (arith, n, m)

-- a line that is no `mount`, at its place
pub no_mount_at : (ls : List Line) (i : ℕ) (l : Line) → NoMounts ls → i < length ls → l ≡ get_or ls i l → is_mount l.command ≡ false
no_mount_at [] i l h k e = absurd (omega (arith, k))
no_mount_at (m ∷ ls) zero l h k e = ap (λ (n : Line). is_mount n.command) e ∙ h.0
no_mount_at (m ∷ ls) (suc i) l h k e = let fewer : i < length ls = omega (arith, k) in no_mount_at ls i l h.1 fewer e
