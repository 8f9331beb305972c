-- The jobs of all workers, from what holds of each.
use Rattle.std.proofs.Common.{◌≡◌, ◌∙◌, ◌≤◌, ◌<◌, ◌+◌, ℕ, zero, suc, List, [], ◌∷◌, ◌++◌, length, map, take, drop, get_or, sym, ap, subst, refl, arith, add-zero}
use Rattle.std.specs.Prelude.{Vec, vec_len, vec_capacity, Option, Some, None}
use Rattle.std.proofs.lemmas.List.{get_or-map}
use Rattle.cache_outside.specs.Sources.{SourceView}
use Rattle.cache_table.specs.Views.{CacheView, PassView}
use Rattle.index_mounts.specs.Rosters.{RosterView}
use Rattle.mount_script.specs.declared.command.Line.{Line}
use Rattle.mount_script.specs.declared.reply.Reply.{Reply}
use Rattle.script_run.specs.Lines.{Cached}
use Rattle.shared_run.specs.Blocks.{JobsRan}
use Rattle.shared_run.specs.Dealt.{AreRooms, AllDealt, IsDealt}
use Rattle.shared_run.specs.Shares.{share}
use Rattle.shared_run.specs.Workers.{JobRan, IsReady}

pub map_map : {X Y Z : Type 0} (f : Y → Z) (g : X → Y) (xs : List X) → map f (map g xs) ≡ map (λ x. f (g x)) xs
map_map f g [] = refl
map_map f g (x ∷ xs) = ap (λ (l : List _). f (g x) ∷ l) (map_map f g xs)

next : (i k : ℕ) → i + suc k ≡ i + 1 + k
next i k = omega arith

module _ {J : Type 0} (source : J → SourceView) (pass : J → Option PassView) (replies : J → List Reply) (e : Cached) (c : CacheView) (r : RosterView) (w : ℕ) (block : List Line) where
  pub jobs_ran : (i : ℕ) (js ks : List J) → length ks ≡ length js
      → ((k : ℕ) (d : J) → k < length js → JobRan e c r (share w (i + k) 0 block) (replies (get_or ks k d)) (source (get_or js k d)) (source (get_or ks k d)) (pass (get_or js k d)) (pass (get_or ks k d)))
      → JobsRan e c r w i block (map replies ks) (map source js) (map source ks) (map pass js) (map pass ks)
  jobs_ran i [] [] n h = tt {0}
  jobs_ran i [] (k ∷ ks) n h = absurd (omega (arith, n))
  jobs_ran i (j ∷ js) [] n h = absurd (omega (arith, n))
  jobs_ran i (j ∷ js) (k ∷ ks) n h = (
    subst (λ (m : ℕ). JobRan e c r (share w m 0 block) (replies k) (source j) (source k) (pass j) (pass k)) (add-zero i) (h 0 j (omega arith)),
    jobs_ran (i + 1) js ks (omega (arith, n))
        (λ m d below. subst (λ (o : ℕ). JobRan e c r (share w o 0 block) (replies (get_or ks m d)) (source (get_or js m d)) (source (get_or ks m d)) (pass (get_or js m d)) (pass (get_or ks m d))) (next i m) (h (suc m) d (omega (arith, below)))),
  )

  dealt_ready : (p : PassView) (o : Option PassView) → IsDealt c p o → IsReady c o
  dealt_ready p None h = absurd h
  dealt_ready p (Some q) h = h.idle

  -- each job that was dealt a share is ready
  pub all_ready : (p : PassView) (js : List J) → AllDealt c p (map pass js) → (k : ℕ) (d : J) → k < length js → IsReady c (pass (get_or js k d))
  all_ready p [] h k d below = absurd (omega (arith, below))
  all_ready p (j ∷ js) h zero d below = dealt_ready p (pass j) h.0
  all_ready p (j ∷ js) h (suc k) d below = all_ready p js h.1 k d (omega (arith, below))

-- rooms for the first of the workers
pub rooms_front : {Z : Type 0} (w i n : ℕ) (block : List Line) (vs : List (Vec Reply Z)) → AreRooms w i block vs → AreRooms w i block (take n vs)
rooms_front w i zero block [] h = tt {0}
rooms_front w i zero block (v ∷ vs) h = tt {0}
rooms_front w i (suc n) block [] h = tt {0}
rooms_front w i (suc n) block (v ∷ vs) h = (h.0, h.1, h.2, rooms_front w (i + 1) n block vs h.3)

pub room_at : {J Z : Type 0} (get : J → Vec Reply Z) (w i : ℕ) (block : List Line) (js : List J) → AreRooms w i block (map get js) → (k : ℕ) (d : J) → k < length js
    → ((get (get_or js k d)).items ≡ []) × (vec_len (get (get_or js k d)) ≡ 0) × (length (share w (i + k) 0 block) ≤ vec_capacity (get (get_or js k d)))
room_at get w i block [] h k d below = absurd (omega (arith, below))
room_at get w i block (j ∷ js) h zero d below = (h.0, h.1, subst (λ (m : ℕ). length (share w m 0 block) ≤ vec_capacity (get j)) (sym (add-zero i)) h.2)
room_at get w i block (j ∷ js) h (suc k) d below =
    let rest = room_at get w (i + 1) block js h.3 k d (omega (arith, below)) in
    (rest.0, rest.1, subst (λ (m : ℕ). length (share w m 0 block) ≤ vec_capacity (get (get_or js k d))) (sym (next i k)) rest.2)

-- a list that was lent whole and comes back with as many items
pub filled : {X : Type 0} (n : ℕ) (ws xs : List X) → length ws ≡ length xs → n ≡ length xs → take n (ws ++ drop (length ws) xs) ≡ ws
filled zero [] [] e f = refl
filled (suc n) [] [] e f = refl
filled n [] (x ∷ xs) e f = absurd (omega (arith, e))
filled n (w ∷ ws) [] e f = absurd (omega (arith, e))
filled zero (w ∷ ws) (x ∷ xs) e f = absurd (omega (arith, f))
filled (suc n) (w ∷ ws) (x ∷ xs) e f = ap (λ (l : List _). w ∷ l) (filled n ws xs (omega (arith, e)) (omega (arith, f)))

-- a number of each, in the list of all
pub each_number : {J : Type 0} (f : J → ℕ) (h : ℕ → ℕ) (n : ℕ) (ks : List J) → length ks ≡ n → ((k : ℕ) (d : J) → k < n → f (get_or ks k d) ≡ h k) → (i : ℕ) → i < n → get_or (map f ks) i 0 ≡ h i
each_number f h n [] e each i below = absurd (omega (arith, e, below))
each_number f h n (j ∷ ks) e each i below = get_or-map f (j ∷ ks) i j 0 (omega (arith, e, below)) ∙ each i j below
