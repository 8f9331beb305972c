-- What is dealt, one worker more.
use Rattle.std.proofs.Common.{◌≡◌, ◌∙◌, ◌≤◌, ◌+◌, ◌-◌, ℕ, zero, suc, take, drop, map, add-one, List, [], ◌∷◌, ◌++◌, length, ap, sym, subst, arith}
use Rattle.std.specs.Prelude.{Vec, vec_len, vec_capacity, Option, Some, None}
use Rattle.std.proofs.lemmas.List.{map-append}
use Rattle.cache_table.specs.Views.{CacheView, PassView}
use Rattle.mount_script.specs.declared.command.Line.{Line}
use Rattle.mount_script.specs.declared.reply.Reply.{Reply}
use Rattle.shared_run.specs.Shares.{share}
use Rattle.shared_run.specs.Dealt.{AreRooms, IsDealt, AllDealt, without_shares}

pub rooms_more : {Z : Type 0} (w i j : ℕ) (block : List Line) (vs : List (Vec Reply Z)) (v : Vec Reply Z) → j ≡ i + length vs → AreRooms w i block vs → v.items ≡ [] → vec_len v ≡ 0
    → length (share w j 0 block) ≤ vec_capacity v → AreRooms w i block (vs ++ v ∷ [])
rooms_more w i j block [] v at h e n room =
    let first : i ≡ j = omega (arith, at) in
    (e, n, subst (λ (k : ℕ). length (share w k 0 block) ≤ vec_capacity v) (sym first) room, tt {0})
rooms_more w i j block (u ∷ vs) v at h e n room =
    let next : j ≡ i + 1 + length vs = omega (arith, at) in
    (h.0, h.1, h.2, rooms_more w (i + 1) j block vs v next h.3 e n room)

pub dealt_more : (c : CacheView) (from : PassView) (os : List (Option PassView)) (o : Option PassView) → AllDealt c from os → IsDealt c from o → AllDealt c from (os ++ o ∷ [])
dealt_more c from [] o h one = (one, tt {0})
dealt_more c from (p ∷ os) o h one = (h.0, dealt_more c from os o h.1 one)

front_next : {X : Type 0} (k : ℕ) (xs : List X) (x : X) (ys : List X) → drop k xs ≡ x ∷ ys → (take (suc k) xs ≡ take k xs ++ x ∷ []) × (drop (suc k) xs ≡ ys)
front_next zero [] x ys e = absurd (cc)
front_next zero (z ∷ xs) x ys e = let h : z ≡ x = cc in let t : xs ≡ ys = cc in (ap (λ (y : _). y ∷ []) h, t)
front_next (suc k) [] x ys e = absurd (cc)
front_next (suc k) (z ∷ xs) x ys e = let h = front_next k xs x ys e in (ap (λ (l : List _). z ∷ l) h.0, h.1)

-- one item is taken off the rest of a list
pub front_more : {X : Type 0} (k : ℕ) (xs : List X) (x : X) (ys : List X) → drop k xs ≡ x ∷ ys → (take (k + 1) xs ≡ take k xs ++ x ∷ []) × (drop (k + 1) xs ≡ ys)
front_more k xs x ys e = rw (add-one) (front_next k xs x ys e)

-- and joins what was made of the others
pub mapped_more : {J X : Type 0} (f : J → X) (js : List J) (j : J) (k : ℕ) (xs : List X) (x : X) (ys : List X) → drop k xs ≡ x ∷ ys → f j ≡ x → map f js ≡ take k xs → map f (js ++ j ∷ []) ≡ take (k + 1) xs
mapped_more f js j k xs x ys e own h = map-append f js (j ∷ []) ∙ ap (λ (l : List _). l ++ f j ∷ []) h ∙ ap (λ (y : _). take k xs ++ y ∷ []) own ∙ sym (front_more k xs x ys e).0

-- ---- the pass that shares are taken of

pub dealt_from : (c : CacheView) (k : ℕ) (from : PassView) (o : Option PassView) → IsDealt c (without_shares k from) o → IsDealt c from o
dealt_from c k from None h = absurd h
dealt_from c k from (Some p) h = record { idle = h.idle; view = h.view; work = h.work }

abbrev with_shares : PassView → ℕ → PassView
with_shares p n = record { id = p.id; view = record p.view { shares = n }; work = p.work }

pub one_more_share : (k : ℕ) (p q r : PassView) → q ≡ without_shares k p → r ≡ without_shares 1 q → r ≡ without_shares (k + 1) p
one_more_share k p q r e f = f ∙ ap (without_shares 1) e ∙ ap (with_shares p) (less p.view.shares)
  where
    less : (s : ℕ) → s - k - 1 ≡ s - (k + 1)
    less s = omega arith

pub no_share : (p : PassView) → p ≡ without_shares 0 p
no_share p = ap (with_shares p) (same p.view.shares)
  where
    same : (s : ℕ) → s ≡ s - 0
    same s = omega arith
