-- The replies of the workers, taken one after another.
use Rattle.std.proofs.Common.{◌≡◌, ◌∙◌, ◌<◌, ◌+◌, ℕ, zero, suc, Bool, true, false, cond, List, [], ◌∷◌, ◌++◌, length, map, set, take, get_or, sym, ap, ap₂, subst, ◌≢◌, inl, inr, arith, refl}
use Rattle.std.specs.Prelude.{◌==◌, ◌%◌}
use Rattle.std.proofs.lemmas.List.{map-append, append_assoc, append-nil, length-append, length-map, length-take-le, get_or-set_same, get_or-set_other, get_or-map}
use Rattle.std.proofs.lemmas.Bool.Decides.{eqb_tells}
use Rattle.std.proofs.lemmas.Bool.{eq-eqb}
use Rattle.mount_script.specs.declared.command.Line.{Line}
use Rattle.mount_script.specs.declared.reply.Reply.{Reply}
use Rattle.shared_run.specs.Shares.{share}
use Rattle.shared_run.proofs.Shares.{share_append, share_room}

-- one item more of what was made of others
pub mapped_push : {X Y Z : Type 0} (f : X → Y) (g : Z → Y) (qs : List X) (before : List X) (js : List Z) (j : Z) (now : List X) → map f now ≡ map f qs ++ g j ∷ [] → map f qs ≡ map f before ++ map g js
    → map f now ≡ map f before ++ map g (js ++ j ∷ [])
mapped_push f g qs before js j now more h =
    more ∙ ap (λ (l : List _). l ++ g j ∷ []) h ∙ append_assoc (map f before) (map g js) (g j ∷ []) ∙ ap (λ (l : List _). map f before ++ l) (sym (map-append g js (j ∷ [])))

pub map_set : {X Y : Type 0} (f : X → Y) (xs : List X) (i : ℕ) (x : X) → map f (set xs i x) ≡ set (map f xs) i (f x)
map_set f [] i x = refl
map_set f (y ∷ xs) zero x = refl
map_set f (y ∷ xs) (suc i) x = ap (λ (l : List _). f y ∷ l) (map_set f xs i x)

-- parts of lists of one length have one length
pub share_length : {X Y : Type 0} (w i k : ℕ) (xs : List X) (ys : List Y) → length xs ≡ length ys → length (share w i k xs) ≡ length (share w i k ys)
share_length w i k [] [] e = refl
share_length w i k [] (y ∷ ys) e = absurd (omega (arith, e))
share_length w i k (x ∷ xs) [] e = absurd (omega (arith, e))
share_length w i k (x ∷ xs) (y ∷ ys) e = by_cases (k % w == i) (share_length w i (k + 1) xs ys (omega (arith, e)))
  where
    by_cases : (b : Bool) → length (share w i (k + 1) xs) ≡ length (share w i (k + 1) ys) → length (cond b (x ∷ share w i (k + 1) xs) (share w i (k + 1) xs)) ≡ length (cond b (y ∷ share w i (k + 1) ys) (share w i (k + 1) ys))
    by_cases true h = ap suc h
    by_cases false h = h

-- ---- one reply more

module _ (w k i : ℕ) (taken : List Reply) (x : Reply) (long : length taken ≡ k) where
  -- of the worker whose turn it is
  pub share_own : k % w ≡ i → share w i 0 (taken ++ x ∷ []) ≡ share w i 0 taken ++ x ∷ []
  share_own e =
      let h = share_append w i 0 taken (x ∷ []) in
      h ∙ ap (λ (n : ℕ). share w i 0 taken ++ share w i n (x ∷ [])) (place long) ∙ ap (λ (b : Bool). share w i 0 taken ++ cond b (x ∷ []) []) (eq-eqb (k % w) i e)
    where
      place : length taken ≡ k → 0 + length taken ≡ k
      place e = omega (arith, e)

  -- and of another
  pub share_other : (k % w == i) ≡ false → share w i 0 (taken ++ x ∷ []) ≡ share w i 0 taken
  share_other e =
      let h = share_append w i 0 taken (x ∷ []) in
      h ∙ ap (λ (n : ℕ). share w i 0 taken ++ share w i n (x ∷ [])) (place long) ∙ ap (λ (b : Bool). share w i 0 taken ++ cond b (x ∷ []) []) e ∙ append-nil (share w i 0 taken)
    where
      place : length taken ≡ k → 0 + length taken ≡ k
      place e = omega (arith, e)

-- what was taken of each worker's replies, and what is left of them, are all of them; the lengths are kept beside
pub record Split (w : ℕ) (taken : List Reply) (all left : List (List Reply)) (lens : List ℕ) (block : List Line) (i : ℕ) : Type 0 where
  pub parts : share w i 0 taken ++ get_or left i [] ≡ get_or all i []
  pub count : length (share w i 0 taken) + get_or lens i 0 ≡ length (share w i 0 block)

pub split_more : (w k j i : ℕ) (taken : List Reply) (x : Reply) (all left : List (List Reply)) (lens : List ℕ) (block : List Line) (rest : List Reply) (n : ℕ) → length taken ≡ k → j ≡ k % w → j < length left → j < length lens
    → get_or left j [] ≡ x ∷ rest → get_or lens j 0 ≡ n + 1 → Split w taken all left lens block i
    → Split w (taken ++ x ∷ []) all (set left j rest) (set lens j n) block i
split_more w k j i taken x all left lens block rest n long turn below under was many h = elim (eqb_tells j i) [
  | inl same ↦
      let own = share_own w k i taken x long (sym turn ∙ same.1) in
      let one = ap (λ (m : ℕ). get_or (set left m rest) i []) same.1 ∙ get_or-set_same left i rest [] (subst (λ (m : ℕ). m < length left) same.1 below) in
      let two = ap (λ (m : ℕ). get_or (set lens m n) i 0) same.1 ∙ get_or-set_same lens i n 0 (subst (λ (m : ℕ). m < length lens) same.1 under) in
      let first : get_or left i [] ≡ x ∷ rest = ap (λ (m : ℕ). get_or left m []) (sym same.1) ∙ was in
      let second : get_or lens i 0 ≡ n + 1 = ap (λ (m : ℕ). get_or lens m 0) (sym same.1) ∙ many in
      record {
        parts = ap₂ (λ (a b : List Reply). a ++ b) own one ∙ append_assoc (share w i 0 taken) (x ∷ []) rest ∙ ap (λ (l : List Reply). share w i 0 taken ++ l) (sym first) ∙ h.parts;
        count = (let m = ap length own ∙ length-append (share w i 0 taken) (x ∷ []) in let c = h.count in omega (arith, m, two, second, c));
      }
  | inr other ↦
      let own = share_other w k i taken x long (ap (λ (m : ℕ). m == i) (sym turn) ∙ other.0) in
      let apart : i ≢ j = λ e. other.1 (sym e) in
      let one = get_or-set_other left j i rest [] apart in
      let two = get_or-set_other lens j i n 0 apart in
      record {
        parts = ap₂ (λ (a b : List Reply). a ++ b) own one ∙ h.parts;
        count = (let m = ap length own in let c = h.count in omega (arith, m, two, c));
      }
]

-- none is left, so all were taken
pub split_all : (w i : ℕ) (taken : List Reply) (all left : List (List Reply)) (lens : List ℕ) (block : List Line) → length taken ≡ length block → length (get_or all i []) ≡ length (share w i 0 block)
    → Split w taken all left lens block i → share w i 0 taken ≡ get_or all i []
split_all w i taken all left lens block long fits h =
    let n = share_length w i 0 taken block long in
    let m = ap length (sym h.parts) ∙ length-append (share w i 0 taken) (get_or left i []) in
    let none : get_or left i [] ≡ [] = empty (get_or left i []) (omega (arith, n, m, fits)) in
    sym (append-nil (share w i 0 taken)) ∙ ap (λ (l : List Reply). share w i 0 taken ++ l) (sym none) ∙ h.parts
  where
    empty : (l : List Reply) → length l ≡ 0 → l ≡ []
    empty [] e = refl
    empty (x ∷ l) e = absurd (omega (arith, e))

-- the next reply is taken of the worker whose turn it is
pub split_next : {Q : Type 0} (items : Q → List Reply) (len : Q → ℕ) (w k j i : ℕ) (taken now : List Reply) (x : Reply) (all : List (List Reply)) (block : List Line) (qs : List Q) (q new : Q)
    → length taken ≡ k → now ≡ taken ++ x ∷ [] → j ≡ k % w → j < length qs → q ≡ get_or qs j q → items q ≡ x ∷ items new → len new + 1 ≡ len q
    → Split w taken all (map items qs) (map len qs) block i → Split w now all (map items (set qs j new)) (map len (set qs j new)) block i
split_next items len w k j i taken now x all block qs q new long is turn below here first fewer h =
    let was : get_or (map items qs) j [] ≡ x ∷ items new = get_or-map items qs j q [] below ∙ ap items (sym here) ∙ first in
    let many : get_or (map len qs) j 0 ≡ len new + 1 = get_or-map len qs j q 0 below ∙ ap len (sym here) ∙ sym fewer in
    let one : j < length (map items qs) = omega (arith, below, length-map qs items) in
    let two : j < length (map len qs) = omega (arith, below, length-map qs len) in
    let base = split_more w k j i taken x all (map items qs) (map len qs) block (items new) (len new) long turn one two was many h in
    subst (λ (ys : List Reply). Split w ys all (map items (set qs j new)) (map len (set qs j new)) block i) (sym is)
    (subst (λ (l : List (List Reply)). Split w (taken ++ x ∷ []) all l (map len (set qs j new)) block i) (sym (map_set items qs j new))
    (subst (λ (l : List ℕ). Split w (taken ++ x ∷ []) all (set (map items qs) j (items new)) l block i) (sym (map_set len qs j new)) base))

same_at : {X : Type 0} (xs : List X) (k : ℕ) (d e : X) → k < length xs → get_or xs k d ≡ get_or xs k e
same_at [] k d e h = absurd (omega (arith, h))
same_at (x ∷ xs) zero d e h = refl
same_at (x ∷ xs) (suc k) d e h = same_at xs k d e (omega (arith, h))

-- the worker whose turn it is has a line left
pub short_of : (w k : ℕ) (taken : List Reply) (block : List Line) → length taken ≡ k → k < length block → length (share w (k % w) 0 taken) < length (share w (k % w) 0 block)
short_of w k taken [] long less = absurd (omega (arith, less))
short_of w k taken (l ∷ ls) long less =
    let block = l ∷ ls in
    let x = get_or block k l in
    let front : length (take k block) ≡ k = length-take-le k block (omega (arith, less)) in
    let same = share_length w (k % w) 0 taken (take k block) (omega (arith, long, front)) in
    let room = share_room w (k % w) k block x less (same_at block k l x less) (eq-eqb (k % w) (k % w) refl) in
    omega (arith, same, room)
