-- The lists that the links give, where the links are right.
use Rattle.std.proofs.Common.{arith, ◌≡◌, ◌<◌, ◌≤◌, ℕ, zero, suc, List, [], ◌∷◌, ◌++◌, sym, subst, ◌∙◌, ap, inl, inr, refl, length, Some, None, append_assoc, replicate}
use Rattle.std.specs.Prelude.{map, slice_get}
use Rattle.std.proofs.lemmas.List.{length-map, length-replicate}
use Rattle.std.proofs.lemmas.Bool.{cases_eq, eq-eqb, ne_eqb}
use Rattle.freq_lists.specs.declared.links.Node.{Node}
use Rattle.freq_lists.specs.declared.links.Ends.{Ends}
use Rattle.freq_lists.specs.Lists.{times_in, behind, list_at, head}
use Rattle.freq_lists.specs.Links.{IsLinked, walk, walked, next_of}
use Rattle.freq_lists.proofs.Counts.{times_append, times_empty, at_empty}
use Rattle.freq_lists.proofs.Room.{room}
use Rattle.freq_lists.proofs.Linked.{most_at}

behind_at : (n : ℕ) (xs ys : List ℕ) → times_in n xs ≡ 0 → behind n (xs ++ n ∷ ys) ≡ head ys
behind_at n [] ys h = rw (eq-eqb n n refl) refl
behind_at n (x ∷ xs) ys h = elim (cases_eq x n) [
  | inl e ↦ absurd (let t = rw (eq-eqb x n e) at h in omega (arith, t))
  | inr d ↦ let t = rw (ne_eqb x n d) at h in rw (ne_eqb x n d) (behind_at n xs ys (omega (arith, t)))
]

pub past : (j : ℕ) (ls : List (List ℕ)) → length ls ≤ j → list_at j ls ≡ []
past j [] h = refl
past zero (l ∷ ls) h = absurd (omega arith)
past (suc j) (l ∷ ls) h = past j ls (omega arith)

same_lists : (xs ys : List (List ℕ)) → length xs ≡ length ys → ((k : ℕ) → k < length ys → list_at k xs ≡ list_at k ys) → xs ≡ ys
same_lists [] [] e h = refl
same_lists [] (y ∷ ys) e h = absurd (omega (arith, e))
same_lists (x ∷ xs) [] e h = absurd (omega (arith, e))
same_lists (x ∷ xs) (y ∷ ys) e h = rw (h 0 (omega arith), same_lists xs ys (omega (arith, e)) (λ k g. h (suc k) (omega (arith, g)))) refl

at_map : (f : Ends → List ℕ) (k : ℕ) (e : Ends) (es : List Ends) → slice_get es k ≡ Some e → list_at k (map f es) ≡ f e
at_map f k e [] h = cc
at_map f zero e (x ∷ es) h = let s : x ≡ e = cc in ap f s
at_map f (suc k) e (x ∷ es) h = at_map f k e es h

module _ (ns : List Node) (es : List Ends) (ls : List (List ℕ)) (is : IsLinked ns es ls) where
  pub short : (k : ℕ) → length (list_at k ls) ≤ length ns
  short k = room (length ns) (list_at k ls) (λ m. omega (arith, most_at m k ls, is.once m)) (λ m h. is.range m (omega (arith, h, most_at m k ls)))

  next_is : (k n : ℕ) → 0 < times_in n (list_at k ls) → next_of ns n ≡ behind n (list_at k ls)
  next_is k n some = rw (is.listed k n some) refl

  walk_is : (k most : ℕ) (xs ys : List ℕ) → list_at k ls ≡ xs ++ ys → length ys ≤ most → walk most (head ys) ns ≡ ys
  walk_is k zero xs [] e h = refl
  walk_is k (suc most) xs [] e h = refl
  walk_is k zero xs (y ∷ ys) e h = absurd (omega arith)
  walk_is k (suc most) xs (y ∷ ys) e h =
      let here = times_append y xs (y ∷ ys) in
      let one = rw (eq-eqb y y refl) at here in
      let once = rw e at (most_at y k ls) in
      let some : 0 < times_in y (list_at k ls) = rw e (omega (arith, one)) in
      let none : times_in y xs ≡ 0 = omega (arith, one, once, is.once y) in
      let next = next_is k y some ∙ ap (λ (l : List ℕ). behind y l) e ∙ behind_at y xs ys none in
      rw next (ap (λ (l : List ℕ). y ∷ l) (walk_is k most (xs ++ y ∷ []) ys (e ∙ sym (append_assoc xs (y ∷ []) ys)) (omega (arith, h))))

  pub seen : walked ns es ≡ ls
  seen = same_lists (walked ns es) ls (length-map es (λ (e : Ends). walk (length ns) e.first ns) ∙ sym is.count) (λ k h.
      at_map (λ (e : Ends). walk (length ns) e.first ns) k _ es (is.ends k h) ∙ walk_is k (length ns) [] (list_at k ls) refl (short k))

  pub linked_seen : IsLinked ns es (walked ns es)
  linked_seen = subst (λ (xs : List (List ℕ)). IsLinked ns es xs) (sym seen) is

get_replicate : {X : Type 0} (n i : ℕ) (x : X) → i < n → slice_get (replicate n x) i ≡ Some x
get_replicate zero i x h = absurd (omega arith)
get_replicate (suc n) zero x h = refl
get_replicate (suc n) (suc i) x h = get_replicate n i x (omega arith)

pub linked_new : (nodes lists : ℕ) → nodes < 4294967296 → lists < 4294967296
    → IsLinked (replicate nodes (record { previous = None; next = None; list = None })) (replicate lists (record { first = None; last = None })) (replicate lists [])
linked_new nodes lists a b =
    let free : Node = record { previous = None; next = None; list = None } in
    let empty : Ends = record { first = None; last = None } in
    let m = length-replicate {A = Node} nodes free in
    let e = length-replicate {A = Ends} lists empty in
    let c = length-replicate {A = List ℕ} lists [] in
    record {
      count = c ∙ sym e;
      few = (omega (arith, m, a), omega (arith, e, b));
      once = λ n. omega (arith, times_empty n lists);
      range = λ n some. absurd (omega (arith, some, times_empty n lists));
      listed = λ k n some. absurd (let s = rw (at_empty k lists) at some in omega (arith, s));
      free = λ n h none. get_replicate nodes n free (omega (arith, h, m));
      ends = λ k h. rw (at_empty k lists) (get_replicate lists k empty (omega (arith, h, c)));
    }
