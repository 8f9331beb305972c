-- The links stay right where a node is pushed and where one is taken out.
use Rattle.std.proofs.Common.{arith, ◌≡◌, ◌≢◌, ◌<◌, ◌≤◌, ◌+◌, ℕ, zero, suc, List, [], ◌∷◌, ◌++◌, sym, ◌∙◌, ap, inl, inr, refl, length, set, Option, Some, None}
use Rattle.std.specs.Prelude.{slice_get, ◌⊎◌}
use Rattle.std.proofs.lemmas.List.{length-set}
use Rattle.std.proofs.lemmas.Bool.{cases_eq, eq-eqb, ne_eqb}
use Rattle.freq_lists.specs.declared.links.Node.{Node}
use Rattle.freq_lists.specs.declared.links.Ends.{Ends}
use Rattle.freq_lists.specs.Lists.{push_back, unlink, without, times, times_in, behind, list_at, head}
use Rattle.freq_lists.specs.Links.{IsLinked, ahead, last_of, with_next, with_previous, with_first, with_last}
use Rattle.freq_lists.proofs.Counts.{times_append, times_push, length_push, length_unlink, at_same, at_other, times_without, without_other, times_unlink, unlink_other_times}
use Rattle.freq_lists.proofs.Changes.{length-change, changed, unchanged, put, put_other}
use Rattle.freq_lists.proofs.Beside.{behind_in, ahead_in, last_in, without_none, pushed_behind, pushed_ahead, last_pushed, ahead_kept, last_behind, behind_kept, behind_joined, behind_same, ahead_joined, ahead_same, head_joined, head_same, last_joined, last_same}

-- ---- cases

pub none_first : (m : ℕ) → None ≢ Some m
none_first m e = cc

pub some_or_not : (o : Option ℕ) (m : ℕ) → (o ≡ Some m) ⊎ (o ≢ Some m)
some_or_not None m = inr (none_first m)
some_or_not (Some n) m = elim (cases_eq n m) [
  | inl e ↦ inl (ap (λ (k : ℕ). Some k) e)
  | inr d ↦ inr (λ e. d (let f : Some n ≡ Some m = e in cc))
]

-- ---- the lists at different numbers

pub most_at : (m j : ℕ) (ls : List (List ℕ)) → times_in m (list_at j ls) ≤ times m ls
most_at m j [] = omega arith
most_at m zero (l ∷ ls) = omega arith
most_at m (suc j) (l ∷ ls) = omega (arith, most_at m j ls)

two_at : (m j k : ℕ) (ls : List (List ℕ)) → ¬ (j ≡ k) → times_in m (list_at j ls) + times_in m (list_at k ls) ≤ times m ls
two_at m j k [] d = omega arith
two_at m zero zero (l ∷ ls) d = absurd (d refl)
two_at m zero (suc k) (l ∷ ls) d = omega (arith, most_at m k ls)
two_at m (suc j) zero (l ∷ ls) d = omega (arith, most_at m j ls)
two_at m (suc j) (suc k) (l ∷ ls) d = omega (arith, two_at m j k ls (λ e. d (ap suc e)))

at_unlink : (n j : ℕ) (ls : List (List ℕ)) → list_at j (unlink n ls) ≡ without n (list_at j ls)
at_unlink n j [] = refl
at_unlink n zero (l ∷ ls) = refl
at_unlink n (suc j) (l ∷ ls) = at_unlink n j ls

-- ---- reads after changes

abbrev node : Option ℕ → Option ℕ → Option ℕ → Node
node p x k = record { previous = p; next = x; list = k }

same_node : (p q x y : Option ℕ) (k : Option ℕ) → p ≡ q → x ≡ y → Some (node p x k) ≡ Some (node q y k)
same_node p q x y k a b = rw (a, b) refl

module _ (x : Option ℕ) (m : ℕ) (ns : List Node) where
  next_here : (p : Option ℕ) (q y k : Option ℕ) → p ≡ Some m → slice_get ns m ≡ Some (node q y k) → slice_get (with_next p x ns) m ≡ Some (node q x k)
  next_here p q y k e h = rw e (changed (λ (v : Node). record v { next = x }) m (node q y k) ns h)

  next_there : (p : Option ℕ) → p ≢ Some m → slice_get (with_next p x ns) m ≡ slice_get ns m
  next_there None d = refl
  next_there (Some i) d = unchanged (λ (v : Node). record v { next = x }) i m ns (λ e. d (ap (λ (k : ℕ). Some k) e))

  previous_here : (p : Option ℕ) (q y k : Option ℕ) → p ≡ Some m → slice_get ns m ≡ Some (node q y k) → slice_get (with_previous p x ns) m ≡ Some (node x y k)
  previous_here p q y k e h = rw e (changed (λ (v : Node). record v { previous = x }) m (node q y k) ns h)

  previous_there : (p : Option ℕ) → p ≢ Some m → slice_get (with_previous p x ns) m ≡ slice_get ns m
  previous_there None d = refl
  previous_there (Some i) d = unchanged (λ (v : Node). record v { previous = x }) i m ns (λ e. d (ap (λ (k : ℕ). Some k) e))

pub length_next : (p x : Option ℕ) (ns : List Node) → length (with_next p x ns) ≡ length ns
length_next None x ns = refl
length_next (Some i) x ns = length-change (λ (v : Node). record v { next = x }) i ns

pub length_previous : (p x : Option ℕ) (ns : List Node) → length (with_previous p x ns) ≡ length ns
length_previous None x ns = refl
length_previous (Some i) x ns = length-change (λ (v : Node). record v { previous = x }) i ns

pub length_first : (p x : Option ℕ) (k : ℕ) (es : List Ends) → length (with_first p x k es) ≡ length es
length_first None x k es = length-change (λ (e : Ends). record e { first = x }) k es
length_first (Some i) x k es = refl

pub length_last : (p x : Option ℕ) (k : ℕ) (es : List Ends) → length (with_last p x k es) ≡ length es
length_last None x k es = length-change (λ (e : Ends). record e { last = x }) k es
length_last (Some i) x k es = refl

first_there : (p x : Option ℕ) (k j : ℕ) (es : List Ends) → ¬ (k ≡ j) → slice_get (with_first p x k es) j ≡ slice_get es j
first_there None x k j es d = unchanged (λ (e : Ends). record e { first = x }) k j es d
first_there (Some i) x k j es d = refl

last_there : (p x : Option ℕ) (k j : ℕ) (es : List Ends) → ¬ (k ≡ j) → slice_get (with_last p x k es) j ≡ slice_get es j
last_there None x k j es d = unchanged (λ (e : Ends). record e { last = x }) k j es d
last_there (Some i) x k j es d = refl

abbrev pub pushed_nodes : List Node → List (List ℕ) → ℕ → ℕ → List Node
pushed_nodes ns ls k n = with_next (last_of None (list_at k ls)) (Some n) (set ns n (node (last_of None (list_at k ls)) None (Some k)))

abbrev pub pushed_ends : List Ends → List (List ℕ) → ℕ → ℕ → List Ends
pushed_ends es ls k n = with_last None (Some n) k (with_first (last_of None (list_at k ls)) (Some n) k es)

abbrev pub left_nodes : List Node → List (List ℕ) → ℕ → ℕ → List Node
left_nodes ns ls k n = set (with_previous (behind n (list_at k ls)) (ahead None n (list_at k ls)) (with_next (ahead None n (list_at k ls)) (behind n (list_at k ls)) ns)) n (node None None None)

abbrev pub left_ends : List Ends → List (List ℕ) → ℕ → ℕ → List Ends
left_ends es ls k n = with_last (behind n (list_at k ls)) (ahead None n (list_at k ls)) k (with_first (ahead None n (list_at k ls)) (behind n (list_at k ls)) k es)

module _ (ns : List Node) (es : List Ends) (ls : List (List ℕ)) (is : IsLinked ns es ls) (k n : ℕ) (within : k < length ls) (range : n < length ns) where
  listed_once : (j m : ℕ) → times_in m (list_at j ls) ≤ 1
  listed_once j m = omega (arith, is.once m, most_at m j ls)

  apart : (j m : ℕ) → ¬ (j ≡ k) → 0 < times_in m (list_at j ls) → times_in m (list_at k ls) ≡ 0
  apart j m d some = omega (arith, some, is.once m, two_at m j k ls d)

  -- ---- a push

  module _ (free : times n ls ≡ 0) where
    nowhere : (j : ℕ) → times_in n (list_at j ls) ≡ 0
    nowhere j = omega (arith, free, most_at n j ls)

    not_last : (m : ℕ) → times_in m (list_at k ls) ≡ 0 → last_of None (list_at k ls) ≢ Some m
    not_last m none e = absurd (omega (arith, none, last_in None m (list_at k ls) (none_first m) e))

    push_kept : (m : ℕ) → ¬ (n ≡ m) → times_in m (list_at k ls) ≡ 0 → slice_get (pushed_nodes ns ls k n) m ≡ slice_get ns m
    push_kept m d none =
        next_there (Some n) m (set ns n (node (last_of None (list_at k ls)) None (Some k))) (last_of None (list_at k ls)) (not_last m none)
        ∙ put_other n m (node (last_of None (list_at k ls)) None (Some k)) ns d

    push_listed : (m : ℕ) → 0 < times_in m (list_at k ls ++ n ∷ []) → slice_get (pushed_nodes ns ls k n) m ≡ Some (node (ahead None m (list_at k ls ++ n ∷ [])) (behind m (list_at k ls ++ n ∷ [])) (Some k))
    push_listed m some = elim (cases_eq n m) [
      | inl e ↦ rw (← e) (
          next_there (Some n) n (set ns n (node (last_of None (list_at k ls)) None (Some k))) (last_of None (list_at k ls)) (not_last n (nowhere k))
          ∙ put n (node (last_of None (list_at k ls)) None (Some k)) ns range
          ∙ sym (same_node _ _ _ _ (Some k) (pushed_ahead n None (list_at k ls) (nowhere k)) (pushed_behind n (list_at k ls) (nowhere k)))
          )
      | inr d ↦
          let t = rw (ne_eqb n m d) at (times_append m (list_at k ls) (n ∷ [])) in
          let some_old : 0 < times_in m (list_at k ls) = omega (arith, t, some) in
          let old = put_other n m (node (last_of None (list_at k ls)) None (Some k)) ns d ∙ is.listed k m some_old in
          elim (some_or_not (last_of None (list_at k ls)) m) [
            | inl e ↦
                next_here (Some n) m (set ns n (node (last_of None (list_at k ls)) None (Some k))) (last_of None (list_at k ls)) _ _ (Some k) e old
                ∙ sym (same_node _ _ _ _ (Some k) (ahead_kept n m d None (list_at k ls)) (last_behind n m d None (list_at k ls) (none_first m) (listed_once k m) e))
            | inr e ↦
                next_there (Some n) m (set ns n (node (last_of None (list_at k ls)) None (Some k))) (last_of None (list_at k ls)) e ∙ old
                ∙ sym (same_node _ _ _ _ (Some k) (ahead_kept n m d None (list_at k ls)) (behind_kept n m d None (list_at k ls) some_old e))
          ]
    ]

    push_ends : (l : List ℕ) → list_at k ls ≡ l → slice_get (pushed_ends es ls k n) k ≡ Some (record { first = head (l ++ n ∷ []); last = last_of None (l ++ n ∷ []) })
    push_ends [] e =
        let old = rw e at (is.ends k within) in
        rw e (changed (λ (v : Ends). record v { last = Some n }) k _ _ (changed (λ (v : Ends). record v { first = Some n }) k _ es old))
    push_ends (x ∷ l) e =
        let old = rw e at (is.ends k within) in
        let s = some_last x l in
        rw (e, s.1) (changed (λ (v : Ends). record v { last = Some n }) k _ es old ∙ rw (last_pushed n (Some x) l) refl)
      where
        some_last : (x' : ℕ) (l' : List ℕ) → (y : ℕ) × (last_of (Some x') l' ≡ Some y)
        some_last x' [] = (x', refl)
        some_last x' (y ∷ ys) = some_last y ys

    pub linked_push : IsLinked (pushed_nodes ns ls k n) (pushed_ends es ls k n) (push_back k n ls)
    linked_push = record {
      count = length_push k n ls ∙ is.count ∙ sym ends_count;
      few = (omega (arith, nodes_count, is.few.0), omega (arith, ends_count, is.few.1));
      once = λ m. elim (cases_eq n m) [
        | inl e ↦ let t = rw (eq-eqb n m e) at (times_push m k n ls within) in let z = rw e at free in omega (arith, t, z)
        | inr d ↦ let t = rw (ne_eqb n m d) at (times_push m k n ls within) in omega (arith, t, is.once m)
      ];
      range = λ m some. elim (cases_eq n m) [
        | inl e ↦ omega (arith, e, range, nodes_count)
        | inr d ↦ let t = rw (ne_eqb n m d) at (times_push m k n ls within) in omega (arith, is.range m (omega (arith, t, some)), nodes_count)
      ];
      listed = λ j m some. elim (cases_eq j k) [
        | inl e ↦
            let s = rw (e, at_same k n ls within) at some in
            rw (e, at_same k n ls within) (push_listed m s)
        | inr d ↦
            let o = at_other j k n ls (λ e. d (sym e)) in
            let s = rw o at some in
            let other : ¬ (n ≡ m) = λ e. (let z = rw e at (nowhere j) in absurd (omega (arith, z, s))) in
            rw o (push_kept m other (apart j m d s) ∙ is.listed j m s)
      ];
      free = λ m h none. elim (cases_eq n m) [
        | inl e ↦ absurd (let t = rw (eq-eqb n m e) at (times_push m k n ls within) in omega (arith, t, none))
        | inr d ↦
            let t = rw (ne_eqb n m d) at (times_push m k n ls within) in
            let z : times m ls ≡ 0 = omega (arith, t, none) in
            push_kept m d (omega (arith, z, most_at m k ls)) ∙ is.free m (omega (arith, h, nodes_count)) z
      ];
      ends = λ j h. elim (cases_eq j k) [
        | inl e ↦ rw (e, at_same k n ls within) (push_ends (list_at k ls) refl)
        | inr d ↦
            let o = at_other j k n ls (λ e. d (sym e)) in
            rw o (last_there None (Some n) k j (with_first (last_of None (list_at k ls)) (Some n) k es) (λ e. d (sym e)) ∙ first_there (last_of None (list_at k ls)) (Some n) k j es (λ e. d (sym e)) ∙ is.ends j (omega (arith, h, length_push k n ls)))
      ];
    }
      where
        nodes_count : length (pushed_nodes ns ls k n) ≡ length ns
        nodes_count = length_next (last_of None (list_at k ls)) (Some n) (set ns n (node (last_of None (list_at k ls)) None (Some k))) ∙ length-set ns n (node (last_of None (list_at k ls)) None (Some k))

        ends_count : length (pushed_ends es ls k n) ≡ length es
        ends_count = length_last None (Some n) k (with_first (last_of None (list_at k ls)) (Some n) k es) ∙ length_first (last_of None (list_at k ls)) (Some n) k es

  -- ---- a removal

  module _ (one : times_in n (list_at k ls) ≡ 1) where
    not_ahead : (m : ℕ) → times_in m (list_at k ls) ≡ 0 → ahead None n (list_at k ls) ≢ Some m
    not_ahead m none e = absurd (omega (arith, none, ahead_in None n m (list_at k ls) (none_first m) e))

    not_behind : (m : ℕ) → times_in m (list_at k ls) ≡ 0 → behind n (list_at k ls) ≢ Some m
    not_behind m none e = absurd (omega (arith, none, behind_in n m (list_at k ls) e))

    unlink_kept : (m : ℕ) → ¬ (n ≡ m) → times_in m (list_at k ls) ≡ 0 → slice_get (left_nodes ns ls k n) m ≡ slice_get ns m
    unlink_kept m d none =
        put_other n m (node None None None) _ d
        ∙ previous_there (ahead None n (list_at k ls)) m _ (behind n (list_at k ls)) (not_behind m none)
        ∙ next_there (behind n (list_at k ls)) m ns (ahead None n (list_at k ls)) (not_ahead m none)

    unlink_next : (m : ℕ) → ¬ (m ≡ n) → 0 < times_in m (list_at k ls)
        → slice_get (with_next (ahead None n (list_at k ls)) (behind n (list_at k ls)) ns) m ≡ Some (node (ahead None m (list_at k ls)) (behind m (without n (list_at k ls))) (Some k))
    unlink_next m d some = elim (some_or_not (ahead None n (list_at k ls)) m) [
      | inl e ↦
          next_here (behind n (list_at k ls)) m ns (ahead None n (list_at k ls)) _ _ (Some k) e (is.listed k m some)
          ∙ sym (same_node _ _ _ _ (Some k) refl (behind_joined n m d None (list_at k ls) (none_first m) (listed_once k n) (listed_once k m) e))
      | inr e ↦
          next_there (behind n (list_at k ls)) m ns (ahead None n (list_at k ls)) e ∙ is.listed k m some
          ∙ sym (same_node _ _ _ _ (Some k) refl (behind_same n m d None (list_at k ls) (listed_once k n) some e))
    ]

    unlink_listed : (m : ℕ) → ¬ (m ≡ n) → 0 < times_in m (list_at k ls) → slice_get (left_nodes ns ls k n) m ≡ Some (node (ahead None m (without n (list_at k ls))) (behind m (without n (list_at k ls))) (Some k))
    unlink_listed m d some =
        put_other n m (node None None None) _ (λ e. d (sym e)) ∙ (elim (some_or_not (behind n (list_at k ls)) m) [
          | inl e ↦
              previous_here (ahead None n (list_at k ls)) m _ (behind n (list_at k ls)) _ _ (Some k) e (unlink_next m d some)
              ∙ sym (same_node _ _ _ _ (Some k) (ahead_joined n m d None (list_at k ls) (listed_once k n) (listed_once k m) e) refl)
          | inr e ↦
              previous_there (ahead None n (list_at k ls)) m _ (behind n (list_at k ls)) e ∙ unlink_next m d some
              ∙ sym (same_node _ _ _ _ (Some k) (ahead_same n m d None (list_at k ls) (listed_once k n) e) refl)
        ])

    ends_first : (p : Option ℕ) → ahead None n (list_at k ls) ≡ p
        → slice_get (with_first p (behind n (list_at k ls)) k es) k ≡ Some (record { first = head (without n (list_at k ls)); last = last_of None (list_at k ls) })
    ends_first None e = changed (λ (v : Ends). record v { first = behind n (list_at k ls) }) k _ es (is.ends k within) ∙ rw (head_joined n (list_at k ls) one e) refl
    ends_first (Some q) e = is.ends k within ∙ rw (head_same n q (list_at k ls) e) refl

    ends_last : (x : Option ℕ) → behind n (list_at k ls) ≡ x
        → slice_get (with_last x (ahead None n (list_at k ls)) k (with_first (ahead None n (list_at k ls)) (behind n (list_at k ls)) k es)) k ≡ Some (record { first = head (without n (list_at k ls)); last = last_of None (without n (list_at k ls)) })
    ends_last None e = changed (λ (v : Ends). record v { last = ahead None n (list_at k ls) }) k _ _ (ends_first (ahead None n (list_at k ls)) refl) ∙ rw (last_joined n None (list_at k ls) one e) refl
    ends_last (Some q) e = ends_first (ahead None n (list_at k ls)) refl ∙ rw (last_same n None q (list_at k ls) one e) refl

    pub linked_unlink : IsLinked (left_nodes ns ls k n) (left_ends es ls k n) (unlink n ls)
    linked_unlink = record {
      count = length_unlink n ls ∙ is.count ∙ sym ends_count;
      few = (omega (arith, nodes_count, is.few.0), omega (arith, ends_count, is.few.1));
      once = λ m. fewer_once m (cases_eq n m);
      range = λ m some. elim (cases_eq n m) [
        | inl e ↦ omega (arith, e, range, nodes_count)
        | inr d ↦ omega (arith, is.range m (omega (arith, unlink_other_times m n ls d, some)), nodes_count)
      ];
      listed = λ j m some.
          let s = rw (at_unlink n j ls) at some in
          let d : ¬ (m ≡ n) = λ e. (let z = rw e at s in absurd (omega (arith, z, times_without n (list_at j ls)))) in
          let t : 0 < times_in m (list_at j ls) = omega (arith, s, without_other m n (list_at j ls) (λ e. d (sym e))) in
          rw (at_unlink n j ls) (elim (cases_eq j k) [
            | inl e ↦ rw e (unlink_listed m d (rw (← e) t))
            | inr f ↦
                let none : times_in n (list_at j ls) ≡ 0 = omega (arith, one, is.once n, two_at n j k ls f) in
                rw (without_none n (list_at j ls) none) (unlink_kept m (λ e. d (sym e)) (apart j m f t) ∙ is.listed j m t)
          ]);
      free = λ m h none. elim (cases_eq n m) [
        | inl e ↦ rw (← e) (put n (node None None None) _ (omega (arith, range, before_count)))
        | inr d ↦
            let z : times m ls ≡ 0 = omega (arith, unlink_other_times m n ls d, none) in
            unlink_kept m d (omega (arith, z, most_at m k ls)) ∙ is.free m (omega (arith, h, nodes_count)) z
      ];
      ends = λ j h. rw (at_unlink n j ls) (elim (cases_eq j k) [
        | inl e ↦ rw e (ends_last (behind n (list_at k ls)) refl)
        | inr d ↦
            let none : times_in n (list_at j ls) ≡ 0 = omega (arith, one, is.once n, two_at n j k ls d) in
            rw (without_none n (list_at j ls) none) (
            last_there (behind n (list_at k ls)) (ahead None n (list_at k ls)) k j _ (λ e. d (sym e))
            ∙ first_there (ahead None n (list_at k ls)) (behind n (list_at k ls)) k j es (λ e. d (sym e)) ∙ is.ends j (omega (arith, h, length_unlink n ls))
            )
      ]);
    }
      where
        before_count : length (with_previous (behind n (list_at k ls)) (ahead None n (list_at k ls)) (with_next (ahead None n (list_at k ls)) (behind n (list_at k ls)) ns)) ≡ length ns
        before_count = length_previous (behind n (list_at k ls)) (ahead None n (list_at k ls)) _ ∙ length_next (ahead None n (list_at k ls)) (behind n (list_at k ls)) ns

        nodes_count : length (left_nodes ns ls k n) ≡ length ns
        nodes_count = length-set _ n (node None None None) ∙ before_count

        ends_count : length (left_ends es ls k n) ≡ length es
        ends_count = length_last (behind n (list_at k ls)) (ahead None n (list_at k ls)) k _ ∙ length_first (ahead None n (list_at k ls)) (behind n (list_at k ls)) k es

        fewer_once : (m : ℕ) → (n ≡ m) ⊎ ¬ (n ≡ m) → times m (unlink n ls) ≤ 1
        fewer_once m (inl e) = rw (← e) (omega (arith, times_unlink n ls))
        fewer_once m (inr d) = omega (arith, unlink_other_times m n ls d, is.once m)
