-- The gap that a removal leaves is closed, entry by entry. Places are seen from one that stays free, so that no way goes round it.
use Rattle.std.proofs.Common.{arith, ◌≡◌, ◌≢◌, ◌<◌, ◌≤◌, ◌+◌, ℕ, suc, true, false, List, sym, ◌∙◌, ap, inl, inr, refl, length, set, Option, Some, None}
use Rattle.std.specs.Prelude.{IsSome, ◌⊎◌}
use Rattle.std.proofs.lemmas.List.{length-set}
use Rattle.std.proofs.lemmas.Bool.{cases_lt, cases_eq}
use Rattle.std.proofs.lemmas.Bool.Decides.{nat_tests}
use Rattle.key_table.specs.declared.places.Entry.{Entry}
use Rattle.key_table.specs.Slots.{steps, after, first_place, entry_at, keys_in, region_in, is_over, AreApart, AreReached}
use Rattle.key_table.proofs.Rounds.{steps_self, steps_less, steps_same, steps_after, steps_round, after_less, between, round}
use Rattle.key_table.proofs.Entries.{put, put_other, within, put_len, same_regions}

pub some_none : (o : Option Entry) → IsSome o → o ≡ None → ⊥
some_none None h e = cc
some_none (Some x) h e = cc

pub is_some_of : (o : Option Entry) (e : Entry) → o ≡ Some e → IsSome o
is_some_of None e h = cc
is_some_of (Some x) e h = refl

pub none_some : (o : Option Entry) (e : Entry) → o ≡ None → o ≡ Some e → ⊥
none_some None e h g = cc
none_some (Some x) e h g = cc

-- `old` is the table with the place of the removed entry free, and f another free place
pub record IsClosing (size : ℕ) (old cur : List (Option Entry)) (f gap at : ℕ) : Type 0 where
  pub count : length cur ≡ size
  pub free_in : f < size
  pub free : entry_at cur f ≡ None
  pub gap_in : gap < size
  pub empty : entry_at cur gap ≡ None
  pub off : gap ≢ f
  pub at_in : at < size
  pub order : steps size f gap ≤ steps size f at
  pub low : (s : ℕ) (e : Entry) → entry_at cur s ≡ Some e → steps size f (first_place e.key size) ≤ steps size f s
  pub filled : (s : ℕ) (e : Entry) (m : ℕ) → entry_at cur s ≡ Some e → m < size → steps size f (first_place e.key size) ≤ steps size f m → steps size f m ≤ steps size f s → m ≢ gap → IsSome (entry_at cur m)
  pub passed : (s : ℕ) (e : Entry) → entry_at cur s ≡ Some e → steps size f gap < steps size f s → steps size f s ≤ steps size f at → steps size f gap < steps size f (first_place e.key size)
  pub apart : AreApart cur
  pub regions : (key : ℕ) → region_in key cur ≡ region_in key old
  pub len : keys_in cur ≡ keys_in old

pub freed_apart : (i : ℕ) (xs : List (Option Entry)) → i < length xs → AreApart xs → AreApart (set xs i None)
freed_apart i xs h apart s t e g a b k = apart s t e g (was s e a) (was t g b) k
  where
    was : (j : ℕ) (x : Entry) → entry_at (set xs i None) j ≡ Some x → entry_at xs j ≡ Some x
    was j x c = elim (cases_eq i j) [
      | inl q ↦ absurd (none_some (entry_at (set xs i None) j) x (rw (← q) (put i None xs h)) c)
      | inr q ↦ sym (put_other i j None xs q) ∙ c
    ]

module _ (size : ℕ) (some : 0 < size) (home_in : (key : ℕ) → first_place key size < size) where
  -- ---- at first

  pub begun : (xs : List (Option Entry)) (place f : ℕ) → length xs ≡ size → AreApart xs → AreReached xs → IsSome (entry_at xs place) → place < size → f < size → entry_at xs f ≡ None
      → IsClosing size (set xs place None) (set xs place None) f place place
  begun xs place f count apart reached here place_in f_in free = record {
    count = length-set xs place None ∙ count;
    free_in = f_in;
    free = put_other place f None xs off ∙ free;
    gap_in = place_in;
    empty = put place None xs (omega (arith, place_in, count));
    off = off;
    at_in = place_in;
    order = omega arith;
    low = λ s e at. low s e (was s e at);
    filled = λ s e m at m_in a b d.
        let x = was s e at in
        let s_in : s < size = omega (arith, within s e xs x, count) in
        let p = between size f (first_place e.key size) m f_in (home_in e.key) m_in a in
        let q = between size f (first_place e.key size) s f_in (home_in e.key) s_in (low s e x) in
        let le : steps size (first_place e.key size) m ≤ steps size (first_place e.key size) s = omega (arith, p, q, b) in
        let g = reached s e m x (omega (arith, m_in, count)) (rw count le) in
        rw (put_other place m None xs (λ i. d (sym i))) g;
    passed = λ s e at a b. absurd (omega (arith, a, b));
    apart = freed_apart place xs (omega (arith, place_in, count)) apart;
    regions = λ key. refl;
    len = refl;
  }
    where
      off : place ≢ f
      off i = some_none (entry_at xs f) (rw (← i) here) free

      was : (s : ℕ) (e : Entry) → entry_at (set xs place None) s ≡ Some e → entry_at xs s ≡ Some e
      was s e at = elim (cases_eq place s) [
        | inl i ↦ absurd (none_some (entry_at (set xs place None) s) e (rw (← i) (put place None xs (omega (arith, place_in, count)))) at)
        | inr d ↦ sym (put_other place s None xs d) ∙ at
      ]

      low : (s : ℕ) (e : Entry) → entry_at xs s ≡ Some e → steps size f (first_place e.key size) ≤ steps size f s
      low s e x = elim (cases_lt (steps size f s) (steps size f (first_place e.key size))) [
        | inl h ↦
            let s_in : s < size = omega (arith, within s e xs x, count) in
            let z = steps_self size f in
            let p = round size f (first_place e.key size) f f_in (home_in e.key) f_in (omega (arith, h, z)) in
            let q = round size f (first_place e.key size) s f_in (home_in e.key) s_in h in
            let le : steps size (first_place e.key size) f ≤ steps size (first_place e.key size) s = omega (arith, p, q, z) in
            absurd (some_none (entry_at xs f) (reached s e f x (omega (arith, f_in, count)) (rw count le)) free)
        | inr h ↦ h
      ]

  module _ (old cur : List (Option Entry)) (f gap at : ℕ) (is : IsClosing size old cur f gap at) where
    -- ---- an entry at the next place

    module _ (e : Entry) (here : entry_at cur (after size at) ≡ Some e) where
      not_free : after size at ≢ f
      not_free i = none_some (entry_at cur f) e is.free (rw (← i) here)

      pub on : steps size f (after size at) ≡ suc (steps size f at)
      on = steps_after size f at is.free_in is.at_in not_free

      next_in : after size at < size
      next_in = after_less size at is.at_in

      gap_before : steps size gap (after size at) + steps size f gap ≡ steps size f (after size at)
      gap_before = between size f gap (after size at) is.free_in is.gap_in next_in (omega (arith, on, is.order))

      home_before : steps size (first_place e.key size) (after size at) + steps size f (first_place e.key size) ≡ steps size f (after size at)
      home_before = between size f (first_place e.key size) (after size at) is.free_in (home_in e.key) next_in (is.low (after size at) e here)

      pub stays : is_over size gap (after size at) e ≡ false → IsClosing size old cur f gap (after size at)
      stays over =
          let less : steps size (first_place e.key size) (after size at) < steps size gap (after size at) = grind (arith, nat_tests) in
          record {
            count = is.count;
            free_in = is.free_in;
            free = is.free;
            gap_in = is.gap_in;
            empty = is.empty;
            off = is.off;
            at_in = next_in;
            order = omega (arith, on, is.order);
            low = is.low;
            filled = is.filled;
            passed = λ s x a b d. elim (cases_lt (steps size f at) (steps size f s)) [
              | inl h ↦
                  let s_in : s < size = omega (arith, within s x cur a, is.count) in
                  let i = steps_same size f s (after size at) is.free_in s_in next_in (omega (arith, d, on, h)) in
                  let same : Some x ≡ Some e = sym a ∙ ap (λ (k : ℕ). entry_at cur k) i ∙ here in
                  let is_e : x ≡ e = cc in
                  rw is_e (omega (arith, gap_before, home_before, less))
              | inr h ↦ is.passed s x a b h
            ];
            apart = is.apart;
            regions = is.regions;
            len = is.len;
          }

      gap_other : gap ≢ after size at
      gap_other i = none_some (entry_at cur gap) e is.empty (rw i here)

      at_gap : entry_at (set (set cur gap (Some e)) (after size at) None) gap ≡ Some e
      at_gap = put_other (after size at) gap None (set cur gap (Some e)) (λ i. gap_other (sym i)) ∙ put gap (Some e) cur (omega (arith, is.gap_in, is.count))

      at_next : entry_at (set (set cur gap (Some e)) (after size at) None) (after size at) ≡ None
      at_next = put (after size at) None (set cur gap (Some e)) (omega (arith, next_in, is.count, length-set cur gap (Some e)))

      at_else : (s : ℕ) → ¬ (gap ≡ s) → ¬ (after size at ≡ s) → entry_at (set (set cur gap (Some e)) (after size at) None) s ≡ entry_at cur s
      at_else s a b = put_other (after size at) s None (set cur gap (Some e)) b ∙ put_other gap s (Some e) cur a

      -- what stands at a place now stood at that place, or stands in the gap and stood next
      now : (s : ℕ) (x : Entry) → entry_at (set (set cur gap (Some e)) (after size at) None) s ≡ Some x → ((s ≡ gap) × (x ≡ e)) ⊎ ((s ≢ gap) × (s ≢ after size at) × (entry_at cur s ≡ Some x))
      now s x h = elim (cases_eq gap s) [
        | inl i ↦ let same : Some x ≡ Some e = sym h ∙ (rw (← i) at_gap) in inl (sym i, (let k : x ≡ e = cc in k))
        | inr a ↦ elim (cases_eq (after size at) s) [
          | inl i ↦ absurd (none_some (entry_at (set (set cur gap (Some e)) (after size at) None) s) x (rw (← i) at_next) h)
          | inr b ↦ inr ((λ i. a (sym i)), (λ i. b (sym i)), sym (at_else s a b) ∙ h)
        ]
      ]

      still : (m : ℕ) → m ≢ after size at → IsSome (entry_at cur m) → IsSome (entry_at (set (set cur gap (Some e)) (after size at) None) m)
      still m d h = elim (cases_eq gap m) [
        | inl i ↦ is_some_of (entry_at (set (set cur gap (Some e)) (after size at) None) m) e (rw (← i) at_gap)
        | inr a ↦ rw (at_else m a (λ i. d (sym i))) h
      ]

      apart : AreApart (set (set cur gap (Some e)) (after size at) None)
      apart s t x y a b k = elim (now s x a) [
        | inl p ↦ elim (now t y b) [
          | inl q ↦ p.0 ∙ sym q.0
          | inr q ↦ absurd (q.1 (is.apart t (after size at) y e q.2 here (sym k ∙ ap (λ (z : Entry). z.key) p.1)))
        ]
        | inr p ↦ elim (now t y b) [
          | inl q ↦ absurd (p.1 (is.apart s (after size at) x e p.2 here (k ∙ ap (λ (z : Entry). z.key) q.1)))
          | inr q ↦ is.apart s t x y p.2 q.2 k
        ]
      ]

      there : (s : ℕ) (x : Entry) → entry_at cur s ≡ Some x → (t : ℕ) × (entry_at (set (set cur gap (Some e)) (after size at) None) t ≡ Some x)
      there s x h = elim (cases_eq (after size at) s) [
        | inl i ↦ let same : Some x ≡ Some e = sym h ∙ (rw (← i) here) in let k : x ≡ e = cc in (gap, rw k at_gap)
        | inr b ↦ (s, at_else s (λ i. none_some (entry_at cur s) x (rw (← i) is.empty) h) b ∙ h)
      ]

      back : (s : ℕ) (x : Entry) → entry_at (set (set cur gap (Some e)) (after size at) None) s ≡ Some x → (t : ℕ) × (entry_at cur t ≡ Some x)
      back s x h = elim (now s x h) [
        | inl p ↦ (after size at, rw p.1 here)
        | inr p ↦ (s, p.2)
      ]

      moved_len : keys_in (set (set cur gap (Some e)) (after size at) None) ≡ keys_in cur
      moved_len =
          let a = put_len gap (Some e) cur (omega (arith, is.gap_in, is.count)) in
          let b = put_len (after size at) None (set cur gap (Some e)) (omega (arith, next_in, is.count, length-set cur gap (Some e))) in
          let c : entry_at (set cur gap (Some e)) (after size at) ≡ Some e = put_other gap (after size at) (Some e) cur gap_other ∙ here in
          let a' = rw is.empty at a in
          let b' = rw c at b in
          omega (arith, a', b')

      pub moves : is_over size gap (after size at) e ≡ true → IsClosing size old (set (set cur gap (Some e)) (after size at) None) f (after size at) (after size at)
      moves over =
          let le : steps size gap (after size at) ≤ steps size (first_place e.key size) (after size at) = grind (arith, nat_tests) in
          let over_it : steps size f (first_place e.key size) ≤ steps size f gap = omega (arith, gap_before, home_before, le) in
          record {
            count = length-set (set cur gap (Some e)) (after size at) None ∙ length-set cur gap (Some e) ∙ is.count;
            free_in = is.free_in;
            free = at_else f is.off not_free ∙ is.free;
            gap_in = next_in;
            empty = at_next;
            off = not_free;
            at_in = next_in;
            order = omega arith;
            low = λ s x h. elim (now s x h) [
              | inl p ↦ rw (p.0, p.1) over_it
              | inr p ↦ is.low s x p.2
            ];
            filled = λ s x m h m_in a b d. elim (now s x h) [
              | inl p ↦
                  let a' : steps size f (first_place e.key size) ≤ steps size f m = rw p.1 at a in
                  let b' : steps size f m ≤ steps size f gap = rw p.0 at b in
                  elim (cases_eq gap m) [
                    | inl i ↦ is_some_of (entry_at (set (set cur gap (Some e)) (after size at) None) m) e (rw (← i) at_gap)
                    | inr g ↦ still m d (is.filled (after size at) e m here m_in a' (omega (arith, b', on, is.order)) (λ i. g (sym i)))
                  ]
              | inr p ↦ elim (cases_eq gap m) [
                | inl i ↦ is_some_of (entry_at (set (set cur gap (Some e)) (after size at) None) m) e (rw (← i) at_gap)
                | inr g ↦ still m d (is.filled s x m p.2 m_in a b (λ i. g (sym i)))
              ]
            ];
            passed = λ s x h a b. absurd (omega (arith, a, b));
            apart = apart;
            regions = λ key. same_regions cur (set (set cur gap (Some e)) (after size at) None) is.apart apart there back key ∙ is.regions key;
            len = moved_len ∙ is.len;
          }

    -- ---- a free place

    pub done : entry_at cur (after size at) ≡ None → AreReached cur
    done none s e m h m_in le =
        let s_in : s < size = omega (arith, within s e cur h, is.count) in
        let m_in' : m < size = omega (arith, m_in, is.count) in
        let le' : steps size (first_place e.key size) m ≤ steps size (first_place e.key size) s = rw is.count at le in
        let q = between size f (first_place e.key size) s is.free_in (home_in e.key) s_in (is.low s e h) in
        elim (cases_lt (steps size f m) (steps size f (first_place e.key size))) [
          | inl early ↦
              let p = round size f (first_place e.key size) m is.free_in (home_in e.key) m_in' early in
              absurd (omega (arith, p, q, le', steps_less size f s is.free_in s_in))
          | inr later ↦
              let p = between size f (first_place e.key size) m is.free_in (home_in e.key) m_in' later in
              let before : steps size f m ≤ steps size f s = omega (arith, p, q, le') in
              elim (cases_eq m gap) [
                | inl i ↦ absurd (over_gap s e h s_in (rw i at later) (rw i at before))
                | inr d ↦ is.filled s e m h m_in' later before d
              ]
        ]
      where
        over_gap : (s' : ℕ) (e' : Entry) → entry_at cur s' ≡ Some e' → s' < size → steps size f (first_place e'.key size) ≤ steps size f gap → steps size f gap ≤ steps size f s' → ⊥
        over_gap s' e' h' s_in' a b = elim (cases_lt (steps size f gap) (steps size f s')) [
          | inl less ↦ elim (cases_lt (steps size f at) (steps size f s')) [
            | inl behind ↦ elim (cases_eq (after size at) f) [
              | inl i ↦ omega (arith, steps_round size f at is.free_in is.at_in i, behind, steps_less size f s' is.free_in s_in')
              | inr d ↦
                  let o = steps_after size f at is.free_in is.at_in d in
                  let other : after size at ≢ gap = λ i. (let z = rw i at o in absurd (omega (arith, z, is.order))) in
                  some_none (entry_at cur (after size at)) (is.filled s' e' (after size at) h' (after_less size at is.at_in) (omega (arith, a, is.order, o)) (omega (arith, o, behind)) other) none
            ]
            | inr seen ↦ omega (arith, is.passed s' e' h' less seen, a)
          ]
          | inr same ↦
              let i = steps_same size f s' gap is.free_in s_in' is.gap_in (omega (arith, same, b)) in
              none_some (entry_at cur gap) e' is.empty (rw i at h')
        ]
