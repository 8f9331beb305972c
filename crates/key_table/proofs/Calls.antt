-- What the calls make of a table.
use Rattle.std.proofs.Common.{arith, ◌≡◌, ◌≢◌, ◌<◌, ◌≤◌, ◌+◌, ℕ, zero, suc, List, sym, ◌∙◌, ap, inl, inr, refl, length, set, Option, Some, None, replicate}
use Rattle.std.specs.Prelude.{◌==◌, ◌⊎◌, IsSome, if◌then◌else◌}
use Rattle.std.proofs.lemmas.List.{length-set}
use Rattle.std.proofs.lemmas.Bool.{cases_lt, cases_eq, eq-eqb, ne_eqb}
use Rattle.std.proofs.lemmas.Nat.{mod_below}
use Rattle.key_table.specs.declared.places.Entry.{Entry}
use Rattle.key_table.specs.Slots.{steps, first_place, entry_at, keys_in, region_in, AreApart, AreReached}
use Rattle.key_table.proofs.Rounds.{steps_same}
use Rattle.key_table.proofs.Entries.{put, put_other, within, put_len, held, unheld, holds, lacks}
use Rattle.key_table.proofs.Gaps.{freed_apart, some_none, is_some_of, none_some}

-- where a walk ended: at a place with the key, or else at a free one that only places with other keys come before
pub record IsEnd (key place : ℕ) (xs : List (Option Entry)) : Type 0 where
  pub bound : place < length xs
  pub same : (e : Entry) → entry_at xs place ≡ Some e → e.key ≡ key
  pub before : (m : ℕ) → m < length xs → steps (length xs) (first_place key (length xs)) m < steps (length xs) (first_place key (length xs)) place → (e : Entry) × (entry_at xs m ≡ Some e) × (e.key ≢ key)

pub some_is : (o : Option Entry) → IsSome o → (e : Entry) × (o ≡ Some e)
some_is None h = absurd (cc)
some_is (Some e) h = (e, refl)

pub some_region : (o : Option ℕ) → IsSome o → (r : ℕ) × (o ≡ Some r)
some_region None h = absurd (cc)
some_region (Some r) h = (r, refl)

module _ (key place : ℕ) (xs : List (Option Entry)) (apart : AreApart xs) (reached : AreReached xs) (is : IsEnd key place xs) where
  first_in : first_place key (length xs) < length xs
  first_in = mod_below _ (length xs) (omega (arith, is.bound))

  pub found : (e : Entry) → entry_at xs place ≡ Some e → region_in key xs ≡ Some e.region
  found e at = ap (λ (k : ℕ). region_in k xs) (sym (is.same e at)) ∙ holds place e xs apart at

  pub not_found : entry_at xs place ≡ None → region_in key xs ≡ None
  not_found none = lacks key xs (λ s e at k. differs s e at k)
    where
      differs : (s : ℕ) (e : Entry) → entry_at xs s ≡ Some e → e.key ≢ key
      differs s e at k = elim (cases_lt (steps (length xs) (first_place key (length xs)) s) (steps (length xs) (first_place key (length xs)) place)) [
        | inl less ↦
            let b = is.before s (within s e xs at) less in
            let same : Some b.0 ≡ Some e = sym b.1 ∙ at in
            let i : b.0 ≡ e = cc in
            b.2 (ap (λ (x : Entry). x.key) i ∙ k)
        | inr more ↦
            let le : steps (length xs) (first_place e.key (length xs)) place ≤ steps (length xs) (first_place e.key (length xs)) s = rw k more in
            some_none (entry_at xs place) (reached s e place at is.bound le) none
      ]

  pub ends_at : (r : ℕ) → region_in key xs ≡ Some r → IsSome (entry_at xs place)
  ends_at r h = by (entry_at xs place) refl
    where
      by : (o : Option Entry) → entry_at xs place ≡ o → IsSome (entry_at xs place)
      by None none = absurd (let n = not_found none in let bad : None ≡ Some r = sym n ∙ h in cc)
      by (Some e) at = is_some_of (entry_at xs place) e at

  -- ---- an entry more

  module _ (new : region_in key xs ≡ None) (region : ℕ) where
    empty : entry_at xs place ≡ None
    empty = by (entry_at xs place) refl
      where
        by : (o : Option Entry) → entry_at xs place ≡ o → entry_at xs place ≡ None
        by None at = at
        by (Some e) at = absurd (unheld key place e xs new at (is.same e at))

    -- what stands at a place now is new, or stood there
    now : (s : ℕ) (x : Entry) → entry_at (set xs place (Some (record { key = key; region = region }))) s ≡ Some x → ((s ≡ place) × (x ≡ record { key = key; region = region })) ⊎ ((s ≢ place) × (entry_at xs s ≡ Some x))
    now s x h = elim (cases_eq place s) [
      | inl i ↦
          let e : Entry = record { key = key; region = region } in
          let same : Some x ≡ Some e = sym h ∙ rw (← i) (put place (Some e) xs is.bound) in
          inl (sym i, (let k : x ≡ e = cc in k))
      | inr d ↦ inr ((λ i. d (sym i)), sym (put_other place s (Some (record { key = key; region = region })) xs d) ∙ h)
    ]

    at_place : entry_at (set xs place (Some (record { key = key; region = region }))) place ≡ Some (record { key = key; region = region })
    at_place = put place (Some (record { key = key; region = region })) xs is.bound

    still : (m : ℕ) (x : Entry) → entry_at xs m ≡ Some x → entry_at (set xs place (Some (record { key = key; region = region }))) m ≡ Some x
    still m x h = elim (cases_eq place m) [
      | inl i ↦ absurd (none_some (entry_at xs place) x empty (rw i h))
      | inr d ↦ put_other place m (Some (record { key = key; region = region })) xs d ∙ h
    ]

    pub insert_apart : AreApart (set xs place (Some (record { key = key; region = region })))
    insert_apart s t x y a b k = elim (now s x a) [
      | inl p ↦ elim (now t y b) [
        | inl q ↦ p.0 ∙ sym q.0
        | inr q ↦ absurd (unheld key t y xs new q.1 (sym k ∙ ap (λ (z : Entry). z.key) p.1))
      ]
      | inr p ↦ elim (now t y b) [
        | inl q ↦ absurd (unheld key s x xs new p.1 (k ∙ ap (λ (z : Entry). z.key) q.1))
        | inr q ↦ apart s t x y p.1 q.1 k
      ]
    ]

    pub insert_reached : AreReached (set xs place (Some (record { key = key; region = region })))
    insert_reached s x m h m_in le =
        let count = length-set xs place (Some (record { key = key; region = region })) in
        let m_in' : m < length xs = omega (arith, m_in, count) in
        let le' : steps (length xs) (first_place x.key (length xs)) m ≤ steps (length xs) (first_place x.key (length xs)) s = rw count at le in
        elim (now s x h) [
          | inl p ↦
              let by_key : steps (length xs) (first_place key (length xs)) m ≤ steps (length xs) (first_place key (length xs)) place = rw (p.0, p.1) at le' in
              elim (cases_lt (steps (length xs) (first_place key (length xs)) m) (steps (length xs) (first_place key (length xs)) place)) [
                | inl less ↦ let b = is.before m m_in' less in is_some_of _ b.0 (still m b.0 b.1)
                | inr same ↦
                    let i = steps_same (length xs) (first_place key (length xs)) m place first_in m_in' is.bound (omega (arith, by_key, same)) in
                    is_some_of _ (record { key = key; region = region }) (rw i at_place)
              ]
          | inr p ↦
              let o = some_is (entry_at xs m) (reached s x m p.1 m_in' le') in
              is_some_of _ o.0 (still m o.0 o.1)
        ]

    pub insert_regions : (k : ℕ) → region_in k (set xs place (Some (record { key = key; region = region }))) ≡ (if k == key then Some region else region_in k xs)
    insert_regions k = elim (cases_eq k key) [
      | inl i ↦ rw (eq-eqb k key i, i) (holds place (record { key = key; region = region }) _ insert_apart at_place)
      | inr d ↦ rw (ne_eqb k key d) (by d (region_in k xs) refl)
    ]
      where
        by : ¬ (k ≡ key) → (o : Option ℕ) → region_in k xs ≡ o → region_in k (set xs place (Some (record { key = key; region = region }))) ≡ region_in k xs
        by d None h = lacks k _ (λ s x at i. elim (now s x at) [
          | inl p ↦ d (sym i ∙ ap (λ (z : Entry). z.key) p.1)
          | inr p ↦ unheld k s x xs h p.1 i
        ]) ∙ sym h
        by d (Some r) h =
            let t = held k r xs h in
            ap (λ (j : ℕ). region_in j (set xs place (Some (record { key = key; region = region })))) (sym t.3) ∙ holds t.0 t.1 _ insert_apart (still t.0 t.1 t.2) ∙ ap (λ (j : ℕ). Some j) t.4 ∙ sym h

    pub insert_len : keys_in (set xs place (Some (record { key = key; region = region }))) ≡ keys_in xs + 1
    insert_len = let a = rw empty at (put_len place (Some (record { key = key; region = region })) xs is.bound) in omega (arith, a)

  -- ---- an entry less

  module _ (e : Entry) (here : entry_at xs place ≡ Some e) where
    was : (s : ℕ) (x : Entry) → entry_at (set xs place None) s ≡ Some x → (s ≢ place) × (entry_at xs s ≡ Some x)
    was s x h = elim (cases_eq place s) [
      | inl i ↦ absurd (none_some (entry_at (set xs place None) s) x (rw (← i) (put place None xs is.bound)) h)
      | inr d ↦ ((λ i. d (sym i)), sym (put_other place s None xs d) ∙ h)
    ]

    pub remove_regions : (k : ℕ) → region_in k (set xs place None) ≡ (if k == key then None else region_in k xs)
    remove_regions k = elim (cases_eq k key) [
      | inl i ↦ rw (eq-eqb k key i) (lacks k _ (λ s x at j. (let w = was s x at in w.0 (apart s place x e w.1 here (j ∙ i ∙ sym (is.same e here))))))
      | inr d ↦ rw (ne_eqb k key d) (by d (region_in k xs) refl)
    ]
      where
        by : ¬ (k ≡ key) → (o : Option ℕ) → region_in k xs ≡ o → region_in k (set xs place None) ≡ region_in k xs
        by d None h = lacks k _ (λ s x at i. unheld k s x xs h (was s x at).1 i) ∙ sym h
        by d (Some r) h =
            let t = held k r xs h in
            let other : ¬ (place ≡ t.0) = λ i. (
            let same : Some e ≡ Some t.1 = sym here ∙ rw i t.2 in
            let j : e ≡ t.1 = cc in
            d (sym t.3 ∙ sym (ap (λ (z : Entry). z.key) j) ∙ is.same e here)
            ) in
            ap (λ (j : ℕ). region_in j (set xs place None)) (sym t.3) ∙ holds t.0 t.1 _ (freed_apart place xs is.bound apart) (put_other place t.0 None xs other ∙ t.2) ∙ ap (λ (j : ℕ). Some j) t.4 ∙ sym h

    pub remove_len : keys_in (set xs place None) + 1 ≡ keys_in xs
    remove_len = let a = rw here at (put_len place None xs is.bound) in omega (arith, a)

-- ---- no entry

pub no_entry : (n s : ℕ) → entry_at (replicate n None) s ≡ None
no_entry zero s = refl
no_entry (suc n) zero = refl
no_entry (suc n) (suc s) = no_entry n s

pub no_region : (key n : ℕ) → region_in key (replicate n None) ≡ None
no_region key zero = refl
no_region key (suc n) = no_region key n

pub no_keys : (n : ℕ) → keys_in (replicate n None) ≡ 0
no_keys zero = refl
no_keys (suc n) = no_keys n
