-- What is true of every policy stays true after each call.
use Rattle.std.proofs.Common.{arith, ◌≡◌, ◌<◌, ◌≤◌, ℕ, zero, suc, Bool, List, [], ◌∷◌, ◌++◌, sym, ◌∙◌, inl, inr, refl, length, drop, Option, Some, None, replicate}
use Rattle.std.specs.Prelude.{slice_set, IsSome, ◌⊎◌}
use Rattle.std.specs.List.{position_from, range_with_len}
use Rattle.std.proofs.lemmas.List.{length-set, length-replicate}
use Rattle.std.proofs.lemmas.Bool.{cases_eq, cases_lt, eq-eqb, ne_eqb}
use Rattle.freq_lists.specs.Lists.{without, unlink, push_back, times, times_in, head}
use Rattle.freq_lists.proofs.Counts.{times_append, times_push, times_empty, length_push, length_unlink, times_unlink, unlink_other_times}
use Rattle.freq_lists.proofs.Room.{room}
use Rattle.cache_policy.specs.Policy.{PolicyView, tag_at, is_tag, new_policy}
use Rattle.cache_policy.specs.Ageing.{lower}
use Rattle.cache_policy.specs.Kept.{IsGood, places, one_if_some}
use Rattle.cache_policy.proofs.Tags.{at, at_same, at_other, at_within, one_is, not_found}
use Rattle.cache_policy.proofs.Places.{moved, moved_in, pushed_again, head_free, times_lower, length_lower, all_free, none_past}

module _ (p : PolicyView) (good : IsGood p) where
  keep : (q : PolicyView) → ((r : ℕ) → places q r ≡ places p r) → length q.tags ≡ length p.tags → length q.last_accesses ≡ length p.last_accesses → length q.lists ≡ length p.lists
      → ((r : ℕ) → times r q.lists ≡ one_if_some (tag_at q r)) → ((r s tag : ℕ) → tag_at q r ≡ Some tag → tag_at q s ≡ Some tag → r ≡ s) → IsGood q
  keep q same tags last_accesses lists mapped keys = record {
    once = λ r h. same r ∙ good.once r (omega (arith, h, tags));
    none_else = λ r h. same r ∙ good.none_else r (omega (arith, h, tags));
    mapped = mapped;
    keys = keys;
    last_accesses = last_accesses ∙ good.last_accesses ∙ sym tags;
    some = (omega (arith, lists, good.some.0), omega (arith, tags, good.some.1));
    few = (omega (arith, lists, good.few.0), omega (arith, tags, good.few.1));
  }

  pub at_most_one : (j : ℕ) → places p j ≤ 1
  at_most_one j = elim (cases_lt j (length p.tags)) [
    | inl h ↦ omega (arith, good.once j h)
    | inr h ↦ omega (arith, good.none_else j h)
  ]

  pub is_region : (j : ℕ) → 0 < places p j → j < length p.tags
  is_region j some = elim (cases_lt j (length p.tags)) [
    | inl h ↦ h
    | inr h ↦ absurd (omega (arith, some, good.none_else j h))
  ]

  -- the free list and the leaving list have room for one more region
  pub no_longer : (l : List ℕ) → ((j : ℕ) → times_in j l ≤ places p j) → length l ≤ length p.tags
  no_longer l within = room (length p.tags) l (λ j. omega (arith, within j, at_most_one j)) (λ j h. is_region j (omega (arith, h, within j)))

  pub room_for : (l : List ℕ) (r : ℕ) → ((j : ℕ) → times_in j l ≤ places p j) → r < length p.tags → times_in r l ≡ 0 → length l < length p.tags
  room_for l r within h none =
      let all = room (length p.tags) (r ∷ l) (λ j. once j) (λ j g. region j g) in
      omega (arith, all)
    where
      once : (j : ℕ) → times_in j (r ∷ l) ≤ 1
      once j = elim (cases_eq r j) [
        | inl e ↦ let n = rw e at none in rw (eq-eqb r j e) (omega (arith, n))
        | inr d ↦ rw (ne_eqb r j d) (omega (arith, within j, at_most_one j))
      ]

      region : (j : ℕ) → 0 < times_in j (r ∷ l) → j < length p.tags
      region j g = elim (cases_eq r j) [
        | inl e ↦ omega (arith, e, h)
        | inr d ↦ let t = rw (ne_eqb r j d) at g in is_region j (omega (arith, t, within j))
      ]

  pub free_len : length p.free ≤ length p.tags
  free_len = no_longer p.free (λ j. omega arith)

  pub leaving_len : length p.leaving ≤ length p.tags
  leaving_len = no_longer p.leaving (λ j. omega arith)

  module _ (r : ℕ) (is : IsSome (at p.tags r)) where
    pub region_is : r < length p.tags
    region_is = at_within p.tags r is

    pub listed_once : times r p.lists ≡ 1
    listed_once = good.mapped r ∙ one_is (at p.tags r) is

    pub not_free : times_in r p.free ≡ 0
    not_free = omega (arith, good.once r region_is, listed_once)

    pub not_leaving : times_in r p.leaving ≡ 0
    not_leaving = omega (arith, good.once r region_is, listed_once)

    pub room_free : length p.free < length p.tags
    room_free = room_for p.free r (λ j. omega arith) region_is not_free

    pub room_leaving : length p.leaving < length p.tags
    room_leaving = room_for p.leaving r (λ j. omega arith) region_is not_leaving

    gone_mapped : (j : ℕ) → times j (unlink r p.lists) ≡ one_if_some (at (slice_set p.tags r None) j)
    gone_mapped j = elim (cases_eq r j) [
      | inl e ↦ rw (← e, at_same p.tags r None region_is) (times_unlink r p.lists)
      | inr d ↦ rw (at_other p.tags r j None (λ e. d (sym e))) (unlink_other_times j r p.lists d ∙ good.mapped j)
    ]

    was : (j tag : ℕ) → at (slice_set p.tags r None) j ≡ Some tag → at p.tags j ≡ Some tag
    was j tag h = elim (cases_eq r j) [
      | inl e ↦ let g = rw (← e, at_same p.tags r None region_is) at h in absurd (cc)
      | inr d ↦ sym (at_other p.tags r j None (λ e. d (sym e))) ∙ h
    ]

    pub good_unmap : (n : ℕ) → IsGood (record p { lists = unlink r p.lists; tags = slice_set p.tags r None; free = p.free ++ r ∷ []; evictions = n })
    good_unmap n =
        keep (record p { lists = unlink r p.lists; tags = slice_set p.tags r None; free = p.free ++ r ∷ []; evictions = n })
        (λ j. omega (arith, times_append j p.free (r ∷ []), moved r j p.lists listed_once))
        (length-set p.tags r None) refl (length_unlink r p.lists) gone_mapped
        (λ j s tag h g. good.keys j s tag (was j tag h) (was s tag g))

    pub good_leave : IsGood (record p { lists = unlink r p.lists; tags = slice_set p.tags r None; leaving = p.leaving ++ r ∷ [] })
    good_leave =
        keep (record p { lists = unlink r p.lists; tags = slice_set p.tags r None; leaving = p.leaving ++ r ∷ [] })
        (λ j. omega (arith, times_append j p.leaving (r ∷ []), moved r j p.lists listed_once))
        (length-set p.tags r None) refl (length_unlink r p.lists) gone_mapped
        (λ j s tag h g. good.keys j s tag (was j tag h) (was s tag g))

    pub good_raise : (k now n : ℕ) → k < length p.lists → IsGood (record p { lists = push_back k r (unlink r p.lists); last_accesses = slice_set p.last_accesses r now; promotions = n })
    good_raise k now n h =
        keep (record p { lists = push_back k r (unlink r p.lists); last_accesses = slice_set p.last_accesses r now; promotions = n })
        (λ j. omega (arith, pushed_again r k j p.lists listed_once h))
        refl (length-set p.last_accesses r now) (length_push k r (unlink r p.lists) ∙ length_unlink r p.lists)
        (λ j. pushed_again r k j p.lists listed_once h ∙ good.mapped j) good.keys

  pub good_lower : (goes : ℕ → Bool) (n : ℕ) → IsGood (record p { lists = lower goes p.lists; demotions = n })
  good_lower goes n =
      keep (record p { lists = lower goes p.lists; demotions = n })
      (λ j. omega (arith, times_lower goes j p.lists)) refl refl (length_lower goes p.lists)
      (λ j. times_lower goes j p.lists ∙ good.mapped j) good.keys

  module _ (r : ℕ) (is : 0 < times_in r p.leaving) where
    pub leaving_region : r < length p.tags
    leaving_region = is_region r (omega (arith, is))

    pub leaving_once : times_in r p.leaving ≡ 1
    leaving_once = omega (arith, is, at_most_one r)

    pub room_settled : length p.free < length p.tags
    room_settled = room_for p.free r (λ j. omega arith) leaving_region (omega (arith, is, at_most_one r))

    pub good_settle : IsGood (record p { leaving = without r p.leaving; free = p.free ++ r ∷ [] })
    good_settle =
        keep (record p { leaving = without r p.leaving; free = p.free ++ r ∷ [] })
        (λ j. omega (arith, times_append j p.free (r ∷ []), moved_in r j p.leaving leaving_once))
        refl refl refl good.mapped good.keys

  module _ (r tag : ℕ) (front : head p.free ≡ Some r) where
    free_region : 0 < times_in r p.free
    free_region = let e = rw (eq-eqb r r refl) at (head_free r r p.free front) in omega (arith, e)

    pub front_region : r < length p.tags
    front_region = is_region r (omega (arith, free_region))

    pub front_not_listed : times r p.lists ≡ 0
    front_not_listed = omega (arith, free_region, at_most_one r)

    pub good_map : (now : ℕ) → position_from (is_tag tag) 0 p.tags ≡ None
        → IsGood (record p { free = drop 1 p.free; lists = push_back 0 r p.lists; tags = slice_set p.tags r (Some tag); last_accesses = slice_set p.last_accesses r now })
    good_map now new =
        keep (record p { free = drop 1 p.free; lists = push_back 0 r p.lists; tags = slice_set p.tags r (Some tag); last_accesses = slice_set p.last_accesses r now })
        (λ j. omega (arith, head_free r j p.free front, times_push j 0 r p.lists good.some.0))
        (length-set p.tags r (Some tag)) (length-set p.last_accesses r now) (length_push 0 r p.lists) mapped keys
      where
        mapped : (j : ℕ) → times j (push_back 0 r p.lists) ≡ one_if_some (at (slice_set p.tags r (Some tag)) j)
        mapped j = elim (cases_eq r j) [
          | inl e ↦ let t = rw (eq-eqb r r refl) at (times_push r 0 r p.lists good.some.0) in rw (← e, at_same p.tags r (Some tag) front_region) (omega (arith, t, front_not_listed))
          | inr d ↦ let t = rw (ne_eqb r j d) at (times_push j 0 r p.lists good.some.0) in rw (at_other p.tags r j (Some tag) (λ e. d (sym e))) (omega (arith, t, good.mapped j))
        ]

        has : (j k : ℕ) → at (slice_set p.tags r (Some tag)) j ≡ Some k → ((j ≡ r) × (k ≡ tag)) ⊎ (at p.tags j ≡ Some k)
        has j k h = elim (cases_eq j r) [
          | inl e ↦ let g = rw (e, at_same p.tags r (Some tag) front_region) at h in inl (e, (let s : k ≡ tag = cc in s))
          | inr d ↦ inr (sym (at_other p.tags r j (Some tag) d) ∙ h)
        ]

        keys : (j s k : ℕ) → at (slice_set p.tags r (Some tag)) j ≡ Some k → at (slice_set p.tags r (Some tag)) s ≡ Some k → j ≡ s
        keys j s k h g = elim (has j k h) [
          | inl a ↦ elim (has s k g) [
            | inl b ↦ a.0 ∙ sym b.0
            | inr b ↦ absurd (not_found tag p.tags 0 s new (let c = rw a.1 at b in c))
          ]
          | inr a ↦ elim (has s k g) [
            | inl b ↦ absurd (not_found tag p.tags 0 j new (let c = rw b.1 at a in c))
            | inr b ↦ good.keys j s k a b
          ]
        ]

pub at_none : (n j : ℕ) → at (replicate n None) j ≡ None
at_none zero j = refl
at_none (suc n) zero = refl
at_none (suc n) (suc j) = at_none n j

pub good_new : (regions max_freq min_delta : ℕ) → 0 < regions → regions < 4294967296 → 0 < max_freq → max_freq < 4294967296 → IsGood (new_policy regions max_freq min_delta)
good_new regions max_freq min_delta r0 r1 f0 f1 =
    let tags = length-replicate {A = Option ℕ} regions None in
    let last_accesses = length-replicate {A = ℕ} regions 0 in
    let lists = length-replicate {A = List ℕ} max_freq [] in
    record {
      once = λ r h. omega (arith, all_free r regions (omega (arith, h, tags)), times_empty r max_freq);
      none_else = λ r h. omega (arith, none_past r regions (omega (arith, h, tags)), times_empty r max_freq);
      mapped = λ r. times_empty r max_freq ∙ (rw (at_none regions r) refl);
      keys = λ r s tag h g. let e = rw (at_none regions r) at h in absurd (cc);
      last_accesses = last_accesses ∙ sym tags;
      some = (omega (arith, lists), omega (arith, tags));
      few = (omega (arith, lists), omega (arith, tags));
    }

pub good_made : (regions max_freq min_delta : ℕ) → 0 < regions → regions < 4294967296 → 0 < max_freq → max_freq < 4294967296
    → (free leaving last_accesses : List ℕ) (lists : List (List ℕ)) (tags : List (Option ℕ))
    → free ≡ range_with_len 0 regions → lists ≡ replicate max_freq [] → tags ≡ replicate regions None → last_accesses ≡ replicate regions 0 → leaving ≡ []
    → IsGood (record { free = free; lists = lists; tags = tags; last_accesses = last_accesses; leaving = leaving; evictions = 0; promotions = 0; demotions = 0; min_delta = min_delta })
good_made regions max_freq min_delta r0 r1 f0 f1 free leaving last_accesses lists tags a b d e g = rw (a, b, d, e, g) (good_new regions max_freq min_delta r0 r1 f0 f1)
