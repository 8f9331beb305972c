-- A change of the policy alone keeps the good state: where no other key comes in, no region leaves but one that had a key, and no
-- held region becomes free. So it is with an access, a decay, a clear, and with what makes room for an entry.
use Rattle.std.proofs.Common.{append-nil, append_assoc, arith, ◌≡◌, ◌+◌, ℕ, suc, Bool, true, false, List, [], ◌∷◌, ◌++◌, sym, subst, ◌∙◌, ap, inl, inr, refl, length, Option, Some, None}
use Rattle.std.specs.Prelude.{◌==◌, ◌||◌, ◌&&◌, nat_lt, not, ◌⊎◌, slice_get, if◌then◌else◌}
use Rattle.std.proofs.lemmas.Bool.{cases_eq, cases_Bool, false≢true, or_cases, ne_eqb}
use Rattle.std.proofs.lemmas.List.{length-set}
use Rattle.std.proofs.lemmas.List.Folds.{list_any-append}
use Rattle.freq_lists.specs.Lists.{is_in, unlink, list_of}
use Rattle.cache_policy.specs.Policy.{PolicyView, tag_at, unmap, settle, settle_all, clear, leave, leave_all, regions_from, is_of}
use Rattle.cache_policy.specs.Ageing.{touch, touch_at, waited, decay}
use Rattle.cache_policy.specs.Kept as policy
use Rattle.cache_door.specs.declared.hold.Hold.{Hold}
use Rattle.cache_door.specs.Machine.{State, hold_at, is_held, unheld, settled}
use Rattle.cache_door.specs.Good.{Good}
use Rattle.cache_door.proofs.Places.{kept_in, not_unheld, off_region}
use Rattle.freq_lists.proofs.Counts.{length_unlink as length-unlink, length_push as length-push}
use Rattle.cache_policy.proofs.Places.{length_lower as length-lower}

pub record PolicyChanges (s : State) (p : PolicyView) : Type 0 where
  pub good : policy.IsGood p
  pub tags : length p.tags ≡ length s.policy.tags
  pub lists : length p.lists ≡ length s.policy.lists
  pub delta : p.min_delta ≡ s.policy.min_delta
  pub mapped : (j tag : ℕ) → tag_at p j ≡ Some tag → tag_at s.policy j ≡ Some tag
  pub leaving : (j : ℕ) → is_in j p.leaving ≡ true → (is_in j s.policy.leaving ≡ true) ⊎ ((tag : ℕ) × (tag_at s.policy j ≡ Some tag))
  pub busy : (a : ℕ) (h : Hold) → hold_at s a ≡ Some h → is_in h.region p.free ≡ false

pub policy_keeps : {tells : Bool} {files : ℕ → ℕ → List ℕ} (s : State) (p : PolicyView) → Good tells files s → PolicyChanges s p → Good tells files (record s { policy = p })
policy_keeps s p good now = record {
  config = good.config;
  counts = record { cells = good.counts.cells; tags = now.tags ∙ good.counts.tags; lists = now.lists ∙ good.counts.lists; gone = good.counts.gone; delta = now.delta ∙ good.counts.delta; actors = good.counts.actors };
  policy = now.good;
  mapped = λ r tag e. good.mapped r tag (now.mapped r tag e);
  leaving = λ r e. elim (now.leaving r e) [ inl i ↦ good.leaving r i | inr m ↦ (λ f. (good.mapped r m.0 m.1).1 (sym (good.mapped r m.0 m.1).0 ∙ f)) ];
  holds = λ a h e. let f = good.holds a h e in record { region = f.region; tag = f.tag; key = f.key; busy = now.busy a h e };
  tickets = good.tickets;
  gaps = good.gaps;
  cells = good.cells;
}

-- ---- an access, a decay and a clear

-- what an access leaves
record Touched (p q : PolicyView) : Type 0 where
  tags : q.tags ≡ p.tags
  lists : length q.lists ≡ length p.lists
  delta : q.min_delta ≡ p.min_delta
  leaving : q.leaving ≡ p.leaving
  free : q.free ≡ p.free

touched_at : (o : Option ℕ) (r now : ℕ) (p : PolicyView) → Touched p (touch_at o r now p)
touched_at None r now p = record { tags = refl; lists = refl; delta = refl; leaving = refl; free = refl }
touched_at (Some f) r now p = elim (cases_Bool (waited 1 r now p && nat_lt (f + 1) (length p.lists))) [
  | inl t ↦ rw t (record { tags = refl; lists = length-push (f + 1) r (unlink r p.lists) ∙ length-unlink r p.lists; delta = refl; leaving = refl; free = refl })
  | inr n ↦ rw n (record { tags = refl; lists = refl; delta = refl; leaving = refl; free = refl })
]

pub touch_changes : {tells : Bool} {files : ℕ → ℕ → List ℕ} (s : State) (r now : ℕ) → Good tells files s → policy.IsGood (touch r now s.policy) → PolicyChanges s (touch r now s.policy)
touch_changes s r now good kept = let t = touched_at (list_of r s.policy.lists) r now s.policy in record {
  good = kept;
  tags = ap (λ (l : List (Option ℕ)). length l) t.tags;
  lists = t.lists;
  delta = t.delta;
  mapped = λ j tag e. let P : List (Option ℕ) → Type 0 = λ ts. tag_in ts j ≡ Some tag in subst P t.tags e;
  leaving = λ j e. inl (let P : List ℕ → Type 0 = λ l. is_in j l ≡ true in subst P t.leaving e);
  busy = λ a h e. let P : List ℕ → Type 0 = λ l. is_in h.region l ≡ false in subst P (sym t.free) (good.holds a h e).busy;
}
  where
    tag_in : List (Option ℕ) → ℕ → Option ℕ
    tag_in ts j = tag_at (record s.policy { tags = ts }) j

pub decay_changes : {tells : Bool} {files : ℕ → ℕ → List ℕ} (s : State) (now : ℕ) → Good tells files s → policy.IsGood (decay now s.policy) → PolicyChanges s (decay now s.policy)
decay_changes s now good kept = record {
  good = kept;
  tags = refl;
  lists = length-lower (λ r. waited 2 r now s.policy) s.policy.lists;
  delta = refl;
  mapped = λ j tag e. e;
  leaving = λ j e. inl e;
  busy = λ a h e. (good.holds a h e).busy;
}

-- ---- settling the unheld leaving regions

pub record Settled (rs : List ℕ) (p q : PolicyView) : Type 0 where
  pub tags : q.tags ≡ p.tags
  pub lists : q.lists ≡ p.lists
  pub delta : q.min_delta ≡ p.min_delta
  pub free : q.free ≡ p.free ++ rs
  pub leaving : (j : ℕ) → is_in j q.leaving ≡ true → is_in j p.leaving ≡ true

pub settled_all : (rs : List ℕ) (p : PolicyView) → Settled rs p (settle_all rs p)
settled_all [] p = record { tags = refl; lists = refl; delta = refl; free = sym (append-nil p.free); leaving = λ j e. e }
settled_all (r ∷ rs) p = let k = settled_all rs (settle r p) in record {
  tags = k.tags;
  lists = k.lists;
  delta = k.delta;
  free = k.free ∙ append_assoc p.free (r ∷ []) rs;
  leaving = λ j e. kept_in (λ m. not (m == r)) j p.leaving (k.leaving j e);
}

pub settled_changes : {tells : Bool} {files : ℕ → ℕ → List ℕ} (s : State) → Good tells files s → policy.IsGood (settled s) → PolicyChanges s (settled s)
settled_changes s good kept = let k = settled_all (unheld s s.policy.leaving) s.policy in record {
  good = kept;
  tags = ap (λ (l : List (Option ℕ)). length l) k.tags;
  lists = ap (λ (l : List (List ℕ)). length l) k.lists;
  delta = k.delta;
  mapped = λ j tag e. let P : List (Option ℕ) → Type 0 = λ ts. tag_in ts j ≡ Some tag in subst P k.tags e;
  leaving = λ j e. inl (k.leaving j e);
  busy = λ a h e. rw k.free (list_any-append (λ m. m == h.region) s.policy.free (unheld s s.policy.leaving) ∙ rw ((good.holds a h e).busy, not_unheld s a h s.policy.leaving e) refl);
}
  where
    tag_in : List (Option ℕ) → ℕ → Option ℕ
    tag_in ts j = tag_at (record s.policy { tags = ts }) j

-- ---- clearing a manifest

pub record Cleared (p q : PolicyView) : Type 0 where
  pub tags : length q.tags ≡ length p.tags
  pub lists : length q.lists ≡ length p.lists
  pub delta : q.min_delta ≡ p.min_delta
  pub free : q.free ≡ p.free

pub cleared_all : (rs : List ℕ) (p : PolicyView) → Cleared p (leave_all rs p)
cleared_all [] p = record { tags = refl; lists = refl; delta = refl; free = refl }
cleared_all (r ∷ rs) p = let k = cleared_all rs (leave r p) in record {
  tags = k.tags ∙ length-set p.tags r None;
  lists = k.lists ∙ length-unlink r p.lists;
  delta = k.delta;
  free = k.free;
}

-- a region among those of a manifest has a key
region_has_key : (m i j : ℕ) (ts : List (Option ℕ)) → is_in j (regions_from i (is_of m) ts) ≡ true → (k : ℕ) × (j ≡ i + k) × ((tag : ℕ) × (slice_get ts k ≡ Some (Some tag)))
region_has_key m i j [] e = absurd (false≢true e)
region_has_key m i j (None ∷ ts) e = let h = region_has_key m (i + 1) j ts e in (suc h.0, omega (arith, h.1), h.2)
region_has_key m i j (Some tag ∷ ts) e = elim (cases_Bool (is_of m (Some tag))) [
  | inl t ↦ elim (cases_eq i j) [
    | inl h ↦ (0, omega (arith, h), (tag, refl))
    | inr n ↦ let h = region_has_key m (i + 1) j ts (rw (t, ne_eqb i j n) at e) in (suc h.0, omega (arith, h.1), h.2)
  ]
  | inr f ↦ let h = region_has_key m (i + 1) j ts (rw f at e) in (suc h.0, omega (arith, h.1), h.2)
]

none_some : (tag : ℕ) → None ≡ Some tag → ⊥
none_some tag e = cc

pub clear_changes : {tells : Bool} {files : ℕ → ℕ → List ℕ} (s : State) (m : ℕ) → Good tells files s → policy.IsGood (clear m s.policy)
    → ((j : ℕ) → tag_at (clear m s.policy) j ≡ (if is_of m (tag_at s.policy j) then None else tag_at s.policy j))
    → (clear m s.policy).leaving ≡ s.policy.leaving ++ regions_from 0 (is_of m) s.policy.tags
    → PolicyChanges s (clear m s.policy)
clear_changes s m good kept tags leaving = let k = cleared_all (regions_from 0 (is_of m) s.policy.tags) s.policy in record {
  good = kept;
  tags = k.tags;
  lists = k.lists;
  delta = k.delta;
  mapped = λ j tag e. elim (cases_Bool (is_of m (tag_at s.policy j))) [
    | inl t ↦ absurd (none_some tag (sym (rw t at (tags j)) ∙ e))
    | inr f ↦ sym (rw f at (tags j)) ∙ e
  ];
  leaving = λ j e.
      let h : (is_in j s.policy.leaving || is_in j (regions_from 0 (is_of m) s.policy.tags)) ≡ true =
      sym (list_any-append (λ i. i == j) s.policy.leaving (regions_from 0 (is_of m) s.policy.tags)) ∙ (let P : List ℕ → Type 0 = λ l. is_in j l ≡ true in subst P leaving e) in
      elim (or_cases (is_in j s.policy.leaving) (is_in j (regions_from 0 (is_of m) s.policy.tags)) h) [
        | inl i ↦ inl i
        | inr i ↦ let k = region_has_key m 0 j s.policy.tags i in inr (k.2.0, key_at j k.0 k.2.0 (omega (arith, k.1)) k.2.1)
      ];
  busy = λ a h e. let P : List ℕ → Type 0 = λ l. is_in h.region l ≡ false in subst P (sym k.free) (good.holds a h e).busy;
}
  where
    key_at : (j k tag : ℕ) → k ≡ j → slice_get s.policy.tags k ≡ Some (Some tag) → tag_at s.policy j ≡ Some tag
    key_at j k tag e g = let P : ℕ → Type 0 = λ i. tag_at s.policy i ≡ Some tag in subst P e (rw g refl)

-- ---- room for an entry

-- an unheld mapped region is unmapped
pub unmap_changes : {tells : Bool} {files : ℕ → ℕ → List ℕ} (s : State) (r : ℕ) → Good tells files s → is_held s r ≡ false → policy.IsGood (unmap r s.policy)
    → ((j : ℕ) → tag_at (unmap r s.policy) j ≡ (if j == r then None else tag_at s.policy j))
    → PolicyChanges s (unmap r s.policy)
unmap_changes s r good free kept tags = record {
  good = kept;
  tags = length-set s.policy.tags r None;
  lists = length-unlink r s.policy.lists;
  delta = refl;
  mapped = λ j tag e. elim (cases_Bool (j == r)) [
    | inl t ↦ absurd (none_some tag (sym (rw t at (tags j)) ∙ e))
    | inr f ↦ sym (rw f at (tags j)) ∙ e
  ];
  leaving = λ j e. inl e;
  busy = λ a h e. list_any-append (λ m. m == h.region) s.policy.free (r ∷ []) ∙ rw ((good.holds a h e).busy, ne_eqb r h.region (λ i. off_region s a r h e free (sym i))) refl;
}
