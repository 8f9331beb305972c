-- Each step keeps the rule.
use Rattle.std.proofs.Common.{◌≡◌, ℕ, zero, suc, ◌+◌, ◌*◌, ◌/◌, ◌%◌, ◌<◌, ◌≤◌, eqb, cond, ◌≢◌, ◌⊎◌, List, [], ◌∷◌, ◌++◌, map, length, get_or, set, sym, refl, ap, ◌∙◌, subst, inl, inr, ⊎_elim, arith, length-set, get_or-set_other, get_or-set_same, eq-eqb, ne_eqb, Option, None, Bool}
use mathlib.Core.Logic.{dite}
use mathlib.Core.Option.{none, some, some-injective, some-ne-none}
use native.Mathlib.Decide.{ℕ_discrete, dec_le}
use lib.ListN.{get_elem?, length-map}
use lib.Seq.{set-get_or}
use prog.Atomic.{either}
use Rattle.atomic_table.specs.Table.{State, Me, step, keeps, takes, gives, rest, put_back, stepped, opening, Allows, Splits, Joins}
use Rattle.atomic_table.proofs.Lists.{at_set, set_here, set_else, at_snoc, at_map, exchanged}
use Rattle.sparse_tracker.specs.Weights.{total, TicketWeights, GapWeights}
use Rattle.cache_policy.specs.Policy.{PolicyView}
use Rattle.region_cell.specs.Cells.{CellView, CellMetadata}
use Rattle.cache_door.specs.declared.hold.Hold.{Hold}
use Rattle.cache_table.specs.Abouts.{About}
use Rattle.cache_table.specs.declared.view.View.{View}
use Rattle.cache_table.specs.declared.home.Home.{Home}
use Rattle.cache_table.specs.declared.home.Home.TheVariants.{Policy, Cell, Away}
use Rattle.cache_table.specs.Rule.{last_place, at_of, tag_held, weight, weigh, times, has_turn, has_hold, has_unmounted, count_in, shares, tag_of, holds_of, Noted, regions_in, tickets, gaps, by_hold, by_tracker, Governs, Suits, Fits, Sound, Ruled, Fresh, newcomer}
use Rattle.cache_table.specs.Plays.{looked, lost, took, took_policy, took_cell, gave, popped, Taken, Changes, Settles, HasHolds, Counted, IsCounted, Owns, Takes, Gives, Looks, LooksMount, Learns, SetsLive, SetsGone, mount_at, looked_mount, ended_mount, left, right, both, spent}
use Rattle.cache_table.specs.Calls.{OnTop}
use Rattle.cache_table.proofs.Sums.{total-set, total-append, count-append, term_le, terms_le, total_same, yes, no, noted_else, weight_yes, weight_no, no_region, noted_low, total_alone}
use Rattle.cache_table.proofs.Owns.{owns_of, none_of, empty_weighs, value_one, value_is, gap_less, total_le}

-- the rule sees no difference between the views but for their turns
pub record Alike (v w : View) : Type 0 where
  pub about : w.about ≡ v.about
  pub shares : w.shares ≡ v.shares
  pub hold : w.hold ≡ v.hold
  pub unmounted : w.unmounted ≡ v.unmounted
  pub gone : w.gone ≡ v.gone

abbrev Lasts : View → Type 0
Lasts v = (k : ℕ) → 0 < k → 0 < times k v.turns → v.last_region ≡ k

-- a word changes in its turn alone, or not at all
sound_moves : (a : About) (words : List ℕ) (v w : View) (k x : ℕ) → k ≤ last_place a → k < length words → (0 < k → at_of v.hold ≡ k → tag_of x ≡ tag_of (get_or words k 0)) → Alike v w → Noted (last_place a) (set words k x) w.turns → regions_in w.turns ≤ 1 → Lasts w
    → (v.shares ≡ 0 → w.turns ≡ []) → Sound a words v → Sound a (set words k x) w
sound_moves a words v w k x small inside tag same noted one last idle o = let at : at_of w.hold ≡ at_of v.hold = ap at_of same.hold in record {
  about = λ h. same.about ∙ o.about (subst (λ (n : ℕ). 0 < n) same.shares h);
  noted = noted;
  one_region = one;
  last = last;
  tagged = λ h. let p : 0 < at_of v.hold = subst (λ (n : ℕ). 0 < n) at h in let t = o.tagged p in (
    subst (λ (n : ℕ). n ≤ last_place a) (sym at) t.0,
    ap (λ (n : ℕ). tag_of (get_or (set words k x) n 0)) at ∙ dite (ℕ_discrete (at_of v.hold) k)
        (λ e. ap (λ (n : ℕ). tag_of (get_or (set words k x) n 0)) e ∙ ap tag_of (get_or-set_same words k x 0 inside) ∙ tag (subst (λ (n : ℕ). 0 < n) e p) e ∙ ap (λ (n : ℕ). tag_of (get_or words n 0)) (sym e) ∙ t.1 ∙ sym (ap tag_held same.hold))
        (λ ne. ap tag_of (get_or-set_other words k (at_of v.hold) x 0 ne) ∙ t.1 ∙ sym (ap tag_held same.hold)),
  );
  gone = λ m h. let t = o.gone m (subst (λ (z : List ℕ × List ℕ). 0 < count_in m z.0 + count_in m z.1) (λ i. (same.unmounted i, same.gone i)) h) in
      (t.0, get_or-set_other words k (last_place a + 1 + m) x 0 (λ e. omega arith) ∙ t.1);
  spent = λ h. let t = o.spent (sym same.shares ∙ h) in (idle (sym same.shares ∙ h), same.hold ∙ t.1, same.unmounted ∙ t.2, same.gone ∙ t.3);
}

module _ (told : Bool) (files : ℕ → ℕ → List ℕ) (A F : Type 0) where
  abbrev St : Type 0
  St = State (Home A F) View

  abbrev Sat : Type 0
  Sat = Me (Home A F) View

  -- a step that changes no word and no slot, and of the view only what the rule does not see
  looks_on : (a : About) (s : St) (r : Ruled told files a s) (k id : ℕ) (c : List (ℕ × Home A F)) (v w : View) → get_elem? s.views id ≡ some v → Alike v w → w.turns ≡ v.turns → w.cell ≡ v.cell → w.last_region ≡ v.last_region → Ruled told files a (stepped s k (get_or s.words k 0) id c w keeps)
  looks_on a s r k id c v w at same turns cell last = let same_words = set-get_or s.words k 0 in
      subst (λ (ws : List ℕ). Ruled told files a record { words = ws; homes = s.homes; views = set s.views id w }) (sym same_words) record {
        wide = r.wide;
        deep = r.deep;
        turns = λ j h. total_same (has_turn j) s.views id v w at (ap (times j) turns) ∙ r.turns j h;
        free = r.free;
        taken = r.taken;
        held = λ j p h. total_same (has_hold j) s.views id v w at (ap (weight j (λ _. 1)) same.hold) ∙ r.held j p h;
        unmounted = λ m h e. subst (λ (n : ℕ). 0 < n) (sym (total_same (has_unmounted m) s.views id v w at (ap (count_in m) same.unmounted))) (r.unmounted m h e);
        sound = λ j u e. ⊎_elim
            (λ t. subst (Sound a s.words) t.1 (let o = r.sound id v at in record {
              about = λ h. same.about ∙ o.about (subst (λ (n : ℕ). 0 < n) same.shares h);
              noted = subst (Noted (last_place a) s.words) (sym turns) o.noted;
              one_region = subst (λ (ts : List (ℕ × ℕ)). regions_in ts ≤ 1) (sym turns) o.one_region;
              last = λ j p h. last ∙ o.last j p (subst (λ (ts : List (ℕ × ℕ)). 0 < times j ts) turns h);
              tagged = λ h. let b : at_of w.hold ≡ at_of v.hold = ap at_of same.hold in let t = o.tagged (subst (λ (n : ℕ). 0 < n) b h) in (subst (λ (n : ℕ). n ≤ last_place a) (sym b) t.0, ap (λ (n : ℕ). tag_of (get_or s.words n 0)) b ∙ t.1 ∙ sym (ap tag_held same.hold));
              gone = λ m h. o.gone m (subst (λ (z : List ℕ × List ℕ). 0 < count_in m z.0 + count_in m z.1) (λ i. (same.unmounted i, same.gone i)) h);
              spent = λ h. let t = o.spent (sym same.shares ∙ h) in (turns ∙ t.0, same.hold ∙ t.1, same.unmounted ∙ t.2, same.gone ∙ t.3);
            }))
            (λ t. r.sound j u t.1)
            (at_set s.views id j w u e);
        all_shares = total_same shares s.views id v w at same.shares ∙ r.all_shares;
        owned = λ x' j c' f p e. total_same (weigh j (by_hold x' f)) s.views id v w at (ap (weight j (by_hold x' f)) same.hold) ∙ r.owned x' j c' f p e;
        owned_out = λ x' i j u f p e has. total_same (weigh j (by_hold x' f)) s.views id v w at (ap (weight j (by_hold x' f)) same.hold) ∙ ⊎_elim
            (λ z. r.owned_out x' id j v f p at (subst (λ (n : ℕ). 0 < n) (ap (times j) (ap (λ (q : View). q.turns) (sym z.1) ∙ turns)) has) ∙ ap (λ (q : CellMetadata). by_tracker x' f q.region.tracker) (sym cell ∙ ap (λ (q : View). q.cell) z.1))
            (λ z. r.owned_out x' i j u f p z.1 has)
            (at_set s.views id i w u e);
      }

  took_alike : (k x : ℕ) (y : Home A F) (v : View) → Alike v (took k x y v) × ((took k x y v).turns ≡ (k, x / 2) ∷ v.turns)
  took_alike k x (Policy p) v = (record { about = refl; shares = refl; hold = refl; unmounted = refl; gone = refl }, refl)
  took_alike k x (Cell c) v = (record { about = refl; shares = refl; hold = refl; unmounted = refl; gone = refl }, refl)
  took_alike k x Away v = (record { about = refl; shares = refl; hold = refl; unmounted = refl; gone = refl }, refl)

  -- a region's turn is that of the last region noted
  took_last : (a : About) (k x : ℕ) (y : Home A F) (v : View) (j : ℕ) → k ≤ last_place a → Fits told files a k x y → (0 < k → regions_in v.turns ≡ 0) → {words : List ℕ} → Sound a words v → 0 < j → 0 < times j ((k, x / 2) ∷ v.turns) → (took k x y v).last_region ≡ j
  took_last a zero x (Policy q) v j le fits lone so p h = so.last j p (omega (arith, h, no 0 j (λ e. omega arith)))
  took_last a zero x (Cell c) v j le fits lone so p h = absurd fits
  took_last a zero x Away v j le fits lone so p h = absurd fits
  took_last a (suc k) x (Policy q) v j le fits lone so p h = absurd fits
  took_last a (suc k) x Away v j le fits lone so p h = absurd fits
  took_last a (suc k) x (Cell c) v j le fits lone so p h = dite (ℕ_discrete (suc k) j) (λ e. e) (λ ne. absurd (omega (arith, h, no (suc k) j ne, no_region v.turns j p (lone (omega arith)))))

  -- no other view has the turn of a free word
  none_has : (a : About) (s : St) (r : Ruled told files a s) (k j : ℕ) (u : View) → k ≤ last_place a → get_or s.words k 0 % 2 ≡ 0 → get_elem? s.views j ≡ some u → times k u.turns ≡ 0
  none_has a s r k j u h even at = omega (arith, term_le (has_turn k) s.views j u at, r.turns k h)

  -- at most one view has the turn of a word
  no_other : (a : About) (s : St) (r : Ruled told files a s) (k j id : ℕ) (u v : View) → k ≤ last_place a → j ≢ id → get_elem? s.views id ≡ some v → get_elem? s.views j ≡ some u → 0 < times k v.turns → times k u.turns ≡ 0
  no_other a s r k j id u v h ne here at mine = omega (arith, terms_le (has_turn k) s.views id j v u ne here at, r.turns k h)

  inside : (a : About) (s : St) (r : Ruled told files a s) (k : ℕ) → k ≤ last_place a → k < length s.words
  inside a s r k h = omega (arith, r.wide)

  -- a view has at most as many holds as shares
  few_holds : (a : About) (k : ℕ) → 0 < k → (words : List ℕ) (vs : List View) → ((j : ℕ) (v : View) → get_elem? vs j ≡ some v → Sound a words v) → total (has_hold k) vs ≤ total shares vs
  few_holds a k p words [] all = omega arith
  few_holds a k p words (v ∷ vs) all = let rest = few_holds a k p words vs (λ j u e. all (suc j) u e) in dite (ℕ_discrete (at_of v.hold) k)
      (λ e. dite (ℕ_discrete v.shares 0) (λ z. absurd (omega (arith, ap at_of ((all 0 v refl).spent z).1))) (λ some-share. omega (arith, weight_yes k (λ _. 1) v.hold e, value_one v.hold)))
      (λ ne. omega (arith, weight_no k (λ _. 1) v.hold ne))

  -- the cell that a region's turn takes out is noted, and the cache's turn leaves the noted cell
  cell_out : (a : About) (k x : ℕ) (y : Home A F) (v : View) → 0 < k → Fits told files a k x y → (c : CellView) × (y ≡ Cell c) × ((took k x y v).cell ≡ c.metadata)
  cell_out a zero x y v p fits = absurd (omega arith)
  cell_out a (suc k) x (Policy q) v p fits = absurd fits
  cell_out a (suc k) x (Cell c) v p fits = (c, refl, refl)
  cell_out a (suc k) x Away v p fits = absurd fits

  cell_stays : (a : About) (k x : ℕ) (y : Home A F) (v : View) → k ≡ 0 → Fits told files a k x y → (took k x y v).cell ≡ v.cell
  cell_stays a zero x (Policy q) v z fits = refl
  cell_stays a zero x (Cell c) v z fits = absurd fits
  cell_stays a zero x Away v z fits = absurd fits
  cell_stays a (suc k) x y v z fits = absurd (omega arith)

  -- the home cell has the ticket of a hold on its region, and its open gap
  owns_hold : (tw : TicketWeights) (gw : GapWeights) (a : About) (s : St) (r : Ruled told files a s) (k id : ℕ) (v : View) (y : Home A F) → get_elem? s.views id ≡ some v → at_of v.hold ≡ k → 0 < k → get_elem? s.homes k ≡ some (some y) → Fits told files a k (get_or s.words k 0) y → Owns y v.hold
  owns_hold tw gw a s r zero id v y at mine p home fits = absurd (omega arith)
  owns_hold tw gw a s r (suc k) id v (Policy q) at mine p home fits = absurd fits
  owns_hold tw gw a s r (suc k) id v Away at mine p home fits = absurd fits
  owns_hold tw gw a s r (suc k) id v (Cell c) at mine p home fits = owns_of tw gw (suc k) c.metadata.region.tracker fits.good.tracker v.hold mine
      (λ x f. omega (arith, r.owned x (suc k) c f p home, term_le (weigh (suc k) (by_hold x f)) s.views id v at))

  -- a cell that nobody holds has no ticket and no gap
  is_counted : (tw : TicketWeights) (gw : GapWeights) (a : About) (s : St) (r : Ruled told files a s) (k : ℕ) (y : Home A F) → 0 < k → k ≤ last_place a → get_elem? s.homes k ≡ some (some y) → Fits told files a k (get_or s.words k 0) y → IsCounted (get_or s.words k 0) y
  is_counted tw gw a s r zero y p le home fits = absurd (omega arith)
  is_counted tw gw a s r (suc k) (Policy q) p le home fits = absurd fits
  is_counted tw gw a s r (suc k) Away p le home fits = absurd fits
  is_counted tw gw a s r (suc k) (Cell c) p le home fits = record {
    few = omega (arith, r.held (suc k) p le, few_holds a (suc k) p s.words s.views r.sound, r.all_shares);
    none = λ z. none_of tw gw c.metadata.region.tracker
        (omega (arith, z, r.held (suc k) p le, r.owned tickets (suc k) c (λ _ _ _. 1) p home))
        (omega (arith, z, r.held (suc k) p le, r.owned gaps (suc k) c (λ _ _ _. 1) p home, total_le (weigh (suc k) (by_hold gaps (λ _ _ _. 1))) (has_hold (suc k)) s.views (λ v. gap_less (suc k) v.hold)));
  }

  pub takes_turn : (tw : TicketWeights) (gw : GapWeights) (a : About) (slots id : ℕ) (m : Sat) (k seen : ℕ) → k ≤ last_place a → k % 8 ≡ 0 → seen % 2 ≡ 0 → 0 < m.0.shares → (0 < k → regions_in m.0.turns ≡ 0)
      → Allows (Ruled told files a) slots id m k (λ n. either (eqb n seen) (seen + 1) n) (Takes told files (step slots k seen (seen + 1) none) m)
  takes_turn tw gw a slots id m k seen small whole even share lone s r _ at fits = let x : ℕ = get_or s.words k 0 in let v : View = m.0 in dite (ℕ_discrete x seen)
      (λ hit. let even' : x % 2 ≡ 0 = ap (λ (n : ℕ). n % 2) hit ∙ even in let y = r.free k small even' whole in let w : View = took k x y.0 v in let t = took_alike k x y.0 v in let same = t.0 in let x' : ℕ = seen + 1 in let one : x' ≡ x + 1 = omega arith in
      let there = inside a s r k small in let mine-not : times k v.turns ≡ 0 = none_has a s r k id v small even' at in let here : get_or (set s.words k x') k 0 ≡ x' = get_or-set_same s.words k x' 0 there in
      let else : (j : ℕ) → j ≢ k → get_or (set s.words k x') j 0 ≡ get_or s.words j 0 = λ j ne. get_or-set_other s.words k j x' 0 ne in
      let tag : 0 < k → at_of v.hold ≡ k → tag_of x' ≡ tag_of x = λ _ _. omega arith in
      let so = r.sound id v at in (
        w,
        takes k y.0,
        y.1,
        subst (λ b. Ruled told files a (stepped s k (either b x' x) id m.1 w (takes k y.0))) (sym (eq-eqb x seen hit)) record {
          wide = length-set s.words k x' ∙ r.wide;
          deep = length-set s.homes k none ∙ r.deep;
          turns = λ j h. let sum = total-set (has_turn j) s.views id v w at in let now : times j w.turns ≡ times j ((k, x / 2) ∷ v.turns) = ap (times j) t.1 in let was = r.turns j h in dite (ℕ_discrete k j)
              (λ e. let p : get_or (set s.words k x') j 0 ≡ x' = ap (λ (n : ℕ). get_or (set s.words k x') n 0) (sym e) ∙ here in let q : get_or s.words j 0 ≡ x = ap (λ (n : ℕ). get_or s.words n 0) (sym e) in
              omega (arith, yes k j e, p, q))
              (λ ne. let p = else j (λ e. ne (sym e)) in omega (arith, no k j ne, p));
          free = λ j h e d. dite (ℕ_discrete j k)
              (λ is. let p : get_or (set s.words k x') j 0 ≡ x' = ap (λ (n : ℕ). get_or (set s.words k x') n 0) is ∙ here in absurd (omega (arith, p, e)))
              (λ ne. let p = else j ne in let z = r.free j h (ap (λ (n : ℕ). n % 2) (sym p) ∙ e) d in (z.0, set_else s.homes k j none ne ∙ z.1, subst (λ (n : ℕ). Fits told files a j n z.0) (sym p) z.2));
          taken = λ j h e. dite (ℕ_discrete j k)
              (λ is. ap (get_elem? (set s.homes k none)) is ∙ set_here s.homes k none (omega (arith, r.deep)))
              (λ ne. set_else s.homes k j none ne ∙ r.taken j h (ap (λ (n : ℕ). n % 2) (sym (else j ne)) ∙ e));
          held = λ j p h. total_same (has_hold j) s.views id v w at (ap (weight j (λ _. 1)) same.hold) ∙ r.held j p h ∙ dite (ℕ_discrete j k)
              (λ is. let q : get_or (set s.words k x') j 0 ≡ x' = ap (λ (n : ℕ). get_or (set s.words k x') n 0) is ∙ here in let q' : get_or s.words j 0 ≡ x = ap (λ (n : ℕ). get_or s.words n 0) is in
              let half : x / 2 ≡ x' / 2 = omega arith in ap holds_of q' ∙ ap (λ (n : ℕ). n % 128) half ∙ ap holds_of (sym q))
              (λ ne. ap holds_of (sym (else j ne)));
          unmounted = λ i h e. subst (λ (n : ℕ). 0 < n) (sym (total_same (has_unmounted i) s.views id v w at (ap (count_in i) same.unmounted))) (r.unmounted i h (sym (else (last_place a + 1 + i) (λ z. omega arith)) ∙ e));
          sound = λ j u e. ⊎_elim
              (λ z. subst (Sound a (set s.words k x')) z.1 (sound_moves a s.words v w k x' small there tag same
              (subst (Noted (last_place a) (set s.words k x')) (sym t.1) (small, (here ∙ omega arith), noted_else (last_place a) k x' s.words v.turns mine-not so.noted))
              (subst (λ (ts : List (ℕ × ℕ)). regions_in ts ≤ 1) (sym t.1) (dite (ℕ_discrete k 0) (λ is. omega (arith, so.one_region, ap {B = ℕ} (λ b. cond b 0 1) (eq-eqb k 0 is))) (λ ne. omega (arith, lone (omega arith), ap {B = ℕ} (λ b. cond b 0 1) (ne_eqb k 0 ne)))))
              (λ i q h. took_last a k x y.0 v i small y.2 lone so q (subst (λ (ts : List (ℕ × ℕ)). 0 < times i ts) t.1 h))
              (λ none. absurd (omega arith)) so))
              (λ z. let o = r.sound j u z.1 in sound_moves a s.words u u k x' small there (λ _ _. omega arith) record { about = refl; shares = refl; hold = refl; unmounted = refl; gone = refl }
              (noted_else (last_place a) k x' s.words u.turns (none_has a s r k j u small even' z.1) o.noted) o.one_region o.last (λ none. (o.spent none).0) o)
              (at_set s.views id j w u e);
          all_shares = total_same shares s.views id v w at same.shares ∙ r.all_shares;
          owned = λ x' j c f p e. total_same (weigh j (by_hold x' f)) s.views id v w at (ap (weight j (by_hold x' f)) same.hold) ∙ dite (ℕ_discrete j k)
              (λ is. absurd (some-ne-none (Cell c) (some-injective (some (Cell c)) none (sym e ∙ ap (get_elem? (set s.homes k none)) is ∙ set_here s.homes k none (omega (arith, r.deep))))))
              (λ ne. r.owned x' j c f p (sym (set_else s.homes k j none ne) ∙ e));
          owned_out = λ x' i j u f p e has. total_same (weigh j (by_hold x' f)) s.views id v w at (ap (weight j (by_hold x' f)) same.hold) ∙ ⊎_elim
              (λ z. let has' : 0 < times j w.turns = subst (λ (q : View). 0 < times j q.turns) (sym z.1) has in let cells : by_tracker x' f w.cell.region.tracker ≡ by_tracker x' f u.cell.region.tracker = ap (λ (q : View). by_tracker x' f q.cell.region.tracker) z.1 in
              dite (ℕ_discrete j k)
              (λ is. let pk : 0 < k = subst (λ (n : ℕ). 0 < n) is p in let g = cell_out a k x y.0 v pk y.2 in
              r.owned x' j g.0 f p (ap (get_elem? s.homes) is ∙ y.1 ∙ ap (λ (q : Home A F). some (some q)) g.1) ∙ ap (λ (q : CellMetadata). by_tracker x' f q.region.tracker) (sym g.2) ∙ cells)
              (λ ne. let old : 0 < times j v.turns = omega (arith, has', ap (times j) t.1, no k j (λ e'. ne (sym e'))) in
              dite (ℕ_discrete k 0) (λ zero-k. r.owned_out x' id j v f p at old ∙ ap (λ (q : CellMetadata). by_tracker x' f q.region.tracker) (sym (cell_stays a k x y.0 v zero-k y.2)) ∙ cells)
              (λ pos. absurd (omega (arith, no_region v.turns j p (lone (omega arith)), old)))))
              (λ z. r.owned_out x' i j u f p z.1 has)
              (at_set s.views id i w u e);
        },
        (
          (λ _. (
            y.0,
            subst (λ (z : About). Fits told files z k x y.0) (sym (so.about share)) y.2,
            (λ p. is_counted tw gw a s r k y.0 p small y.1 y.2),
            (λ mine p. let g = so.tagged (subst (λ (n : ℕ). 0 < n) (sym mine) p) in (ap (λ (n : ℕ). tag_of (get_or s.words n 0)) (sym mine) ∙ g.1, owns_hold tw gw a s r k id v y.0 at mine p y.1 y.2)),
            refl,
          )),
          λ not. absurd (not hit),
        ),
      ))
      (λ miss. (
        lost k x v,
        keeps,
        tt,
        subst (λ b. Ruled told files a (stepped s k (either b (seen + 1) x) id m.1 (lost k x v) keeps)) (sym (ne_eqb x seen miss))
            (looks_on a s r k id m.1 v (lost k x v) at record { about = refl; shares = refl; hold = refl; unmounted = refl; gone = refl } refl refl refl),
        ((λ is. absurd (miss is)), λ _. refl),
      ))

  pub loads_word : (a : About) (slots id : ℕ) (m : Sat) (k : ℕ) → Allows (Ruled told files a) slots id m k (λ n. n) (Looks (step slots k 0 0 none) m)
  loads_word a slots id m k s r _ at _ = let x : ℕ = get_or s.words k 0 in (
    looked k x m.0,
    keeps,
    tt,
    looks_on a s r k id m.1 m.0 (looked k x m.0) at record { about = refl; shares = refl; hold = refl; unmounted = refl; gone = refl } refl refl refl,
    refl,
  )

  gave_alike : (h : Option Hold) (y : Home A F) (v : View) → ((gave h y v).about ≡ v.about) × ((gave h y v).shares ≡ v.shares) × ((gave h y v).turns ≡ popped v.turns) × ((gave h y v).hold ≡ h) × ((gave h y v).unmounted ≡ v.unmounted) × ((gave h y v).gone ≡ v.gone) × ((gave h y v).last_region ≡ v.last_region)
  gave_alike h (Policy p) v = (refl, refl, refl, refl, refl, refl, refl)
  gave_alike h (Cell c) v = (refl, refl, refl, refl, refl, refl, refl)
  gave_alike h Away v = (refl, refl, refl, refl, refl, refl, refl)

  gave_keeps_cell : (h : Option Hold) (y : Home A F) (v : View) → (gave h y v).cell ≡ v.cell
  gave_keeps_cell h (Policy p) v = refl
  gave_keeps_cell h (Cell c) v = refl
  gave_keeps_cell h Away v = refl

  pub gives_turn : (a : About) (slots id : ℕ) (m : Sat) (k new b : ℕ) (ts : List (ℕ × ℕ)) (y : Home A F) (h : Option Hold) → k ≤ last_place a → new % 2 ≡ 0 → m.0.turns ≡ (k, b) ∷ ts → m.1 ≡ (k, y) ∷ rest m.1 → 0 < m.0.shares
      → Fits told files a k new y → Changes k (2 * b + 1) new m.0.hold h → Settles k m.0 h y
      → Allows (Ruled told files a) slots id m k (λ _. new) (λ _. Gives h (step slots k new 0 none) m new)
  gives_turn a slots id m k new b ts y h small even mine top share good ch settles s r _ at _ = let v : View = m.0 in let w : View = gave h y v in let t = gave_alike h y v in let so = r.sound id v at in let there = inside a s r k small in
      let noted = subst (Noted (last_place a) s.words) mine so.noted in let old : get_or s.words k 0 ≡ 2 * b + 1 = noted.1 in let x : ℕ = get_or s.words k 0 in
      let new-turns : w.turns ≡ ts = t.2 ∙ ap popped mine in
      let once : times k v.turns ≡ 1 + times k ts = ap (times k) mine ∙ omega (arith, yes k k refl) in
      let alone : times k ts ≡ 0 = omega (arith, term_le (has_turn k) s.views id v at, r.turns k small, once) in
      let here : get_or (set s.words k new) k 0 ≡ new = get_or-set_same s.words k new 0 there in
      let else : (j : ℕ) → j ≢ k → get_or (set s.words k new) j 0 ≡ get_or s.words j 0 = λ j ne. get_or-set_other s.words k j new 0 ne in
      let homes-are : put_back s.homes m.1 ≡ set s.homes k (some y) = ap (put_back s.homes) top in (
        w,
        gives,
        tt,
        subst (λ hs. Ruled told files a record { words = set s.words k new; homes = hs; views = set s.views id w }) (sym homes-are) record {
          wide = length-set s.words k new ∙ r.wide;
          deep = length-set s.homes k (some y) ∙ r.deep;
          turns = λ j le. let sum = total-set (has_turn j) s.views id v w at in let was : times j v.turns ≡ times j ((k, b) ∷ ts) = ap (times j) mine in let now : times j w.turns ≡ times j ts = ap (times j) new-turns in let before = r.turns j le in dite (ℕ_discrete k j)
              (λ e. let p : get_or (set s.words k new) j 0 ≡ new = ap (λ (n : ℕ). get_or (set s.words k new) n 0) (sym e) ∙ here in let q : get_or s.words j 0 ≡ 2 * b + 1 = ap (λ (n : ℕ). get_or s.words n 0) (sym e) ∙ old in
              omega (arith, yes k j e, p, q))
              (λ ne. let p = else j (λ e. ne (sym e)) in omega (arith, no k j ne, p));
          free = λ j le e d. dite (ℕ_discrete j k)
              (λ is. (
                y,
                ap (get_elem? (set s.homes k (some y))) is ∙ set_here s.homes k (some y) (omega (arith, r.deep)),
                subst (λ (z : ℕ × ℕ). Fits told files a z.0 z.1 y) (λ i. (sym is i, (sym here ∙ ap (λ (n : ℕ). get_or (set s.words k new) n 0) (sym is)) i)) good,
              ))
              (λ ne. let p = else j ne in let z = r.free j le (ap (λ (n : ℕ). n % 2) (sym p) ∙ e) d in (z.0, set_else s.homes k j (some y) ne ∙ z.1, subst (λ (n : ℕ). Fits told files a j n z.0) (sym p) z.2));
          taken = λ j le e. dite (ℕ_discrete j k)
              (λ is. let p : get_or (set s.words k new) j 0 ≡ new = ap (λ (n : ℕ). get_or (set s.words k new) n 0) is ∙ here in absurd (omega (arith, p, e)))
              (λ ne. set_else s.homes k j (some y) ne ∙ r.taken j le (ap (λ (n : ℕ). n % 2) (sym (else j ne)) ∙ e));
          held = λ j p le. let sum = total-set (has_hold j) s.views id v w at in let now : has_hold j w ≡ weight j (λ _. 1) h = ap (weight j (λ _. 1)) t.3 in let before = r.held j p le in dite (ℕ_discrete j k)
              (λ is. let q : get_or (set s.words k new) j 0 ≡ new = ap (λ (n : ℕ). get_or (set s.words k new) n 0) is ∙ here in let q' : get_or s.words j 0 ≡ 2 * b + 1 = ap (λ (n : ℕ). get_or s.words n 0) is ∙ old in
              let c : weight j (λ _. 1) h + holds_of (2 * b + 1) ≡ weight j (λ _. 1) v.hold + holds_of new = subst (λ (n : ℕ). weight n (λ _. 1) h + holds_of (2 * b + 1) ≡ weight n (λ _. 1) v.hold + holds_of new) (sym is) (ch.counted (subst (λ (n : ℕ). 0 < n) is p)) in
              let o' : holds_of (get_or s.words j 0) ≡ holds_of (2 * b + 1) = ap holds_of q' in let n' : holds_of (get_or (set s.words k new) j 0) ≡ holds_of new = ap holds_of q in
              omega (arith, sum, now, before, c, o', n'))
              (λ ne. let c = ch.elsewhere j (λ _. 1) p ne in let n' : holds_of (get_or (set s.words k new) j 0) ≡ holds_of (get_or s.words j 0) = ap holds_of (else j ne) in omega (arith, sum, now, before, c, n'));
          unmounted = λ i le e. subst (λ (n : ℕ). 0 < n) (sym (total_same (has_unmounted i) s.views id v w at (ap (count_in i) t.4))) (r.unmounted i le (sym (else (last_place a + 1 + i) (λ z. omega arith)) ∙ e));
          sound = λ j u e. ⊎_elim
              (λ z. subst (Sound a (set s.words k new)) z.1 record {
                about = λ _. t.0 ∙ so.about share;
                noted = subst (Noted (last_place a) (set s.words k new)) (sym new-turns) (noted_else (last_place a) k new s.words ts alone noted.2);
                one_region = subst (λ (l : List (ℕ × ℕ)). regions_in l ≤ 1) (sym new-turns) (let o = subst (λ (l : List (ℕ × ℕ)). regions_in l ≤ 1) mine so.one_region in omega arith);
                last = λ i p q. t.6 ∙ so.last i p (let l : times i v.turns ≡ times i ((k, b) ∷ ts) = ap (times i) mine in let n : times i w.turns ≡ times i ts = ap (times i) new-turns in omega (arith, q, l, n));
                tagged = λ p. let at : at_of w.hold ≡ at_of h = ap at_of t.3 in let tg : tag_held w.hold ≡ tag_held h = ap tag_held t.3 in let p' : 0 < at_of h = subst (λ (n : ℕ). 0 < n) at p in dite (ℕ_discrete (at_of h) k)
                    (λ is. (subst (λ (n : ℕ). n ≤ last_place a) (sym (at ∙ is)) small, ap (λ (n : ℕ). tag_of (get_or (set s.words k new) n 0)) (at ∙ is) ∙ ap tag_of here ∙ ch.here p' is ∙ sym tg))
                    (λ ne. let th = ch.there p' ne in let g = so.tagged (subst (λ (n : ℕ). 0 < n) th.0 p') in
                    (subst (λ (n : ℕ). n ≤ last_place a) (sym (at ∙ th.0)) g.0, ap (λ (n : ℕ). tag_of (get_or (set s.words k new) n 0)) at ∙ ap tag_of (else (at_of h) ne) ∙ ap (λ (n : ℕ). tag_of (get_or s.words n 0)) th.0 ∙ g.1 ∙ sym th.1 ∙ sym tg));
                gone = λ i p. let g = so.gone i (subst (λ (z : List ℕ × List ℕ). 0 < count_in i z.0 + count_in i z.1) (λ c. (t.4 c, t.5 c)) p) in (g.0, else (last_place a + 1 + i) (λ z. omega arith) ∙ g.1);
                spent = λ none. absurd (omega (arith, t.1));
              })
              (λ z. let o = r.sound j u z.1 in sound_moves a s.words u u k new small there
              (λ p is. ch.tag p (omega (arith, r.held k p small, term_le (has_hold k) s.views j u z.1, weight_yes k (λ _. 1) u.hold is, value_is u.hold (omega (arith, is, p)), ap holds_of old)) ∙ ap tag_of (sym old))
              record { about = refl; shares = refl; hold = refl; unmounted = refl; gone = refl }
              (noted_else (last_place a) k new s.words u.turns (no_other a s r k j id u v small z.0 at z.1 (omega (arith, once))) o.noted) o.one_region o.last (λ none. (o.spent none).0) o)
              (at_set s.views id j w u e);
          all_shares = total_same shares s.views id v w at t.1 ∙ r.all_shares;
          owned = λ x' j c f p e. let sum = total-set (weigh j (by_hold x' f)) s.views id v w at in let now : weigh j (by_hold x' f) w ≡ weight j (by_hold x' f) h = ap (weight j (by_hold x' f)) t.3 in dite (ℕ_discrete j k)
              (λ is. let pk : 0 < k = subst (λ (n : ℕ). 0 < n) is p in
              let same-cell : y ≡ Cell c = some-injective y (Cell c) (some-injective (some y) (some (Cell c)) (sym (ap (get_elem? (set s.homes k (some y))) is ∙ set_here s.homes k (some y) (omega (arith, r.deep))) ∙ e)) in
              let st = subst (Settles k v h) same-cell settles in let se = subst (λ (n : ℕ). weight n (by_hold x' f) h + by_tracker x' f v.cell.region.tracker ≡ weight n (by_hold x' f) v.hold + by_tracker x' f c.metadata.region.tracker) (sym is) (st x' f) in
              let was = r.owned_out x' id j v f p at (subst (λ (n : ℕ). 0 < times n v.turns) (sym is) (omega (arith, once))) in omega (arith, sum, now, se, was))
              (λ ne. let was = r.owned x' j c f p (sym (set_else s.homes k j (some y) ne) ∙ e) in let same = ch.elsewhere j (by_hold x' f) p ne in omega (arith, sum, now, same, was));
          owned_out = λ x' i j u f p e has. let sum = total-set (weigh j (by_hold x' f)) s.views id v w at in let now : weigh j (by_hold x' f) w ≡ weight j (by_hold x' f) h = ap (weight j (by_hold x' f)) t.3 in ⊎_elim
              (λ z. let has' : 0 < times j ts = subst (λ (n : ℕ). 0 < n) (ap (times j) (ap (λ (q : View). q.turns) (sym z.1) ∙ new-turns)) has in
              let was-has : times j v.turns ≡ times j ((k, b) ∷ ts) = ap (times j) mine in let apart : j ≢ k = λ is. omega (arith, has', alone, ap (λ (n : ℕ). times n ts) is) in
              let was = r.owned_out x' id j v f p at (omega (arith, was-has, has')) in let same = ch.elsewhere j (by_hold x' f) p apart in
              let cells : by_tracker x' f v.cell.region.tracker ≡ by_tracker x' f u.cell.region.tracker = ap (λ (q : CellMetadata). by_tracker x' f q.region.tracker) (sym (gave_keeps_cell h y v) ∙ ap (λ (q : View). q.cell) z.1) in omega (arith, sum, now, same, was, cells))
              (λ z. let apart : j ≢ k = λ is. omega (arith, has, no_other a s r k i id u v small z.0 at z.1 (omega (arith, once)), ap (λ (n : ℕ). times n u.turns) is) in
              let was = r.owned_out x' i j u f p z.1 has in let same = ch.elsewhere j (by_hold x' f) p apart in omega (arith, sum, now, same, was))
              (at_set s.views id i w u e);
        },
        (y, top, refl),
      )

  pub starts : (a : About) (words : List ℕ) (slots : List (Home A F)) → Fresh told files a words slots → Ruled told files a (opening words slots (newcomer a 64 []))
  starts a words slots f = record {
    wide = f.wide;
    deep = length-map slots some ∙ f.deep;
    turns = λ k h. sym ((f.free k h).0);
    free = λ k h e d. let t = f.home k h d in (t.0, at_map some slots k t.0 t.1, t.2);
    taken = λ k h e. absurd (omega (arith, (f.free k h).0, e));
    held = λ k p h. omega (arith, weight_no k (λ _. 1) None (λ e. omega arith), (f.free k h).1);
    unmounted = λ m h e. absurd (f.alive m h e);
    sound = λ j v e. subst (Sound a words) (only_one j v e) record {
      about = λ _. refl;
      noted = tt;
      one_region = omega arith;
      last = λ j p h. absurd (omega arith);
      tagged = λ h. absurd (omega arith);
      gone = λ m h. absurd (omega arith);
      spent = λ h. absurd (omega arith);
    };
    all_shares = refl;
    owned = λ x' k c g p e. let z = f.unclaimed k c p (unmap slots k (Cell c) e) in omega (arith, weight_no k (by_hold x' g) None (λ e'. omega arith), empty_weighs x' g c.metadata.region.tracker z.0 z.1);
    owned_out = λ x' j k v g p e has. absurd (omega (arith, has, ap (λ (q : View). times k q.turns) (only_one j v e)));
  } where
    unmap : (l : List (Home A F)) (i : ℕ) (y : Home A F) → get_elem? (map some l) i ≡ some (some y) → get_elem? l i ≡ some y
    unmap [] i y e = absurd (some-ne-none (some y) (sym e))
    unmap (x ∷ xs) zero y e = some-injective (some x) (some y) e
    unmap (x ∷ xs) (suc i) y e = unmap xs i y e

    only_one : (j : ℕ) (v : View) → get_elem? (newcomer a 64 [] ∷ []) j ≡ some v → newcomer a 64 [] ≡ v
    only_one zero v e = some-injective (newcomer a 64 []) v e
    only_one (suc j) v e = absurd (some-ne-none v (sym e))

  pub splits : (a : About) (id : ℕ) (v : View) → 2 ≤ v.shares → Splits (Ruled {A = A} {F = F} told files a) id v (left v) (right v)
  splits a id v enough s r at = let l : View = left v in let n : View = right v in let so = r.sound id v at in
      let sums : (f : View → ℕ) → total f (set s.views id l ++ n ∷ []) + f v ≡ total f s.views + f l + f n = λ f. omega (arith, total-append f (set s.views id l) (n ∷ []), total-set f s.views id v l at) in record {
        wide = r.wide;
        deep = r.deep;
        turns = λ k h. omega (arith, sums (has_turn k), r.turns k h);
        free = r.free;
        taken = r.taken;
        held = λ k p h. omega (arith, sums (has_hold k), r.held k p h, weight_no k (λ _. 1) None (λ e. omega arith));
        unmounted = λ m h e. omega (arith, sums (has_unmounted m), r.unmounted m h e);
        sound = λ j u e. ⊎_elim
            (λ t. ⊎_elim
            (λ z. subst (Sound a s.words) z.1 record { about = λ _. so.about (omega arith); noted = so.noted; one_region = so.one_region; last = so.last; tagged = so.tagged; gone = so.gone; spent = λ none. absurd (omega arith) })
            (λ z. r.sound j u z.1)
            (at_set s.views id j l u t))
            (λ t. subst (Sound a s.words) t record { about = λ _. so.about (omega arith); noted = tt; one_region = omega arith; last = λ j p h. absurd (omega arith); tagged = λ h. absurd (omega arith); gone = λ m h. so.gone m (omega arith); spent = λ none. absurd (omega arith) })
            (at_snoc (set s.views id l) n u j e);
        all_shares = omega (arith, sums shares, r.all_shares);
        owned = λ x' k c f p e. omega (arith, sums (weigh k (by_hold x' f)), r.owned x' k c f p e, weight_no k (by_hold x' f) None (λ e'. omega arith));
        owned_out = λ x' j k u f p e has. let out : (i : ℕ) (q : View) → get_elem? s.views i ≡ some q → 0 < times k q.turns → total (weigh k (by_hold x' f)) (set s.views id l ++ n ∷ []) ≡ by_tracker x' f q.cell.region.tracker =
            λ i q at' has'. omega (arith, sums (weigh k (by_hold x' f)), r.owned_out x' i k q f p at' has', weight_no k (by_hold x' f) None (λ e'. omega arith)) in ⊎_elim
            (λ t. ⊎_elim (λ z. out id v at (subst (λ (q : View). 0 < times k q.turns) (sym z.1) has) ∙ ap (λ (q : View). by_tracker x' f q.cell.region.tracker) z.1) (λ z. out j u z.1 has) (at_set s.views id j l u t))
            (λ t. absurd (omega (arith, has, ap (λ (q : View). times k q.turns) t)))
            (at_snoc (set s.views id l) n u j e);
      }

  pub joins : (a : About) (id other : ℕ) (v w : View) → v.turns ≡ [] → w.turns ≡ [] → w.hold ≡ None → 0 < v.shares → Joins (Ruled {A = A} {F = F} told files a) id v other w (both v w) spent
  joins a id other v w idle idle' free share s r at ne at' = let b : View = both v w in let so = r.sound id v at in
      let was : get_elem? s.views other ≡ some w = sym (set_else s.views id other b ne) ∙ at' in let so' = r.sound other w was in
      let sums : (f : View → ℕ) → total f (set (set s.views id b) other spent) + f v + f w ≡ total f s.views + f b + f spent = λ f. omega (arith, total-set f s.views id v b at, total-set f (set s.views id b) other w spent at') in record {
        wide = r.wide;
        deep = r.deep;
        turns = λ k h. omega (arith, sums (has_turn k), r.turns k h, ap (times k) idle');
        free = r.free;
        taken = r.taken;
        held = λ k p h. omega (arith, sums (has_hold k), r.held k p h, weight_no k (λ _. 1) None (λ e. omega arith), weight_no k (λ _. 1) w.hold (λ e. omega (arith, e, ap at_of free)));
        unmounted = λ m h e. omega (arith, sums (has_unmounted m), r.unmounted m h e, count-append m v.unmounted w.unmounted);
        sound = λ j u e. ⊎_elim
            (λ t. subst (Sound a s.words) t.1 record { about = λ h. absurd (omega arith); noted = tt; one_region = omega arith; last = λ j p h. absurd (omega arith); tagged = λ h. absurd (omega arith); gone = λ m h. absurd (omega arith); spent = λ _. (refl, refl, refl, refl) })
            (λ t. ⊎_elim
            (λ z. subst (Sound a s.words) z.1 record {
              about = λ _. so.about share;
              noted = so.noted;
              one_region = so.one_region;
              last = so.last;
              tagged = so.tagged;
              gone = λ m h. dite (dec_le 1 (count_in m v.unmounted + count_in m v.gone)) (λ some-here. so.gone m some-here)
                  (λ none-here. so'.gone m (omega (arith, h, count-append m v.unmounted w.unmounted, count-append m v.gone w.gone)));
              spent = λ none. absurd (omega arith);
            })
            (λ z. r.sound j u z.1)
            (at_set s.views id j b u t.1))
            (at_set (set s.views id b) other j spent u e);
        all_shares = omega (arith, sums shares, r.all_shares);
        owned = λ x' k c f p e. omega (arith, sums (weigh k (by_hold x' f)), r.owned x' k c f p e, weight_no k (by_hold x' f) None (λ e'. omega arith), weight_no k (by_hold x' f) w.hold (λ e'. omega (arith, e', ap at_of free)));
        owned_out = λ x' j k u f p e has. let out : (i : ℕ) (q : View) → get_elem? s.views i ≡ some q → 0 < times k q.turns → total (weigh k (by_hold x' f)) (set (set s.views id b) other spent) ≡ by_tracker x' f q.cell.region.tracker =
            λ i q here has'. omega (arith, sums (weigh k (by_hold x' f)), r.owned_out x' i k q f p here has', weight_no k (by_hold x' f) None (λ e'. omega arith), weight_no k (by_hold x' f) w.hold (λ e'. omega (arith, e', ap at_of free))) in ⊎_elim
            (λ t. absurd (omega (arith, has, ap (λ (q : View). times k q.turns) t.1)))
            (λ t. ⊎_elim (λ z. absurd (omega (arith, has, ap (λ (q : View). times k q.turns) z.1, ap (times k) idle))) (λ z. out j u z.1 has) (at_set s.views id j b u t.1))
            (at_set (set s.views id b) other j spent u e);
      }

  pub is_policy : (w : ℕ) (m n : Sat) → Taken told files 0 w m n → (p : PolicyView) × Governs m.0.about p × (n ≡ (took_policy 0 w p m.0, (0, Policy p) ∷ m.1))
  is_policy w m n (Policy p, fits, few, mine, is) = (p, fits, is)
  is_policy w m n (Cell c, fits, few, mine, is) = absurd fits
  is_policy w m n (Away, fits, few, mine, is) = absurd fits

  pub is_cell : (k w : ℕ) (m n : Sat) → 0 < k → Taken told files k w m n → (c : CellView) × Suits told files m.0.about w c × Counted w c.metadata.region.tracker × (at_of m.0.hold ≡ k → (tag_of w ≡ tag_held m.0.hold) × HasHolds c.metadata.region.tracker m.0.hold) × (n ≡ (took_cell k w c m.0, (k, Cell c) ∷ m.1))
  is_cell zero w m n p t = absurd (omega arith)
  is_cell (suc k) w m n p (Policy q, fits, few, mine, is) = absurd fits
  is_cell (suc k) w m n p (Away, fits, few, mine, is) = absurd fits
  is_cell (suc k) w m n p (Cell c, fits, few, mine, is) = (c, fits, few p, (λ e. mine e p), is)

  -- a mount's word becomes x, and gone it stays
  mount_step : (a : About) (s : St) (r : Ruled told files a s) (k m x id : ℕ) (c : List (ℕ × Home A F)) (v w : View) → get_elem? s.views id ≡ some v → k ≡ last_place a + 1 + m → m < 4096 → (get_or s.words k 0 ≡ 2 → x ≡ 2) → 0 < v.shares
      → w.about ≡ v.about → w.shares ≡ v.shares → w.turns ≡ v.turns → w.hold ≡ v.hold → w.cell ≡ v.cell → w.last_region ≡ v.last_region → ((i : ℕ) → count_in i v.unmounted ≤ count_in i w.unmounted)
      → (x ≡ 2 → 0 < total (has_unmounted m) (set s.views id w)) → ((i : ℕ) → 0 < count_in i w.unmounted + count_in i w.gone → (0 < count_in i v.unmounted + count_in i v.gone) ⊎ ((i ≡ m) × (x ≡ 2)))
      → Ruled told files a (stepped s k x id c w keeps)
  mount_step a s r k m x id c v w at is inside-mounts once share about shares' turns hold cell last more known sees =
      let there : k < length s.words = omega (arith, r.wide) in let here : get_or (set s.words k x) k 0 ≡ x = get_or-set_same s.words k x 0 there in
      let else : (j : ℕ) → j ≢ k → get_or (set s.words k x) j 0 ≡ get_or s.words j 0 = λ j ne. get_or-set_other s.words k j x 0 ne in
      let low : (j : ℕ) → j ≤ last_place a → get_or (set s.words k x) j 0 ≡ get_or s.words j 0 = λ j h. else j (λ e. omega arith) in
      let stays : (i : ℕ) → get_or s.words (last_place a + 1 + i) 0 ≡ 2 → get_or (set s.words k x) (last_place a + 1 + i) 0 ≡ 2 = λ i e. dite (ℕ_discrete (last_place a + 1 + i) k)
      (λ same. ap (λ (n : ℕ). get_or (set s.words k x) n 0) same ∙ here ∙ once (ap (λ (n : ℕ). get_or s.words n 0) (sym same) ∙ e)) (λ ne. else (last_place a + 1 + i) ne ∙ e) in
      let noted : (ts : List (ℕ × ℕ)) → Noted (last_place a) s.words ts → Noted (last_place a) (set s.words k x) ts = noted_low (last_place a) k x s.words (omega arith) in
      let so = r.sound id v at in record {
        wide = length-set s.words k x ∙ r.wide;
        deep = r.deep;
        turns = λ j h. total_same (has_turn j) s.views id v w at (ap (times j) turns) ∙ r.turns j h ∙ ap (λ (n : ℕ). n % 2) (sym (low j h));
        free = λ j h e d. let z = r.free j h (ap (λ (n : ℕ). n % 2) (sym (low j h)) ∙ e) d in (z.0, z.1, subst (λ (n : ℕ). Fits told files a j n z.0) (sym (low j h)) z.2);
        taken = λ j h e. r.taken j h (ap (λ (n : ℕ). n % 2) (sym (low j h)) ∙ e);
        held = λ j p h. total_same (has_hold j) s.views id v w at (ap (weight j (λ _. 1)) hold) ∙ r.held j p h ∙ ap holds_of (sym (low j h));
        unmounted = λ i h e. dite (ℕ_discrete i m)
            (λ same. subst (λ (n : ℕ). 0 < total (has_unmounted n) (set s.views id w)) (sym same) (known (sym (ap (λ (n : ℕ). get_or (set s.words k x) n 0) (ap (λ (n : ℕ). last_place a + 1 + n) same ∙ sym is) ∙ here) ∙ e)))
            (λ ne. omega (arith, total-set (has_unmounted i) s.views id v w at, more i, r.unmounted i h (sym (else (last_place a + 1 + i) (λ z. ne (omega arith))) ∙ e)));
        sound = λ j u e. ⊎_elim
            (λ z. subst (Sound a (set s.words k x)) z.1 record {
              about = λ _. about ∙ so.about share;
              noted = subst (Noted (last_place a) (set s.words k x)) (sym turns) (noted v.turns so.noted);
              one_region = subst (λ (ts : List (ℕ × ℕ)). regions_in ts ≤ 1) (sym turns) so.one_region;
              last = λ j p h. last ∙ so.last j p (subst (λ (ts : List (ℕ × ℕ)). 0 < times j ts) turns h);
              tagged = λ h. let at' : at_of w.hold ≡ at_of v.hold = ap at_of hold in let g = so.tagged (subst (λ (n : ℕ). 0 < n) at' h) in
                  (subst (λ (n : ℕ). n ≤ last_place a) (sym at') g.0, ap (λ (n : ℕ). tag_of (get_or (set s.words k x) n 0)) at' ∙ ap tag_of (low (at_of v.hold) g.0) ∙ g.1 ∙ sym (ap tag_held hold));
              gone = λ i h. ⊎_elim (λ old. let g = so.gone i old in (g.0, stays i g.1))
                  (λ new. (subst (λ (n : ℕ). n < 4096) (sym new.0) inside-mounts, ap (λ (n : ℕ). get_or (set s.words k x) n 0) (ap (λ (n : ℕ). last_place a + 1 + n) new.0 ∙ sym is) ∙ here ∙ new.1)) (sees i h);
              spent = λ none. absurd (omega arith);
            })
            (λ z. let o = r.sound j u z.1 in record {
              about = o.about;
              noted = noted u.turns o.noted;
              one_region = o.one_region;
              last = o.last;
              tagged = λ h. let g = o.tagged h in (g.0, ap tag_of (low (at_of u.hold) g.0) ∙ g.1);
              gone = λ i h. let g = o.gone i h in (g.0, stays i g.1);
              spent = o.spent;
            })
            (at_set s.views id j w u e);
        all_shares = total_same shares s.views id v w at shares' ∙ r.all_shares;
        owned = λ x' j c' f p e. total_same (weigh j (by_hold x' f)) s.views id v w at (ap (weight j (by_hold x' f)) hold) ∙ r.owned x' j c' f p e;
        owned_out = λ x' i j u f p e has. total_same (weigh j (by_hold x' f)) s.views id v w at (ap (weight j (by_hold x' f)) hold) ∙ ⊎_elim
            (λ z. r.owned_out x' id j v f p at (subst (λ (n : ℕ). 0 < n) (ap (times j) (ap (λ (q : View). q.turns) (sym z.1) ∙ turns)) has) ∙ ap (λ (q : CellMetadata). by_tracker x' f q.region.tracker) (sym cell ∙ ap (λ (q : View). q.cell) z.1))
            (λ z. r.owned_out x' i j u f p z.1 has)
            (at_set s.views id i w u e);
      }

  pub loads_mount : (a : About) (slots id : ℕ) (m : Sat) (k i : ℕ) → k ≡ last_place a + 1 + i → i < 4096 → 0 < m.0.shares → Allows (Ruled told files a) slots id m k (λ n. n) (LooksMount (step slots k 0 0 none) m)
  loads_mount a slots id m k i is h share s r _ at _ = let x : ℕ = get_or s.words k 0 in let v : View = m.0 in let w : View = looked_mount k x v in let so = r.sound id v at in
      let place : mount_at k v ≡ i = omega (arith, ap last_place (so.about share)) in (
        w,
        keeps,
        tt,
        mount_step a s r k i x id m.1 v w at is h (λ e. e) share refl refl refl refl refl refl (λ j. omega arith)
            (λ e. subst (λ (n : ℕ). 0 < n) (sym (total_same (has_unmounted i) s.views id v w at refl)) (r.unmounted i h (ap (λ (n : ℕ). get_or s.words n 0) (sym is) ∙ e)))
            (λ j h'. dite (ℕ_discrete x 2)
            (λ gone-now. dite (ℕ_discrete j i) (λ same. inr (same, gone-now))
            (λ ne. inl (omega (arith, h', ap {B = ℕ} (λ b. count_in j (cond b (mount_at k v ∷ v.gone) v.gone)) (eq-eqb x 2 gone-now), no (mount_at k v) j (λ e. ne (sym e ∙ place))))))
            (λ not. inl (subst (λ b. 0 < count_in j v.unmounted + count_in j (cond b (mount_at k v ∷ v.gone) v.gone)) (ne_eqb x 2 not) h'))),
        refl,
      )

  pub starts_mount : (a : About) (slots id : ℕ) (m : Sat) (k i : ℕ) → k ≡ last_place a + 1 + i → i < 4096 → 0 < m.0.shares → Allows (Ruled told files a) slots id m k (λ n. either (eqb n 0) 1 n) (SetsLive (step slots k 0 1 none) m)
  starts_mount a slots id m k i is h share s r _ at _ = let x : ℕ = get_or s.words k 0 in let v : View = m.0 in (
    v,
    keeps,
    tt,
    exchanged x 0 1 (λ z. Ruled told files a (stepped s k z id m.1 v keeps))
        (λ new. mount_step a s r k i 1 id m.1 v v at is h (λ e. absurd (omega arith)) share refl refl refl refl refl refl (λ j. omega arith) (λ e. absurd (omega arith)) (λ j h'. inl h'))
        (λ old. mount_step a s r k i x id m.1 v v at is h (λ e. e) share refl refl refl refl refl refl (λ j. omega arith)
        (λ e. subst (λ (n : ℕ). 0 < n) (sym (total_same (has_unmounted i) s.views id v v at refl)) (r.unmounted i h (ap (λ (n : ℕ). get_or s.words n 0) (sym is) ∙ e))) (λ j h'. inl h')),
    refl,
  )

  pub ends_mount : (a : About) (slots id : ℕ) (m : Sat) (k i : ℕ) → k ≡ last_place a + 1 + i → i < 4096 → 0 < m.0.shares → Allows (Ruled told files a) slots id m k (λ _. 2) (λ _. SetsGone (step slots k 2 0 none) m 2)
  ends_mount a slots id m k i is h share s r _ at _ = let x : ℕ = get_or s.words k 0 in let v : View = m.0 in let w : View = ended_mount k v in let so = r.sound id v at in
      let place : mount_at k v ≡ i = omega (arith, ap last_place (so.about share)) in (
        w,
        keeps,
        tt,
        mount_step a s r k i 2 id m.1 v w at is h (λ _. refl) share refl refl refl refl refl refl (λ j. omega arith)
            (λ _. omega (arith, total-set (has_unmounted i) s.views id v w at, yes (mount_at k v) i place))
            (λ j h'. dite (ℕ_discrete j i) (λ same. inr (same, refl)) (λ ne. inl (omega (arith, h', no (mount_at k v) j (λ e. ne (sym e ∙ place)))))),
        refl,
      )

pub same_changes : (k w : ℕ) (h : Option Hold) → w % 2 ≡ 0 → (at_of h ≡ k → tag_of w ≡ tag_held h) → Changes k (w + 1) w h h
same_changes k w h even own = record { counted = λ p. let e : w / 2 ≡ (w + 1) / 2 = omega arith in ap (λ (n : ℕ). weight k (λ _. 1) h + n % 128) (sym e); elsewhere = λ j f p ne. refl; here = λ p e. own e; there = λ p ne. (refl, refl); tag = λ p q. let e : w / 256 ≡ (w + 1) / 256 = omega arith in e }

module _ (told : Bool) (files : ℕ → ℕ → List ℕ) (A F : Type 0) where
  pub suits_fit : (a : About) (k w : ℕ) (c : CellView) → 0 < k → Suits told files a w c → Fits {A = A} {F = F} told files a k w (Cell c)
  suits_fit a zero w c p s = absurd (omega arith)
  suits_fit a (suc k) w c p s = s

  pub gives_home : (a : About) (slots id : ℕ) (m m' : Me (Home A F) View) (k w new : ℕ) (y : Home A F) (h : Option Hold) → m' ≡ (m.0, (k, y) ∷ rest m.1) → k ≤ last_place a → w % 2 ≡ 0 → new % 2 ≡ 0 → OnTop k w m.0 → 0 < m.0.shares
      → Fits told files a k new y → Changes k (w + 1) new m.0.hold h → Settles k m.0 h y → Allows (Ruled told files a) slots id m' k (λ _. new) (λ _. Gives h (step slots k new 0 none) m' new)
  gives_home a slots id m m' k w new y h is small even even' top share fits ch settles = let old : w + 1 ≡ 2 * (w / 2) + 1 = omega arith in
      subst (λ (z : Me (Home A F) View). Allows (Ruled told files a) slots id z k (λ _. new) (λ _. Gives h (step slots k new 0 none) z new)) (sym is)
      (gives_turn told files A F a slots id (m.0, (k, y) ∷ rest m.1) k new (w / 2) (popped m.0.turns) y h small even' top refl share fits (subst (λ (n : ℕ). Changes k n new m.0.hold h) old ch) settles)

  pub gave_home : (m m' n : Me (Home A F) View) (k new slots : ℕ) (y : Home A F) (h : Option Hold) → m' ≡ (m.0, (k, y) ∷ rest m.1) → Gives h (step slots k new 0 none) m' new n → n ≡ (gave h y m.0, rest m.1)
  gave_home m m' n k new slots y h is g = let l : (k, g.0) ∷ rest m'.1 ≡ (k, y) ∷ rest m.1 = sym g.1 ∙ ap (λ (z : Me (Home A F) View). z.1) is in
      let same : g.0 ≡ y = ap (value_on y) l in g.2 ∙ (λ i. (gave h (same i) ((is i).0), rest ((is i).1)))
    where
      value_on : Home A F → List (ℕ × Home A F) → Home A F
      value_on d [] = d
      value_on d (x ∷ xs) = x.1

  pub learns : (a : About) (slots id : ℕ) (m : Me (Home A F) View) → Allows (Ruled {A = A} {F = F} told files a) slots id m 0 (λ n. n) (Learns (step slots 0 0 0 none) m)
  learns a slots id m s r _ at _ = let v : View = m.0 in let so = r.sound id v at in let x : ℕ = get_or s.words 0 0 in (
    looked 0 x v,
    keeps,
    tt,
    looks_on told files A F a s r 0 id m.1 v (looked 0 x v) at record { about = refl; shares = refl; hold = refl; unmounted = refl; gone = refl } refl refl refl,
    (
      refl,
      (let le = term_le shares s.views id v at in let all = r.all_shares in omega arith),
      (λ whole i p. let g = so.gone i (omega arith) in let some-view = r.unmounted i g.0 g.1 in
          let alone = total_alone (has_unmounted i) s.views id v at (λ j u ne e. let two = terms_le shares s.views id j v u ne at e in
          let none-left : u.shares ≡ 0 = (let all = r.all_shares in omega arith) in ap (count_in i) (((r.sound j u e).spent none-left).2)) in
          omega (arith, some-view, alone)),
    ),
  )
