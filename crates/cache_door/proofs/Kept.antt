-- What each call leaves of a core is kept.
use Rattle.std.proofs.Common.{arith, ◌≡◌, ◌<◌, ℕ, Bool, true, List, ◌++◌, refl, sym, subst, ◌∙◌, ap, inl, inr, length, set, Option, None}
use Rattle.std.specs.Prelude.{IsTrue, slice_set, if◌then◌else◌}
use Rattle.std.proofs.lemmas.Bool.{cases_eq, cases_Bool, false≢true}
use Rattle.std.proofs.lemmas.List.{get_or-set_same, get_or-set_other, length-set, length-map}
use Rattle.std.proofs.lemmas.List.Folds.{list_all_at}
use Rattle.region_ranges.specs.declared.keys.Config.{Config}
use Rattle.cache_policy.specs.Policy.{PolicyView, tag_at, clear, regions_from, is_of}
use Rattle.cache_policy.specs.Ageing.{decay}
use Rattle.cache_policy.specs.Kept as policy
use Rattle.region_cell.specs.Cells as cells
use Rattle.region_cell.specs.Cells.{CellView, FrameStays, new_cell}
use Rattle.cache_door.specs.declared.hold.Hold.{Hold}
use Rattle.cache_door.specs.declared.work.Work.{Work}
use Rattle.cache_door.specs.Machine.{State, with_hold, settled, settled_by}
use Rattle.cache_door.specs.Good.{Good, GoodCell}
use Rattle.cache_door.specs.Counters.{CountersRisen, counters_on, counters_cleared, counters_settled}
use Rattle.cache_door.specs.Cores.{CoreView, view_at, all_tell, cell_of, state_of, no_frame, IsKept, Later}
use Rattle.cache_door.proofs.Keeps.{Changes, keeps}
use Rattle.cache_door.proofs.Policies.{PolicyChanges, policy_keeps, decay_changes, clear_changes, settled_changes}
use Rattle.cache_door.proofs.Frames.{state_set}

-- ---- the policy alone changes

pub policy_kept : {tells : Bool} {files : ℕ → ℕ → List ℕ} (v : CoreView) (p : PolicyView) (w : Work) → IsKept tells files v → PolicyChanges (state_of v) p → IsKept tells files (record v { policy = p; work = w })
policy_kept v p w kept now = record { good = policy_keeps (state_of v) p kept.good now; sized = kept.sized }

pub decay_kept : {tells : Bool} {files : ℕ → ℕ → List ℕ} (v : CoreView) (now : ℕ) (p : PolicyView) (w : Work) → p ≡ decay now v.policy → policy.IsGood p → IsKept tells files v → IsKept tells files (record v { policy = p; work = w })
decay_kept {tells} {files} v now p w e good kept =
    let P : PolicyView → Type 0 = λ q. IsKept tells files (record v { policy = q; work = w }) in
    let Q : PolicyView → Type 0 = λ q. policy.IsGood q in
    subst P (sym e) (policy_kept v (decay now v.policy) w kept (decay_changes (state_of v) now kept.good (subst Q e good)))

-- the policy is cleared, and what nobody holds is settled
pub clear_kept : {tells : Bool} {files : ℕ → ℕ → List ℕ} (v : CoreView) (m : ℕ) (p q : PolicyView) (w : Work)
    → p ≡ clear m v.policy → policy.IsGood p → ((j : ℕ) → tag_at p j ≡ (if is_of m (tag_at v.policy j) then None else tag_at v.policy j)) → p.leaving ≡ v.policy.leaving ++ regions_from 0 (is_of m) v.policy.tags
    → q ≡ settled_by v.holds p → policy.IsGood q
    → IsKept tells files v → IsKept tells files (record v { policy = q; work = w })
clear_kept {tells} {files} v m p q w e good tags leaving f settled_good kept =
    let P : PolicyView → Type 0 = λ x. policy.IsGood x × ((j : ℕ) → tag_at x j ≡ (if is_of m (tag_at v.policy j) then None else tag_at v.policy j)) × (x.leaving ≡ v.policy.leaving ++ regions_from 0 (is_of m) v.policy.tags) in
    let a = subst P e (good, tags, leaving) in
    let cleared = policy_kept v (clear m v.policy) v.work kept (clear_changes (state_of v) m kept.good a.0 a.1 a.2) in
    let u : CoreView = record v { policy = clear m v.policy } in
    let Q : PolicyView → Type 0 = λ x. IsKept tells files (record v { policy = x; work = w }) in
    let R : PolicyView → Type 0 = λ x. policy.IsGood x in
    let g : q ≡ settled_by v.holds (clear m v.policy) = f ∙ ap (λ x. settled_by v.holds x) e in
    subst Q (sym g) (policy_kept u (settled (state_of u)) w cleared (settled_changes (state_of u) cleared.good (subst R g settled_good)))

-- ---- a mount is marked

pub gone_kept : {tells : Bool} {files : ℕ → ℕ → List ℕ} (v : CoreView) (mount : ℕ) → IsKept tells files v → IsKept tells files (record v { gone = slice_set v.gone mount true })
gone_kept v mount kept = let good = kept.good in record {
  good = record {
    config = good.config;
    counts = record { cells = good.counts.cells; tags = good.counts.tags; lists = good.counts.lists; gone = length-set v.gone mount true ∙ good.counts.gone; delta = good.counts.delta; actors = good.counts.actors };
    policy = good.policy;
    mapped = good.mapped;
    leaving = good.leaving;
    holds = λ a h e. let f = good.holds a h e in record { region = f.region; tag = f.tag; key = f.key; busy = f.busy };
    tickets = good.tickets;
    gaps = good.gaps;
    cells = good.cells;
  };
  sized = kept.sized;
}

-- ---- a cell and a hold change

-- a good cell is one of a good state
pub good_cell : {tells : Bool} {files : ℕ → ℕ → List ℕ} (told : Bool) (config : Config) (c : CellView) → cells.IsGood tells files c → c.metadata.range ≡ config.range → c.metadata.frame.size ≡ config.region
    → (IsTrue told → IsTrue c.metadata.frame.tells) → GoodCell tells told files config (cell_of told c)
good_cell {tells} {files} told config c good range size tell = record {
  tracker = good.tracker;
  ranged = let P : ℕ → Type 0 = λ n. cells.IsRanged n c.metadata.region in subst P range good.cell.ranged;
  bytes = λ u. rw u (good.bytes (tell u) ∙ size);
  filled = λ t u. rw u (let P : ℕ → Type 0 = λ n. cells.IsFilled files n c.metadata.region c.bytes in subst P size (good.cell.filled t (tell u)));
  whole = λ t. let P : ℕ → Type 0 = λ n. cells.IsWhole files n c.metadata.region in subst P size (good.cell.whole t);
}

module _ {tells : Bool} {files : ℕ → ℕ → List ℕ} (v : CoreView) (r : ℕ) (c : CellView) (kept : IsKept tells files v) (inside : r < length v.cells)
    (frame : FrameStays (view_at v.cells r).metadata.frame c.metadata.frame) (range : c.metadata.range ≡ (view_at v.cells r).metadata.range) where
  pub one_tells : IsTrue (all_tell v.cells) → IsTrue c.metadata.frame.tells
  one_tells h = elim (cases_Bool (view_at v.cells r).metadata.frame.tells) [
    | inl t ↦ frame.tells ∙ t
    | inr f ↦ absurd (false≢true (sym (list_all_at (λ (x : CellView). x.metadata.frame.tells) v.cells r (new_cell no_frame 0) inside f) ∙ h))
  ]

  pub set_sized : (k : ℕ) → k < length (set v.cells r c) → ((view_at (set v.cells r c) k).metadata.range ≡ v.config.range) × ((view_at (set v.cells r c) k).metadata.frame.size ≡ v.config.region)
  set_sized k h = elim (cases_eq r k) [
    | inl e ↦
        let P : ℕ → Type 0 = λ j. ((view_at (set v.cells r c) j).metadata.range ≡ v.config.range) × ((view_at (set v.cells r c) j).metadata.frame.size ≡ v.config.region) in
        let s = kept.sized r inside in
        let w = get_or-set_same v.cells r c (new_cell no_frame 0) inside in
        subst P e (ap (λ (x : CellView). x.metadata.range) w ∙ range ∙ s.0, ap (λ (x : CellView). x.metadata.frame.size) w ∙ frame.size ∙ s.1)
    | inr n ↦
        let s = kept.sized k (let l = length-set v.cells r c in omega (arith, l, h)) in
        let w = get_or-set_other v.cells r k c (new_cell no_frame 0) (λ e. n (sym e)) in
        (ap (λ (x : CellView). x.metadata.range) w ∙ s.0, ap (λ (x : CellView). x.metadata.frame.size) w ∙ s.1)
  ]

  pub new_good : cells.IsGood tells files c → GoodCell tells (all_tell v.cells) files v.config (cell_of (all_tell v.cells) c)
  new_good good = let s = kept.sized r inside in good_cell (all_tell v.cells) v.config c good (range ∙ s.0) (frame.size ∙ s.1) one_tells

  pub inside_state : r < length (state_of v).cells
  inside_state = let l = length-map v.cells (cell_of (all_tell v.cells)) in omega (arith, l, inside)

  pub cell_kept : (a : ℕ) (o : Option Hold) (w : Work) → Changes tells files (state_of v) a r (cell_of (all_tell v.cells) c) o
      → IsKept tells files (record v { cells = set v.cells r c; holds = set v.holds a o; work = w })
  cell_kept a o w now = record {
    good =
        let P : State → Type 0 = λ s. Good tells files (with_hold a o s) in
        subst P (sym (state_set v r c inside frame)) (keeps (state_of v) a r (cell_of (all_tell v.cells) c) o kept.good now);
    sized = set_sized;
  }

-- ---- the counters after a clear

pub cleared_later : (v u : CoreView) (m : ℕ) (p q : PolicyView) (g : List Bool) (w : Work) → v ≡ u → p ≡ clear m v.policy → q ≡ settled_by v.holds p → Later u (record v { policy = q; gone = g; work = w })
cleared_later v u m p q g w is e f =
    let P : CoreView → Type 0 = λ x. Later x (record v { policy = q; gone = g; work = w }) in
    let Q : PolicyView → Type 0 = λ x. CountersRisen v.policy x in
    let first : CountersRisen v.policy p = subst Q (sym e) (counters_cleared m v.policy) in
    let second : CountersRisen v.policy q = subst Q (sym f) (counters_on v.policy p (settled_by v.holds p) first (counters_settled v.holds p)) in
    subst P is (record { config = refl; actors = refl; tell = refl; steady = refl; faults = omega arith; stands = λ t. refl; counters = second })
