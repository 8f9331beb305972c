-- The `stats` replies of a run, block after block.
use Rattle.std.proofs.Common.{◌≡◌, ◌<◌, ◌≤◌, ◌^◌, List, [], ◌∷◌, ◌++◌, sym, subst, refl, inl, inr, arith}
use Rattle.std.proofs.Math.Nat.{le_refl, le_trans}
use Rattle.std.proofs.lemmas.List.{append_assoc, append-nil}
use Rattle.cache_policy.specs.Policy.{PolicyView}
use Rattle.cache_door.specs.Cores.{CoreView, Later}
use Rattle.mount_script.specs.declared.reply.Reply.{Reply}
use Rattle.mount_script.specs.declared.reply.Reply.TheVariants as reply
use Rattle.script_run.specs.declared.sums.Sums.{Sums}
use Rattle.script_run.specs.Counters.{Counters, NotBelow, CoreNumbers, numbers_of, no_counts, StatsRise, StatsBelow, LastStats}
use Rattle.script_run.specs.Blocks.{IsNew, counters_of, stats_of, SumsLater, NoStats, BlockStats, StatsFit}

not_below_same : (c : Counters) → NotBelow c c
not_below_same c = record { evictions = le_refl c.evictions; promotions = le_refl c.promotions; demotions = le_refl c.demotions; fetched = le_refl c.fetched; direct = le_refl c.direct }

not_below_on : (a b c : Counters) → NotBelow a b → NotBelow b c → NotBelow a c
not_below_on a b c h k = record {
  evictions = le_trans h.evictions k.evictions;
  promotions = le_trans h.promotions k.promotions;
  demotions = le_trans h.demotions k.demotions;
  fetched = le_trans h.fetched k.fetched;
  direct = le_trans h.direct k.direct;
}

-- from lower counters on
lower : (a b : Counters) (xs : List Reply) → NotBelow a b → StatsRise b xs → StatsRise a xs
lower a b [] h k = tt {0}
lower a b (reply.Stats free listed leaving evictions promotions demotions fetched direct ∷ xs) h k =
    (not_below_on a b (record { evictions = evictions; promotions = promotions; demotions = demotions; fetched = fetched; direct = direct }) h k.0, k.1)
lower a b (x ∷ xs) h k = lower a b xs h k

-- replies that are none
skip : (c : Counters) (xs more : List Reply) → NoStats xs → StatsRise c more → StatsRise c (xs ++ more)
skip c [] more h k = k
skip c (reply.Stats free listed leaving evictions promotions demotions fetched direct ∷ xs) more h k = absurd h
skip c (x ∷ xs) more h k = skip c xs more h k

none_below : (e : CoreNumbers) (xs : List Reply) → NoStats xs → StatsBelow e xs
none_below e [] h = tt {0}
none_below e (reply.Stats free listed leaving evictions promotions demotions fetched direct ∷ xs) h = absurd h
none_below e (x ∷ xs) h = none_below e xs h

below_more : (e : CoreNumbers) (xs ys : List Reply) → StatsBelow e xs → StatsBelow e ys → StatsBelow e (xs ++ ys)
below_more e [] ys h k = k
below_more e (reply.Stats free listed leaving evictions promotions demotions fetched direct ∷ xs) ys h k = (h.0, h.1, h.2, below_more e xs ys h.3 k)
below_more e (x ∷ xs) ys h k = below_more e xs ys h k

raise : (d e : CoreNumbers) (xs : List Reply) → d.evictions ≤ e.evictions → d.promotions ≤ e.promotions → d.demotions ≤ e.demotions → StatsBelow d xs → StatsBelow e xs
raise d e [] f g h k = tt {0}
raise d e (reply.Stats free listed leaving evictions promotions demotions fetched direct ∷ xs) f g h k = (le_trans k.0 f, le_trans k.1 g, le_trans k.2 h, raise d e xs f g h k.3)
raise d e (x ∷ xs) f g h k = raise d e xs f g h k

none_last : (e : CoreNumbers) (xs : List Reply) → NoStats xs → LastStats e xs
none_last e [] h = tt {0}
none_last e (reply.Stats free listed leaving evictions promotions demotions fetched direct ∷ xs) h = absurd h
none_last e (reply.Mounted files docs ∷ xs) h = none_last e xs h
none_last e (reply.Unmounted ∷ xs) h = none_last e xs h
none_last e (reply.Cleared ∷ xs) h = none_last e xs h
none_last e (reply.Decayed ∷ xs) h = none_last e xs h
none_last e (reply.Hits total shown ∷ xs) h = none_last e xs h
none_last e (reply.Fields fields ∷ xs) h = none_last e xs h
none_last e (reply.Bytes bytes ∷ xs) h = none_last e xs h
none_last e (reply.Refused text ∷ xs) h = none_last e xs h
none_last e (reply.Fault ∷ xs) h = none_last e xs h
none_last e (reply.Gone ∷ xs) h = none_last e xs h
none_last e (reply.NoMemory ∷ xs) h = none_last e xs h

last_cons : (e : CoreNumbers) (x y : Reply) (ys : List Reply) → LastStats e (y ∷ ys) → LastStats e (x ∷ y ∷ ys)
last_cons e (reply.Stats free listed leaving evictions promotions demotions fetched direct) y ys h = h
last_cons e (reply.Mounted files docs) y ys h = h
last_cons e reply.Unmounted y ys h = h
last_cons e reply.Cleared y ys h = h
last_cons e reply.Decayed y ys h = h
last_cons e (reply.Hits total shown) y ys h = h
last_cons e (reply.Fields fields) y ys h = h
last_cons e (reply.Bytes bytes) y ys h = h
last_cons e (reply.Refused text) y ys h = h
last_cons e reply.Fault y ys h = h
last_cons e reply.Gone y ys h = h
last_cons e reply.NoMemory y ys h = h

last_front : (e : CoreNumbers) (rs : List Reply) (x : Reply) (xs : List Reply) → LastStats e (x ∷ xs) → LastStats e (rs ++ x ∷ xs)
last_front e [] x xs h = h
last_front e (r ∷ []) x xs h = last_cons e r x xs h
last_front e (r ∷ q ∷ rs) x xs h = last_cons e r q (rs ++ x ∷ xs) (last_front e (q ∷ rs) x xs h)

-- ---- a block

fit_none : (p q : PolicyView) (s t : Sums) (rs : List Reply) (x : Reply) (xs : List Reply) → StatsFit p s rs → NotBelow (counters_of p s) (counters_of q t) → NoStats (x ∷ xs) → StatsFit q t (rs ++ x ∷ xs)
fit_none p q s t rs x xs f later h = record {
  on = λ more k. subst (StatsRise no_counts) (sym (append_assoc rs (x ∷ xs) more)) (f.on ((x ∷ xs) ++ more) (skip (counters_of p s) (x ∷ xs) more h (lower (counters_of p s) (counters_of q t) more later k)));
  below = below_more (numbers_of q) rs (x ∷ xs) (raise (numbers_of p) (numbers_of q) rs later.evictions later.promotions later.demotions f.below) (none_below (numbers_of q) (x ∷ xs) h);
  last = last_front (numbers_of q) rs x xs (none_last (numbers_of q) (x ∷ xs) h);
}

fit_stats : (p : PolicyView) (s : Sums) (rs : List Reply) → StatsFit p s rs → StatsFit p s (rs ++ stats_of p s ∷ [])
fit_stats p s rs f = record {
  on = λ more k. subst (StatsRise no_counts) (sym (append_assoc rs (stats_of p s ∷ []) more)) (f.on (stats_of p s ∷ more) (not_below_same (counters_of p s), k));
  below = below_more (numbers_of p) rs (stats_of p s ∷ []) f.below (le_refl p.evictions, le_refl p.promotions, le_refl p.demotions, tt {0});
  last = last_front (numbers_of p) rs (stats_of p s) [] refl;
}

fit_block : (v w : CoreView) (s t : Sums) (rs : List Reply) (x : Reply) (xs : List Reply) → StatsFit v.policy s rs → NotBelow (counters_of v.policy s) (counters_of w.policy t) → BlockStats v w s t (x ∷ xs)
    → StatsFit w.policy t (rs ++ x ∷ xs)
fit_block v w s t rs x xs f later (inl h) = fit_none v.policy w.policy s t rs x xs f later h
fit_block v w s t rs x xs f later (inr h) =
    let P : List Reply → Type 0 = λ ys. StatsFit w.policy t (rs ++ ys) in
    let Q : CoreView → Type 0 = λ y. StatsFit y.policy t (rs ++ stats_of v.policy s ∷ []) in
    let R : Sums → Type 0 = λ y. StatsFit v.policy y (rs ++ stats_of v.policy s ∷ []) in
    subst P (sym h.0) (subst Q (sym h.1) (subst R (sym h.2) (fit_stats v.policy s rs f)))

pub fit_more : (v w : CoreView) (s t : Sums) (rs xs : List Reply) → StatsFit v.policy s rs → NotBelow (counters_of v.policy s) (counters_of w.policy t) → BlockStats v w s t xs → (xs ≡ [] → ⊥)
    → StatsFit w.policy t (rs ++ xs)
fit_more v w s t rs [] f later h some = absurd (some refl)
fit_more v w s t rs (x ∷ xs) f later h some = fit_block v w s t rs x xs f later h

-- the counters of a core that was new rise
pub counters_rise : (u v w : CoreView) (s t : Sums) → IsNew u → Later u v → Later v w → SumsLater s t → NotBelow (counters_of v.policy s) (counters_of w.policy t)
counters_rise u v w s t new before later sums =
    let e : v.policy.evictions < 2 ^ 64 = (before.counters.evictions (omega (arith, new.evictions))).1 in
    let p : v.policy.promotions < 2 ^ 64 = (before.counters.promotions (omega (arith, new.promotions))).1 in
    let d : v.policy.demotions < 2 ^ 64 = (before.counters.demotions (omega (arith, new.demotions))).1 in
    record {
      evictions = (later.counters.evictions e).0;
      promotions = (later.counters.promotions p).0;
      demotions = (later.counters.demotions d).0;
      fetched = sums.fetched;
      direct = sums.direct;
    }

pub fit_new : (v : CoreView) (s : Sums) → s.fetched ≡ 0 → s.direct ≡ 0 → IsNew v → StatsFit v.policy s []
fit_new v s f d new = record {
  on = λ more k. lower no_counts (counters_of v.policy s) more (record { evictions = omega arith; promotions = omega arith; demotions = omega arith; fetched = omega arith; direct = omega arith }) k;
  below = tt {0};
  last = tt {0};
}

pub fit_rises : (p : PolicyView) (s : Sums) (rs : List Reply) → StatsFit p s rs → StatsRise no_counts rs
fit_rises p s rs f = subst (StatsRise no_counts) (append-nil rs) (f.on [] (tt {0}))
