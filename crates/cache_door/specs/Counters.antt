-- The policy's counters do not fall.
use Rattle.std.proofs.Common.{arith, ◌<◌, ◌≤◌, ◌+◌, ◌^◌, ℕ, List, [], ◌∷◌, Option, Some, None, inl, inr, min, length}
use Rattle.std.specs.Prelude.{◌==◌, ◌&&◌, nat_lt}
use Rattle.std.proofs.lemmas.Bool.{cases_Bool}
use Rattle.std.proofs.Math.Nat.{le_refl, le_trans}
use Rattle.freq_lists.specs.Lists.{head, list_of}
use Rattle.cache_policy.specs.Policy.{PolicyView, rise, leave, settle, settle_all, leave_all, clear, regions_from, is_of}
use Rattle.cache_policy.specs.Ageing.{touch, touch_at, map_front, decay, waited, candidates}
use Rattle.cache_door.specs.declared.hold.Hold.{Hold}
use Rattle.cache_door.specs.Machine.{unheld_by, settled_by, evicted, room_by}

-- a counter that stops at the greatest u64 did not fall
abbrev pub Risen : ℕ → ℕ → Type 0
Risen old new = old < 2 ^ 64 → (old ≤ new) × (new < 2 ^ 64)

pub record CountersRisen (p q : PolicyView) : Type 0 where
  pub evictions : Risen p.evictions q.evictions
  pub promotions : Risen p.promotions q.promotions
  pub demotions : Risen p.demotions q.demotions

pub risen_same : (n : ℕ) → Risen n n
risen_same n h = (le_refl n, h)

pub risen_by : (n k : ℕ) → Risen n (rise n k)
risen_by n k h =
    let small : n < 18446744073709551616 = h in
    let up : n ≤ min (n + k) 18446744073709551615 = omega (arith, small) in
    let below : min (n + k) 18446744073709551615 < 18446744073709551616 = omega arith in
    (up, below)

pub risen_on : (a b c : ℕ) → Risen a b → Risen b c → Risen a c
risen_on a b c h k s = let first = h s in let then = k first.1 in (le_trans first.0 then.0, then.1)

pub counters_same : (p : PolicyView) → CountersRisen p p
counters_same p = record { evictions = risen_same p.evictions; promotions = risen_same p.promotions; demotions = risen_same p.demotions }

pub counters_on : (p q r : PolicyView) → CountersRisen p q → CountersRisen q r → CountersRisen p r
counters_on p q r h k = record {
  evictions = risen_on p.evictions q.evictions r.evictions h.evictions k.evictions;
  promotions = risen_on p.promotions q.promotions r.promotions h.promotions k.promotions;
  demotions = risen_on p.demotions q.demotions r.demotions h.demotions k.demotions;
}

touched_at : (o : Option ℕ) (r now : ℕ) (p : PolicyView) → CountersRisen p (touch_at o r now p)
touched_at None r now p = counters_same p
touched_at (Some f) r now p = elim (cases_Bool (waited 1 r now p && nat_lt (f + 1) (length p.lists))) [
  | inl t ↦ rw t (record { evictions = risen_same p.evictions; promotions = risen_by p.promotions 1; demotions = risen_same p.demotions })
  | inr n ↦ rw n (counters_same p)
]

pub counters_touched : (r now : ℕ) (p : PolicyView) → CountersRisen p (touch r now p)
counters_touched r now p = touched_at (list_of r p.lists) r now p

pub counters_mapped : (r tag now : ℕ) (p : PolicyView) → CountersRisen p (map_front r tag now p)
counters_mapped r tag now p = record { evictions = risen_same p.evictions; promotions = risen_same p.promotions; demotions = risen_same p.demotions }

pub counters_decayed : (now : ℕ) (p : PolicyView) → CountersRisen p (decay now p)
counters_decayed now p = record { evictions = risen_same p.evictions; promotions = risen_same p.promotions; demotions = risen_by p.demotions _ }

settled_all : (rs : List ℕ) (p : PolicyView) → CountersRisen p (settle_all rs p)
settled_all [] p = counters_same p
settled_all (r ∷ rs) p = let k = settled_all rs (settle r p) in record { evictions = k.evictions; promotions = k.promotions; demotions = k.demotions }

pub counters_settled : (holds : List (Option Hold)) (p : PolicyView) → CountersRisen p (settled_by holds p)
counters_settled holds p = settled_all (unheld_by holds p.leaving) p

left_all : (rs : List ℕ) (p : PolicyView) → CountersRisen p (leave_all rs p)
left_all [] p = counters_same p
left_all (r ∷ rs) p = let k = left_all rs (leave r p) in record { evictions = k.evictions; promotions = k.promotions; demotions = k.demotions }

pub counters_cleared : (m : ℕ) (p : PolicyView) → CountersRisen p (clear m p)
counters_cleared m p = left_all (regions_from 0 (is_of m) p.tags) p

evicted_one : (o : Option ℕ) (p : PolicyView) → CountersRisen p (evicted o p)
evicted_one None p = counters_same p
evicted_one (Some r) p = record { evictions = risen_by p.evictions 1; promotions = risen_same p.promotions; demotions = risen_same p.demotions }

pub counters_roomed : (holds : List (Option Hold)) (p : PolicyView) → CountersRisen p (room_by holds p)
counters_roomed holds p =
    let s = settled_by holds p in
    let first = counters_settled holds p in
    elim (cases_Bool (0 == length s.free)) [
      | inl t ↦ rw t (counters_on p s (evicted (head (unheld_by holds (candidates s))) s) first (evicted_one (head (unheld_by holds (candidates s))) s))
      | inr n ↦ rw n first
    ]
