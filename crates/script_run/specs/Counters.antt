-- The numbers of `stats` replies over a run with one worker.
use Rattle.std.specs.Prelude.{ℕ, ◌≡◌, ◌≤◌, List, [], ◌∷◌, ◌++◌, length}
use Rattle.cache_policy.specs.Policy.{PolicyView, mapped_len}
use Rattle.mount_script.specs.declared.reply.Reply.{Reply}
use Rattle.mount_script.specs.declared.reply.Reply.TheVariants as reply

-- the replies of all blocks, in order
abbrev pub all_replies : List (List Reply) → List Reply
all_replies [] = []
all_replies (xs ∷ xss) = xs ++ all_replies xss

-- evictions, promotions, demotions, and the bytes fetched and read directly
pub record Counters : Type 0 where
  pub evictions : ℕ
  pub promotions : ℕ
  pub demotions : ℕ
  pub fetched : ℕ
  pub direct : ℕ

abbrev pub no_counts : Counters
no_counts = record { evictions = 0; promotions = 0; demotions = 0; fetched = 0; direct = 0 }

pub record NotBelow (before now : Counters) : Type 0 where
  pub evictions : before.evictions ≤ now.evictions
  pub promotions : before.promotions ≤ now.promotions
  pub demotions : before.demotions ≤ now.demotions
  pub fetched : before.fetched ≤ now.fetched
  pub direct : before.direct ≤ now.direct

-- no counter falls from one `stats` reply to the next
abbrev pub StatsRise : Counters → List Reply → Type 0
StatsRise last [] = Unit {0}
StatsRise last (reply.Stats free listed leaving evictions promotions demotions fetched direct ∷ xs) =
    let now : Counters = record { evictions = evictions; promotions = promotions; demotions = demotions; fetched = fetched; direct = direct } in
    NotBelow last now × StatsRise now xs
StatsRise last (x ∷ xs) = StatsRise last xs

-- the numbers of a core
pub record CoreNumbers : Type 0 where
  pub free : ℕ
  pub listed : ℕ
  pub leaving : ℕ
  pub evictions : ℕ
  pub promotions : ℕ
  pub demotions : ℕ

abbrev pub numbers_of : PolicyView → CoreNumbers
numbers_of p = record { free = length p.free; listed = mapped_len p; leaving = length p.leaving; evictions = p.evictions; promotions = p.promotions; demotions = p.demotions }

-- no reply's counters pass those of the core at the end
abbrev pub StatsBelow : CoreNumbers → List Reply → Type 0
StatsBelow end [] = Unit {0}
StatsBelow end (reply.Stats free listed leaving evictions promotions demotions fetched direct ∷ xs) =
    (evictions ≤ end.evictions) × (promotions ≤ end.promotions) × (demotions ≤ end.demotions) × StatsBelow end xs
StatsBelow end (x ∷ xs) = StatsBelow end xs

-- a `stats` reply that is the last one has the core's numbers at the end
abbrev pub LastStats : CoreNumbers → List Reply → Type 0
LastStats end [] = Unit {0}
LastStats end (reply.Stats free listed leaving evictions promotions demotions fetched direct ∷ []) =
    (record { free = free; listed = listed; leaving = leaving; evictions = evictions; promotions = promotions; demotions = demotions }) ≡ end
LastStats end (x ∷ xs) = LastStats end xs
