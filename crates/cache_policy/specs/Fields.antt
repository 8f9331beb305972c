-- The policy that the fields hold, and what is true of them.
use Rattle.std.specs.Prelude.{◌≡◌, ◌≤◌, length, vec_capacity}
use Rattle.cache_policy.specs.declared.policy.Policy.TheInside.{Inside}
use Rattle.cache_policy.specs.Policy.{PolicyView}
use Rattle.cache_policy.specs.Kept.{IsGood}
use Rattle.cache_policy.specs.Keyed.{IsIndex}

abbrev pub view_of : Inside → PolicyView
view_of p = record {
  free = p.free.items;
  lists = p.lists.lists;
  tags = p.tags.items;
  last_accesses = p.last_accesses.items;
  leaving = p.leaving.items;
  evictions = p.evictions;
  promotions = p.promotions;
  demotions = p.demotions;
  min_delta = p.min_delta;
}

-- the free list and the leaving list have room for all regions
pub record IsKept (p : Inside) : Type 0 where
  pub good : IsGood (view_of p)
  pub nodes : p.lists.nodes ≡ length p.tags.items
  pub count : length p.lists.lists ≡ p.max_freq
  pub free : length p.tags.items ≤ vec_capacity p.free
  pub leaving : length p.tags.items ≤ vec_capacity p.leaving
  pub keys : IsIndex p.keys p.tags.items
