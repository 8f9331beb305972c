-- A table of keys: its places, what a search meets, and what is true of every table.
use Rattle.std.specs.Prelude.{◌≡◌, ◌<◌, ◌≤◌, ◌+◌, ◌-◌, ◌*◌, ◌/◌, ◌%◌, ◌==◌, ℕ, Bool, nat_le, nat_lt, List, [], ◌∷◌, length, filter, slice_get, Option, Some, None, is_some, IsSome, option_and_then, if◌then◌else◌}
use Rattle.std.specs.Int.{IsNextPowerOfTwo}
use Rattle.key_table.specs.declared.places.Entry.{Entry}

-- the places, each free or with an entry, and for how many keys there is room
pub record TableView : Type 0 where
  pub slots : List (Option Entry)
  pub most : ℕ

-- ---- what the calls tell

-- the region of the key
abbrev pub region_in : ℕ → List (Option Entry) → Option ℕ
region_in key [] = None
region_in key (None ∷ xs) = region_in key xs
region_in key (Some e ∷ xs) = if e.key == key then Some e.region else region_in key xs

abbrev pub keys_in : List (Option Entry) → ℕ
keys_in slots = length (filter is_some slots)

abbrev pub region_of : ℕ → TableView → Option ℕ
region_of key t = region_in key t.slots

abbrev pub keys_len : TableView → ℕ
keys_len t = keys_in t.slots

-- ---- places

abbrev pub first_place : ℕ → ℕ → ℕ
first_place key size = key * 11400714819323198485 % 18446744073709551616 / 4294967296 % size

abbrev pub after : ℕ → ℕ → ℕ
after size place = if nat_lt (place + 1) size then place + 1 else 0

-- how many steps it is from one place on to another
abbrev pub steps : ℕ → ℕ → ℕ → ℕ
steps size from to = if nat_le from to then to - from else to + (size - from)

abbrev pub entry_at : List (Option Entry) → ℕ → Option Entry
entry_at slots place = option_and_then (λ e. e) (slice_get slots place)

-- the way of the entry at the place goes over the gap, which it sees no later than the entry's first place
abbrev pub is_over : ℕ → ℕ → ℕ → Entry → Bool
is_over size gap at e = nat_le (steps size gap at) (steps size (first_place e.key size) at)

-- ---- what is true of every table

abbrev pub AreApart : List (Option Entry) → Type 0
AreApart slots = (s t : ℕ) (e g : Entry) → entry_at slots s ≡ Some e → entry_at slots t ≡ Some g → e.key ≡ g.key → s ≡ t

-- no place is free from an entry's first place on up to the entry
abbrev pub AreReached : List (Option Entry) → Type 0
AreReached slots = (s : ℕ) (e : Entry) (m : ℕ) → entry_at slots s ≡ Some e → m < length slots
    → steps (length slots) (first_place e.key (length slots)) m ≤ steps (length slots) (first_place e.key (length slots)) s → IsSome (entry_at slots m)

pub record IsKept (t : TableView) : Type 0 where
  -- the least power of two that is at least twice the number of keys
  pub size : IsNextPowerOfTwo (2 * t.most) (length t.slots)
  pub some : 0 < length t.slots
  pub apart : AreApart t.slots
  pub reached : AreReached t.slots
  pub room : keys_len t ≤ t.most
  pub few : t.most < 4294967296
