-- Worked examples, computed.
use Rattle.std.specs.Prelude.{◌≡◌, ℕ, ◌%◌, List, [], ◌∷◌, true, map, Some, None, refl, replicate}
use Rattle.std.specs.List.{range_with_len}
use Rattle.region_ranges.specs.declared.ranges.ByteRange.{ByteRange}
use Rattle.region_ranges.specs.declared.keys.Config.{Config}
use Rattle.region_cell.specs.declared.taken.Taken.TheVariants as taken
use Rattle.cache_door.specs.declared.answers.Want.{Want}
use Rattle.cache_door.specs.declared.answers.Entered.{Entered}
use Rattle.cache_door.specs.declared.answers.Entered.TheVariants.{Held, NoRoom, Gone}
use Rattle.cache_door.specs.declared.answers.Glance.TheVariants as glance
use Rattle.cache_door.specs.Machine.{State, new_state, enter, take_bytes, wanted, store, fail, leave, look, clear, unmount, hold_at}
use Rattle.cache_door.specs.Takes.{takes}

abbrev config : ℕ → Config
config n = record { regions = n; region = 4096; range = 4096; max_freq = 100; min_delta = 60000 }

abbrev fresh : ℕ → ℕ → State
fresh regions actors = new_state (config regions) true (replicate regions (replicate 4096 0)) actors

-- the first four bytes of region k of file 0 of manifest m
abbrev want : ℕ → ℕ → Want
want m k = record { key = record { manifest = m; file = 0; region = k }; len = 4096; sub = record { start = 0; end = 4 } }

-- ---- one region and two actors: while one holds it, there is no room for another key

abbrev held : State
held = (enter 0 0 (want 1 0) 0 (fresh 1 2)).1

no_room : (enter 1 0 (want 1 1) 0 held).0 ≡ NoRoom
no_room = refl

no_room_state : (enter 1 0 (want 1 1) 0 held).1 ≡ held
no_room_state = refl

-- nor for the same key with another length
other_len : (enter 1 0 (record (want 1 0) { len = 4000 }) 0 held).0 ≡ NoRoom
other_len = refl

-- ---- two regions and two actors: a held region that is cleared stays for its holder, and its key gets another region

abbrev two : State
two = clear 1 (enter 0 0 (want 1 0) 0 (fresh 2 2)).1

one_leaving : two.policy.leaving ≡ 0 ∷ []
one_leaving = refl

abbrev second : Entered × State
second = enter 1 0 (want 1 0) 0 two

second_answer : second.0 ≡ Held 1 (Some (record { start = 0; end = 4096 }))
second_answer = refl

-- both close their gaps and leave
abbrev both_left : State
both_left = let a = fail 0 (hold_at second.1 0) second.1 in let b = leave 0 (hold_at a 0) a in let c = fail 1 (hold_at b 1) b in leave 1 (hold_at c 1) c

abbrev last : Entered × State
last = enter 0 0 (want 1 1) 0 both_left

-- the cleared region is settled by the next entry, which takes it
last_answer : last.0 ≡ Held 0 (Some (record { start = 0; end = 4096 }))
last_answer = refl

last_leaving : last.1.policy.leaving ≡ []
last_leaving = refl

-- an unmounted mount is gone, and nothing changes
gone : enter 0 7 (want 1 0) 0 (unmount 7 1 two) ≡ (Gone, unmount 7 1 two)
gone = refl

-- ---- two actors at one region: the first is told the gap, and the other waits until it is stored

abbrev file : List ℕ
file = map (λ i. i % 251) (range_with_len 0 10000)

abbrev bytes : List ℕ
bytes = map (λ i. i % 251) (range_with_len 0 4096)

abbrev first : Entered × State
first = enter 0 0 (want 0 0) 0 (fresh 1 2)

first_gap : first.0 ≡ Held 0 (Some (record { start = 0; end = 4096 }))
first_gap = refl

abbrev other : Entered × State
other = enter 1 0 (want 0 0) 0 first.1

other_gap : other.0 ≡ Held 0 None
other_gap = refl

other_waits : take_bytes (hold_at other.1 1) other.1 ≡ taken.Waiting
other_waits = refl

abbrev stored : State
stored = store 0 (hold_at other.1 0) bytes other.1

first_copies : take_bytes (hold_at stored 0) stored ≡ taken.Copied
first_copies = refl

other_copies : take_bytes (hold_at stored 1) stored ≡ taken.Copied
other_copies = refl

other_bytes : wanted (hold_at stored 1) stored ≡ 0 ∷ 1 ∷ 2 ∷ 3 ∷ []
other_bytes = refl

looked : look 0 (want 0 0) stored ≡ glance.Copied
looked = refl

moved : look 0 (want 0 1) stored ≡ glance.Moved 0
moved = refl

-- ---- the gap fails instead: the other actor's bytes fail too, and the next entry is told the gap anew

abbrev failed : State
failed = fail 0 (hold_at other.1 0) other.1

other_fails : take_bytes (hold_at failed 1) failed ≡ taken.Failed
other_fails = refl

absent_again : look 0 (want 0 0) failed ≡ glance.Absent
absent_again = refl

abbrev left : State
left = let b = leave 0 (hold_at failed 0) failed in leave 1 (hold_at b 1) b

told_again : (enter 1 0 (want 0 0) 0 left).0 ≡ Held 0 (Some (record { start = 0; end = 4096 }))
told_again = refl

-- ---- one region, and three reads of four bytes

abbrev read_1 : List ByteRange × State
read_1 = takes 0 0 0 0 file (record { start = 0; end = 4 }) 0 (fresh 1 1)

abbrev read_2 : List ByteRange × State
read_2 = takes 0 0 0 0 file (record { start = 4096; end = 4100 }) 0 read_1.1

abbrev read_3 : List ByteRange × State
read_3 = takes 0 0 0 0 file (record { start = 0; end = 4 }) 0 read_2.1

takes_1 : read_1.0 ≡ record { start = 0; end = 4096 } ∷ []
takes_1 = refl

takes_2 : read_2.0 ≡ record { start = 4096; end = 8192 } ∷ []
takes_2 = refl

takes_3 : read_3.0 ≡ record { start = 0; end = 4096 } ∷ []
takes_3 = refl

two_evictions : read_3.1.policy.evictions ≡ 2
two_evictions = refl

-- ---- a read across two regions, once more, and the file's short last region

abbrev across : List ByteRange × State
across = takes 0 0 0 0 file (record { start = 4090; end = 4106 }) 0 (fresh 4 1)

across_takes : across.0 ≡ record { start = 0; end = 4096 } ∷ record { start = 4096; end = 8192 } ∷ []
across_takes = refl

again_takes : (takes 0 0 0 0 file (record { start = 4090; end = 4106 }) 0 across.1).0 ≡ []
again_takes = refl

last_region : (takes 0 0 0 0 file (record { start = 9999; end = 10000 }) 0 across.1).0 ≡ record { start = 8192; end = 10000 } ∷ []
last_region = refl
