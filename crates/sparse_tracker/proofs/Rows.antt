-- Worked examples, computed.
use Rattle.std.specs.Prelude.{◌≡◌, List, [], ◌∷◌, ◌++◌, true, false, replicate, Some, refl}
use Rattle.sparse_tracker.specs.declared.status.Status.TheVariants.{Ready, Waiting}
use Rattle.sparse_tracker.specs.declared.tickets.Ticket.{Ticket}
use Rattle.sparse_tracker.specs.ByteStates.{ByteState, absent, pending, present, Tracker, new_tracker, wait_for_range, wait_if_pending, progress, fail, status, absent_run}

abbrev one : Tracker
one = wait_for_range (record { start = 0; end = 10 }) (record { start = 2; end = 4 }) (new_tracker 10)

abbrev sub : Ticket
sub = record { number = 0; start = 2; end = 4; failed = false }

claims_all : one ≡ record { byte_states = replicate 10 (pending 0); gaps = record { id = 0; upto = 0; end = 10 } ∷ []; tickets = sub ∷ [] }
claims_all = refl

waits : status sub (progress 0 3 one) ≡ Waiting
waits = refl

is_ready : status sub (progress 0 4 one) ≡ Ready
is_ready = refl

fails : fail 0 (progress 0 4 one) ≡ record { byte_states = replicate 4 present ++ replicate 6 absent; gaps = []; tickets = sub ∷ [] }
fails = refl

fails_early : fail 0 (progress 0 3 one) ≡ record { byte_states = replicate 3 present ++ replicate 7 absent; gaps = []; tickets = record { number = 0; start = 2; end = 4; failed = true } ∷ [] }
fails_early = refl

abbrev some_present : Tracker
some_present = record { byte_states = replicate 4 present ++ replicate 6 absent; gaps = []; tickets = [] }

gives_a_ticket : wait_if_pending (record { start = 0; end = 4 }) some_present ≡ record some_present { tickets = record { number = 0; start = 0; end = 4; failed = false } ∷ [] }
gives_a_ticket = refl

gives_none : wait_if_pending (record { start = 3; end = 5 }) some_present ≡ some_present
gives_none = refl

abbrev holes : List ByteState
holes = replicate 4 present ++ replicate 2 absent ++ replicate 4 present ++ replicate 10 absent

run_from_5 : absent_run holes (record { start = 0; end = 20 }) 5 ≡ Some (record { start = 4; end = 6 })
run_from_5 = refl

run_from_6 : absent_run holes (record { start = 0; end = 20 }) 6 ≡ Some (record { start = 10; end = 20 })
run_from_6 = refl

-- a region of 8192 bytes in ranges of 4096
abbrev big : Tracker
big = wait_for_range (record { start = 0; end = 4096 }) (record { start = 100; end = 200 }) (new_tracker 8192)

big_gap : big.gaps ≡ record { id = 0; upto = 0; end = 4096 } ∷ []
big_gap = refl

big_again : (wait_for_range (record { start = 0; end = 4096 }) (record { start = 100; end = 200 }) (fail 0 (progress 0 150 big))).gaps ≡ record { id = 0; upto = 150; end = 4096 } ∷ []
big_again = refl

big_waits : status (record { number = 0; start = 100; end = 200; failed = false }) (progress 0 150 big) ≡ Waiting
big_waits = refl
