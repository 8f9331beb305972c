-- Worked examples, computed.
use Rattle.std.specs.Prelude.{◌≡◌, ◌%◌, ℕ, List, [], ◌∷◌, true, false, map, Some, None, refl}
use Rattle.std.specs.List.{range_with_len}
use Rattle.region_ranges.specs.declared.ranges.ByteRange.{ByteRange}
use Rattle.region_ranges.specs.Keys.{tag_of, free_tag}
use Rattle.sparse_tracker.specs.declared.status.Status.TheVariants.{Ready, Waiting, Failed}
use Rattle.sparse_tracker.specs.declared.tickets.Ticket.{Ticket}
use Rattle.sparse_tracker.specs.ByteStates.{new_tracker, status}
use Rattle.region_cell.specs.Cells.{Region, assign, claim, claim_run, new_claim, progress, fail, are_present, region_bytes, file_of, part_of}

-- a cell of 8,192 bytes in ranges of 4,096
abbrev wanted : ByteRange
wanted = record { start = 100; end = 200 }

abbrev few : ByteRange
few = record { start = 120; end = 130 }

abbrev fresh : Region
fresh = assign 0 8192 (record { tag = free_tag; tracker = new_tracker 8192 })

abbrev claimed : Region
claimed = claim 4096 wanted fresh

abbrev begun : Region
begun = progress 0 150 claimed

abbrev first : Ticket
first = record { number = 0; start = 100; end = 200; failed = false }

claims : new_claim 4096 wanted fresh ≡ record { gap = Some (record { id = 0; range = record { start = 0; end = 4096 } }); ticket = 0 }
claims = refl

waits : status first begun.tracker ≡ Waiting
waits = refl

joins : new_claim 4096 few begun ≡ record { gap = None; ticket = 1 }
joins = refl

joined_is_ready : status (record { number = 1; start = 120; end = 130; failed = false }) (claim 4096 few begun).tracker ≡ Ready
joined_is_ready = refl

abbrev lost : Region
lost = fail 0 (claim 4096 few begun)

fails : lost.tracker.tickets ≡ record { number = 0; start = 100; end = 200; failed = true } ∷ record { number = 1; start = 120; end = 130; failed = false } ∷ []
fails = refl

has_failed : status (record first { failed = true }) lost.tracker ≡ Failed
has_failed = refl

claims_again : new_claim 4096 wanted lost ≡ record { gap = Some (record { id = 0; range = record { start = 150; end = 4096 } }); ticket = 2 }
claims_again = refl

-- a claim of the second range takes its bytes alone
takes_its_range : claim_run 4096 (record { start = 5000; end = 5001 }) fresh ≡ Some (record { start = 4096; end = 8192 })
takes_its_range = refl

has_some : are_present few begun ≡ true
has_some = refl

has_not_all : are_present wanted begun ≡ false
has_not_all = refl

-- a file of 10,000 bytes: its second region of 8,192 is the short last one
abbrev bytes_of : ℕ → ℕ → List ℕ
bytes_of m f = map (λ i. i % 251) (range_with_len 0 10000)

last_region : region_bytes bytes_of 8192 (tag_of (record { manifest = 0; file = 0; region = 1 })) ≡ map (λ i. i % 251) (range_with_len 8192 1808)
last_region = refl

numbers : (file_of (tag_of (record { manifest = 3; file = 5; region = 7 })) ≡ 5) × (part_of (tag_of (record { manifest = 3; file = 5; region = 7 })) ≡ 7)
numbers = (refl, refl)
