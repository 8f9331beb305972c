-- A region's cell: the tag of its key, its tracker, and the bytes of its frame. What a call makes of key and tracker is one equation on a `Region`.
use Rattle.std.specs.Prelude.{◌≡◌, ◌≢◌, ◌⊎◌, ◌↔◌, ◌<◌, ◌≤◌, ◌+◌, ◌-◌, ◌*◌, ◌/◌, ◌%◌, ◌^◌, ℕ, Bool, true, IsTrue, List, length, slice_get, Option, Some, None, IfSome}
use Rattle.region_ranges.specs.declared.ranges.ByteRange.{ByteRange}
use Rattle.region_ranges.specs.declared.keys.RegionKey.{RegionKey}
use Rattle.region_ranges.specs.Ranges.{aligned}
use Rattle.region_ranges.specs.Keys.{free_tag, tag_of, manifest_of}
use Rattle.sparse_tracker.specs.declared.gaps.OpenGap.{OpenGap}
use Rattle.sparse_tracker.specs.declared.tickets.Ticket.{Ticket}
use Rattle.sparse_tracker.specs.declared.status.Claim.{Claim}
use Rattle.sparse_tracker.specs.declared.status.Status.{Status}
use Rattle.sparse_tracker.specs.declared.status.Status.TheVariants as status_of
use Rattle.sparse_tracker.specs.ByteStates as byte_states
use Rattle.sparse_tracker.specs.ByteStates.{ByteState, present, Tracker, TrackerView, claimed_run, new_tracker, has_all, lacks, ticket_of, gap_of, status}
use Rattle.sparse_tracker.specs.Kept as tracker
use Rattle.byte_text.specs.Counts.{Rose}
use Rattle.cache_outside.specs.Frames.{FrameView, put_at, SameOutside}
use Rattle.blob_parts.specs.Content.{slice_of}
use Rattle.blob_parts.specs.Pieces.{PieceView}
use Rattle.region_cell.specs.declared.taken.Taken.{Taken}
use Rattle.region_cell.specs.declared.taken.Taken.TheVariants as taken

-- the tag of a region's key, or the free tag, and its states, gaps and tickets
pub record Region : Type 0 where
  pub tag : ℕ
  pub tracker : Tracker

-- what is told of a frame, but for its bytes
pub record FrameMetadata : Type 0 where
  pub faults : ℕ
  pub size : ℕ
  pub tells : Bool
  pub steady : Bool

abbrev pub metadata_of : FrameView → FrameMetadata
metadata_of f = record { faults = f.faults; size = f.size; tells = f.tells; steady = f.steady }

-- all of a cell but its bytes and its room; `range` is the size of the ranges in which it is filled
pub record CellMetadata : Type 0 where
  pub region : Region
  pub frame : FrameMetadata
  pub range : ℕ

-- what contracts see of a cell; `spare` is the number of claims for which there is room
pub record CellView : Type 0 where
  pub metadata : CellMetadata
  pub bytes : List ℕ
  pub spare : ℕ

-- the tag of a key, or the free tag
abbrev pub tag_at : Option RegionKey → ℕ
tag_at None = free_tag
tag_at (Some key) = tag_of key

-- what is seen of a cell's parts
abbrev pub seen : Option RegionKey → TrackerView → FrameView → ℕ → CellView
seen key t frame range = record { metadata = record { region = record { tag = tag_at key; tracker = t.tracker }; frame = metadata_of frame; range = range }; bytes = frame.bytes; spare = t.spare }

-- the ticket of that number, the open gap of that id, and where a ticket stands
abbrev pub ticket_in : ℕ → CellView → Option Ticket
ticket_in n c = ticket_of n c.metadata.region.tracker

abbrev pub gap_in : ℕ → CellView → Option OpenGap
gap_in g c = gap_of g c.metadata.region.tracker

abbrev pub status_in : Ticket → CellView → Status
status_in k c = status k c.metadata.region.tracker

-- a cell without a key, as long as its frame, with all bytes absent
abbrev pub new_cell : FrameView → ℕ → CellView
new_cell frame range = record { metadata = record { region = record { tag = free_tag; tracker = new_tracker frame.size }; frame = metadata_of frame; range = range }; bytes = frame.bytes; spare = 0 }

-- the number of a region's states
abbrev pub len_of : Region → ℕ
len_of c = length c.tracker.byte_states

-- ---- the bytes of a region

-- the number of the file, in its manifest, of the key with the tag
abbrev pub file_of : ℕ → ℕ
file_of tag = tag / 2 ^ 28 % 4096

-- the number of the region, in its file, of the key with the tag
abbrev pub part_of : ℕ → ℕ
part_of tag = tag % 2 ^ 28

-- the bytes of the region of `size` bytes with the tag, where `files` gives those of each file of each manifest: the file's bytes
-- from the region's start on, fewer at the file's end
abbrev pub region_bytes : (ℕ → ℕ → List ℕ) → ℕ → ℕ → List ℕ
region_bytes files size tag = slice_of (files (manifest_of tag) (file_of tag)) (part_of tag * size) size

-- where the archive tells, a region of `len` bytes is that part of the file
abbrev pub IsLength : Bool → (ℕ → ℕ → List ℕ) → ℕ → ℕ → ℕ → Type 0
IsLength tells files size tag len = IsTrue tells → len ≡ length (region_bytes files size tag)

-- ---- the calls

abbrev pub assign : ℕ → ℕ → Region → Region
assign tag len c = record { tag = tag; tracker = new_tracker len }

-- the aligned range that `sub` lies in
abbrev pub range_round : ℕ → ByteRange → Region → ByteRange
range_round range sub c = aligned sub.start range (len_of c)

-- the run that a claim takes
abbrev pub claim_run : ℕ → ByteRange → Region → Option ByteRange
claim_run range sub c = claimed_run (range_round range sub c) sub c.tracker

abbrev pub claim : ℕ → ByteRange → Region → Region
claim range sub c = record c { tracker = byte_states.wait_for_range (range_round range sub c) sub c.tracker }

-- what a claim answers
abbrev pub new_claim : ℕ → ByteRange → Region → Claim
new_claim range sub c = byte_states.new_claim (range_round range sub c) sub c.tracker

abbrev pub progress : ℕ → ℕ → Region → Region
progress g to c = record c { tracker = byte_states.progress g to c.tracker }

abbrev pub fail : ℕ → Region → Region
fail g c = record c { tracker = byte_states.fail g c.tracker }

abbrev pub leave : ℕ → Region → Region
leave n c = record c { tracker = byte_states.leave n c.tracker }

abbrev pub are_present : ByteRange → Region → Bool
are_present sub c = has_all sub c.tracker

-- a cell with another region, and a cell with another note of its frame
abbrev pub with_region : Region → CellView → CellView
with_region r c = record c { metadata = record c.metadata { region = r } }

abbrev pub with_frame : FrameMetadata → CellView → CellView
with_frame f c = record c { metadata = record c.metadata { frame = f } }

-- the cell after a claim
abbrev pub claimed : ByteRange → CellView → CellView
claimed sub c = record (with_region (claim c.metadata.range sub c.metadata.region) c) { spare = c.spare - 1 }

-- ---- conditions

-- a range that is not empty and lies in one aligned range of the cell
abbrev pub LiesInRange : ByteRange → CellMetadata → Type 0
LiesInRange sub n = (sub.start < sub.end) × (sub.end ≤ len_of n.region) × (sub.start / n.range ≡ (sub.end - 1) / n.range)

-- a piece of the key's file that begins at the gap's present end and stays in the gap
pub record FitsGap (size tag : ℕ) (g : OpenGap) (piece : PieceView) : Type 0 where
  pub manifest : piece.manifest ≡ manifest_of tag
  pub file : piece.file ≡ file_of tag
  pub at : piece.at ≡ part_of tag * size + g.upto
  pub inside : g.upto + length piece.bytes ≤ g.end

abbrev pub FitsCell : CellView → OpenGap → PieceView → Type 0
FitsCell c g piece = FitsGap c.metadata.frame.size c.metadata.region.tag g piece

-- ---- what a call of the frame leaves

-- its count has not fallen, that of a steady one stands, and all else is as it was
pub record FrameStays (before now : FrameMetadata) : Type 0 where
  pub size : now.size ≡ before.size
  pub tells : now.tells ≡ before.tells
  pub steady : now.steady ≡ before.steady
  pub later : before.faults ≤ now.faults
  pub stands : IsTrue before.steady → now.faults ≡ before.faults

-- a cell of which a call changed at most the count of its frame
pub record FrameOnly (before now : CellView) : Type 0 where
  pub same : now ≡ with_frame now.metadata.frame before
  pub frame : FrameStays before.metadata.frame now.metadata.frame

-- a cell of which a store changed at most the region's states, the bytes and the count of its frame
pub record StoreOnly (before now : CellView) : Type 0 where
  pub same : now ≡ record (with_frame now.metadata.frame (with_region now.metadata.region before)) { bytes = now.bytes }
  pub frame : FrameStays before.metadata.frame now.metadata.frame

-- it failed: its count rose, or stands at its last value, and it is not steady
pub record Faulted (before now : FrameMetadata) : Type 0 where
  pub rose : Rose before.faults now.faults
  pub unsteady : IsTrue before.steady → ⊥

-- ---- what a copy and a store answer

-- `Waiting` and `Failed` come exactly by the ticket's status, and where it is ready the frame is asked
pub record CopyAnswer (c : CellView) (result : Taken) (k : Ticket) : Type 0 where
  pub waiting : (result ≡ taken.Waiting) ↔ (status_in k c ≡ status_of.Waiting)
  pub failed : (result ≡ taken.Failed) ↔ (status_in k c ≡ status_of.Failed)
  pub ready : ((result ≡ taken.Copied) ⊎ (result ≡ taken.FrameFault)) ↔ (status_in k c ≡ status_of.Ready)

-- where the frame tells, the bytes are the cell's from start to end
abbrev pub CellBytes : CellView → ℕ → ℕ → List ℕ → Type 0
CellBytes c start end bytes = IsTrue c.metadata.frame.tells → bytes ≡ slice_of c.bytes start (end - start)

-- and where the archive tells too, those of its key's region by the content
abbrev pub ContentBytes : Bool → (ℕ → ℕ → List ℕ) → CellView → ℕ → ℕ → List ℕ → Type 0
ContentBytes tells files c start end bytes = IsTrue tells → IsTrue c.metadata.frame.tells → bytes ≡ slice_of (region_bytes files c.metadata.frame.size c.metadata.region.tag) start (end - start)

-- the same for the bytes that a ticket waits for, and for those of a range
abbrev pub TicketBytes : CellView → ℕ → List ℕ → Type 0
TicketBytes c n bytes = IfSome (ticket_in n c) (λ k. CellBytes c k.start k.end bytes)

abbrev pub TicketContent : Bool → (ℕ → ℕ → List ℕ) → CellView → ℕ → List ℕ → Type 0
TicketContent tells files c n bytes = IfSome (ticket_in n c) (λ k. ContentBytes tells files c k.start k.end bytes)

abbrev pub RangeContent : Bool → (ℕ → ℕ → List ℕ) → CellView → ByteRange → List ℕ → Type 0
RangeContent tells files c sub bytes = ContentBytes tells files c sub.start sub.end bytes

-- a piece was stored at the present end of the gap with this id: the gap moved behind it, and where the frame tells the bytes are there
pub record Stored (id : ℕ) (piece : List ℕ) (before now : CellView) (g : OpenGap) : Type 0 where
  pub region : now.metadata.region ≡ progress id (g.upto + length piece) before.metadata.region
  pub bytes : IsTrue before.metadata.frame.tells → now.bytes ≡ put_at g.upto piece before.bytes

-- where the frame tells, the piece's bytes at the gap's present end may be anything, and all others stand
abbrev pub Unstored : List ℕ → CellView → CellView → OpenGap → Type 0
Unstored piece before now g = IsTrue before.metadata.frame.tells → SameOutside g.upto (length piece) before.bytes now.bytes

-- ---- what is true of every cell

-- a state that is not present is followed, in its aligned range, by the same state only
abbrev pub InOrder : ℕ → List ByteState → Type 0
InOrder range ls = (i j : ℕ) (a b : ByteState) → i < j → slice_get ls i ≡ Some a → slice_get ls j ≡ Some b → i / range ≡ j / range → (a ≡ present) ⊎ (b ≡ a)

-- each ticket's bytes lie in one aligned range, and where one of them is absent the ticket is marked failed
pub record IsRanged (range : ℕ) (c : Region) : Type 0 where
  pub order : InOrder range c.tracker.byte_states
  pub tickets : (j : ℕ) (k : Ticket) → slice_get c.tracker.tickets j ≡ Some k → (k.start < k.end) × (k.end ≤ len_of c) × (k.start / range ≡ (k.end - 1) / range)
  pub marked : (j : ℕ) (k : Ticket) → slice_get c.tracker.tickets j ≡ Some k → lacks (record { start = k.start; end = k.end }) c.tracker ≡ true → k.failed ≡ true

-- each byte marked present is the file's
abbrev pub IsFilled : (ℕ → ℕ → List ℕ) → ℕ → Region → List ℕ → Type 0
IsFilled files size c bytes = (i : ℕ) → slice_get c.tracker.byte_states i ≡ Some present → slice_get bytes i ≡ slice_get (region_bytes files size c.tag) i

-- a cell with a key is as long as that region of the file
abbrev pub IsWhole : (ℕ → ℕ → List ℕ) → ℕ → Region → Type 0
IsWhole files size c = c.tag ≢ free_tag → len_of c ≡ length (region_bytes files size c.tag)

-- a range divides a region, and no cell has more states than a region has bytes
pub record IsSized (n : CellMetadata) : Type 0 where
  pub range : 0 < n.range
  pub divides : n.frame.size % n.range ≡ 0
  pub size : (0 < n.frame.size) × (n.frame.size < 16777217)
  pub len : len_of n.region ≤ n.frame.size

-- what a cell keeps, where `told` says whether the archive tells its files
pub record IsKept (told : Bool) (files : ℕ → ℕ → List ℕ) (c : CellView) : Type 0 where
  pub sized : IsSized c.metadata
  pub ranged : IsRanged c.metadata.range c.metadata.region
  pub whole : IsTrue told → IsWhole files c.metadata.frame.size c.metadata.region
  pub filled : IsTrue told → IsTrue c.metadata.frame.tells → IsFilled files c.metadata.frame.size c.metadata.region c.bytes

-- no ticket is open: one that waits for an absent byte is marked failed
abbrev pub NeverOpen : Tracker → Type 0
NeverOpen t = (n : ℕ) (k : Ticket) → ticket_of n t ≡ Some k → status k t ≢ status_of.Open

-- all that is true of every cell
pub record IsGood (told : Bool) (files : ℕ → ℕ → List ℕ) (c : CellView) : Type 0 where
  pub cell : IsKept told files c
  pub tracker : tracker.IsGood c.metadata.region.tracker
  pub bytes : IsTrue c.metadata.frame.tells → length c.bytes ≡ c.metadata.frame.size
  pub unfailed : IsTrue c.metadata.frame.steady → c.metadata.frame.faults ≡ 0
