-- Each call keeps what the type keeps.
use Rattle.std.proofs.Common.{arith, ◌≡◌, ◌<◌, ◌≤◌, ◌+◌, ◌-◌, ◌*◌, ◌%◌, ℕ, Bool, true, List, length, sym, ◌∙◌, ap, subst, inl, inr, refl, Option, Some, None}
use Rattle.std.specs.Prelude.{◌&&◌, if◌then◌else◌, nat_lt, IsTrue, IsSome, IfSome, ◌⊎◌, Result, Ok, Err, OnOk, OnErr}
use Rattle.std.proofs.Math.Nat.{add-mul-mod_self_right, mod-eq_of_lt}
use Rattle.std.proofs.lemmas.List.{length-map}
use Rattle.region_ranges.specs.declared.ranges.ByteRange.{ByteRange}
use Rattle.region_ranges.specs.Ranges.{inside}
use Rattle.region_ranges.specs.Keys.{manifest_of}
use Rattle.sparse_tracker.specs.declared.gaps.OpenGap.{OpenGap}
use Rattle.sparse_tracker.specs.declared.tickets.Ticket.{Ticket}
use Rattle.sparse_tracker.specs.declared.status.Status.TheVariants.{Ready}
use Rattle.sparse_tracker.specs.ByteStates.{absent, pending, present, is_under, Tracker, TrackerView, open_gap_at, gap_of, ticket_of, has_all, least_unused, ids}
use Rattle.sparse_tracker.specs.Kept as tracker
use Rattle.sparse_tracker.specs.Places.{ClaimPlaces}
use Rattle.cache_outside.specs.Frames.{put_at, bytes_at, SameOutside}
use Rattle.blob_parts.specs.Content.{slice_of}
use Rattle.blob_parts.specs.Pieces.{PieceView}
use Rattle.region_cell.specs.Cells.{Region, FrameMetadata, CellMetadata, CellView, len_of, IsRanged, IsFilled, IsSized, IsKept, FitsGap, LiesInRange, claim, claim_run, progress, fail, leave, with_region, file_of, part_of, region_bytes, TicketBytes, TicketContent}
use Rattle.region_cell.proofs.Places.{length_change}
use Rattle.region_cell.proofs.Ranged.{ranged_claim, ranged_progress, ranged_fail, ranged_leave}
use Rattle.region_cell.proofs.Statuses.{Waits, Held, ready_is}
use Rattle.region_cell.proofs.Filled.{filled_claim, filled_fail, filled_leave, filled_progress, filled_outside, gap_bounds, read_filled}

-- ---- no call but a new key changes the number of states

pub len_opened : (o : Option ByteRange) (t : Tracker) → length (open_gap_at o t).byte_states ≡ length t.byte_states
len_opened None t = refl
len_opened (Some run) t = let g = least_unused (ids t.gaps) in length_change (λ i l. if inside run i then pending g else l) 0 t.byte_states

pub len_claim : (range : ℕ) (sub : ByteRange) (c : Region) → len_of (claim range sub c) ≡ len_of c
len_claim range sub c = len_opened (claim_run range sub c) c.tracker

pub len_progress : (g to : ℕ) (c : Region) → len_of (progress g to c) ≡ len_of c
len_progress g to c = length_change (λ i l. if is_under g l && nat_lt i to then present else l) 0 c.tracker.byte_states

pub len_fail : (g : ℕ) (c : Region) → len_of (fail g c) ≡ len_of c
len_fail g c = length-map c.tracker.byte_states (λ l. if is_under g l then absent else l)

-- ---- calls that leave the frame

-- the room does not matter
pub kept_spare : (told : Bool) (files : ℕ → ℕ → List ℕ) (c : CellView) (n : ℕ) → IsKept told files c → IsKept told files (record c { spare = n })
kept_spare told files c n k = record { sized = k.sized; ranged = k.ranged; whole = k.whole; filled = k.filled }

module _ (told : Bool) (files : ℕ → ℕ → List ℕ) (c : CellView) (k : IsKept told files c) where
  kept : (r : Region) → r.tag ≡ c.metadata.region.tag → len_of r ≡ len_of c.metadata.region → IsRanged c.metadata.range r → (IsTrue told → IsTrue c.metadata.frame.tells → IsFilled files c.metadata.frame.size r c.bytes) → IsKept told files (with_region r c)
  kept r t l o f = record {
    sized = record { range = k.sized.range; divides = k.sized.divides; size = k.sized.size; len = omega (arith, l, k.sized.len) };
    ranged = o;
    whole = λ h n. (l ∙ k.whole h (λ e. n (t ∙ e)) ∙ ap (λ (x : ℕ). length (region_bytes files c.metadata.frame.size x)) (sym t));
    filled = f;
  }

  pub kept_claim : (sub : ByteRange) → ClaimPlaces → LiesInRange sub c.metadata → IsKept told files (with_region (claim c.metadata.range sub c.metadata.region) c)
  kept_claim sub places lies =
      kept (claim c.metadata.range sub c.metadata.region) refl (len_claim c.metadata.range sub c.metadata.region)
      (ranged_claim c.metadata.range sub c.metadata.region places k.sized.range k.ranged lies.0 lies.1 lies.2)
      (λ h n. filled_claim files c.metadata.frame.size c.metadata.range sub c.metadata.region c.bytes (k.filled h n))

  pub kept_fail : (g : ℕ) → IsKept told files (with_region (fail g c.metadata.region) c)
  kept_fail g = kept (fail g c.metadata.region) refl (len_fail g c.metadata.region) (ranged_fail c.metadata.range g c.metadata.region k.ranged) (λ h n. filled_fail files c.metadata.frame.size g c.metadata.region c.bytes (k.filled h n))

  pub kept_leave : (n : ℕ) → IsKept told files (with_region (leave n c.metadata.region) c)
  kept_leave n = kept (leave n c.metadata.region) refl refl (ranged_leave c.metadata.range n c.metadata.region k.ranged) (λ h m. filled_leave files c.metadata.frame.size n c.metadata.region c.bytes (k.filled h m))

-- the bytes of a sub-range that is present
pub read_kept : (told : Bool) (files : ℕ → ℕ → List ℕ) (c : CellView) (k : IsKept told files c) (sub : ByteRange) → sub.start < sub.end → sub.end ≤ len_of c.metadata.region → has_all sub c.metadata.region.tracker ≡ true → IsTrue told → IsTrue c.metadata.frame.tells
    → slice_of c.bytes sub.start (sub.end - sub.start) ≡ slice_of (region_bytes files c.metadata.frame.size c.metadata.region.tag) sub.start (sub.end - sub.start)
read_kept told files c k sub o m all h n = read_filled files c.metadata.frame.size c.metadata.region c.bytes sub (k.filled h n) all (omega arith) m

pub outside_as : (a b n m : ℕ) (before now : List ℕ) → a ≡ b → n ≡ m → SameOutside a n before now → SameOutside b m before now
outside_as a b n m before now e f s = subst (λ (x : ℕ). SameOutside x m before now) e (subst (λ (x : ℕ). SameOutside a x before now) f s)

pub put_as : (a b : ℕ) (xs ys bytes now : List ℕ) → a ≡ b → xs ≡ ys → now ≡ put_at a xs bytes → now ≡ put_at b ys bytes
put_as a b xs ys bytes now e f p = p ∙ ap (λ (k : ℕ). put_at k xs bytes) e ∙ ap (λ (k : List ℕ). put_at b k bytes) f

pub err_any : {T E : Type 0} {P : Type 0} (r : Result T E) → P → OnErr r P
err_any (Ok v) p = tt
err_any (Err e) p = p

pub ok_then : {T E : Type 0} {P Q : Type 0} (r : Result T E) → (P → Q) → OnOk r P → OnOk r Q
ok_then (Ok v) f p = f p
ok_then (Err e) f p = tt

pub ok_under : {T E : Type 0} {P : Type 0} (Q : Type 0) (r : Result T E) → (P → OnOk r Q) → OnOk r (P → Q)
ok_under Q (Ok v) f = f
ok_under Q (Err e) f = tt

-- what a call with two answers makes of a tracker
pub by_answer : {T E : Type 0} (r : Result T E) (x ok err : TrackerView) → OnOk r (x ≡ ok) → OnErr r (x ≡ err) → (x ≡ ok) ⊎ (x ≡ err)
by_answer (Ok v) x ok err a b = inl a
by_answer (Err e) x ok err a b = inr b

-- ---- a piece and its gap

-- the open gap that a piece fits
pub record Fitting (t : Tracker) (gap size tag : ℕ) (piece : PieceView) : Type 0 where
  pub gap_open : OpenGap
  pub is : gap_of gap t ≡ Some gap_open
  pub fits : FitsGap size tag gap_open piece

pub fitting : (t : Tracker) (gap size tag : ℕ) (piece : PieceView) (x : Option OpenGap) → gap_of gap t ≡ x → IsSome x → IfSome x (λ g. FitsGap size tag g piece) → Fitting t gap size tag piece
fitting t gap size tag piece None e s f = absurd (cc)
fitting t gap size tag piece (Some o) e s f = record { gap_open = o; is = e; fits = f }

-- its place in the region
pub place_is : (part size upto at : ℕ) → upto < size → at ≡ part * size + upto → at % size ≡ upto
place_is part size upto at h e =
    let s : part * size + upto ≡ upto + part * size = omega arith in
    ap (λ (x : ℕ). x % size) (e ∙ s) ∙ add-mul-mod_self_right upto part size ∙ mod_small upto size h
  where
    mod_small : (a b : ℕ) → a < b → a % b ≡ a
    mod_small a b k = mod-eq_of_lt k

-- where the code puts a piece: at the gap's present end, inside the frame
pub record Put (c : CellView) (gap place size : ℕ) (bytes : List ℕ) (p : PieceView) : Type 0 where
  pub fit : Fitting c.metadata.region.tracker gap c.metadata.frame.size c.metadata.region.tag p
  pub at : place % size ≡ fit.gap_open.upto
  pub room : fit.gap_open.upto + length bytes ≤ fit.gap_open.end
  pub most : fit.gap_open.end ≤ c.metadata.frame.size
  pub small : c.metadata.frame.size < 16777217

pub put_of : (told : Bool) (files : ℕ → ℕ → List ℕ) (c : CellView) (gap place size : ℕ) (bytes : List ℕ) (p : PieceView) → IsKept told files c → tracker.IsGood c.metadata.region.tracker
    → IsSome (gap_of gap c.metadata.region.tracker) → IfSome (gap_of gap c.metadata.region.tracker) (λ g. FitsGap c.metadata.frame.size c.metadata.region.tag g p)
    → place ≡ p.at → c.metadata.frame.size ≡ size → bytes ≡ p.bytes → Put c gap place size bytes p
put_of told files c gap place size bytes p k good some fits at s e =
    let x = fitting c.metadata.region.tracker gap c.metadata.frame.size c.metadata.region.tag p (gap_of gap c.metadata.region.tracker) refl some fits in
    let b = gap_bounds gap c.metadata.region.tracker good x.gap_open x.is in
    let l : length bytes ≡ length p.bytes = ap length e in
    let w = place_is (part_of c.metadata.region.tag) c.metadata.frame.size x.gap_open.upto place (omega (arith, b, k.sized.len)) (at ∙ x.fits.at) in
    record {
      fit = x;
      at = ap (λ (n : ℕ). place % n) (sym s) ∙ w;
      room = omega (arith, l, x.fits.inside);
      most = omega (arith, b, k.sized.len);
      small = k.sized.size.1;
    }

-- its bytes, where the archive tells, by the key
pub right_bytes : (files : ℕ → ℕ → List ℕ) (size tag : ℕ) (g : OpenGap) (p : PieceView) → FitsGap size tag g p → p.bytes ≡ slice_of (files p.manifest p.file) p.at (length p.bytes) → p.bytes ≡ slice_of (files (manifest_of tag) (file_of tag)) (part_of tag * size + g.upto) (length p.bytes)
right_bytes files size tag g p f e =
    e ∙ ap (λ (m : ℕ). slice_of (files m p.file) p.at (length p.bytes)) f.manifest
    ∙ ap (λ (m : ℕ). slice_of (files (manifest_of tag) m) p.at (length p.bytes)) f.file
    ∙ ap (λ (m : ℕ). slice_of (files (manifest_of tag) (file_of tag)) m (length p.bytes)) f.at

-- ---- a store

module _ (told : Bool) (files : ℕ → ℕ → List ℕ) (c : CellView) (k : IsKept told files c) (good : tracker.IsGood c.metadata.region.tracker) (gap : ℕ) (p : PieceView)
    (x : Fitting c.metadata.region.tracker gap c.metadata.frame.size c.metadata.region.tag p)
    (frame : FrameMetadata) (bytes : List ℕ) (size : frame.size ≡ c.metadata.frame.size) (tells : frame.tells ≡ c.metadata.frame.tells) (held : IsTrue c.metadata.frame.tells → length c.bytes ≡ c.metadata.frame.size) where
  telling : IsTrue frame.tells → IsTrue c.metadata.frame.tells
  telling h = subst IsTrue tells h

  sized_as : (n : CellMetadata) → n.range ≡ c.metadata.range → n.frame.size ≡ c.metadata.frame.size → len_of n.region ≡ len_of c.metadata.region → IsSized n
  sized_as n r s l = record {
    range = omega (arith, r, k.sized.range);
    divides = subst (λ (x : ℕ). n.frame.size % x ≡ 0) (sym r) (subst (λ (x : ℕ). x % c.metadata.range ≡ 0) (sym s) k.sized.divides);
    size = (omega (arith, s, k.sized.size), omega (arith, s, k.sized.size));
    len = omega (arith, s, l, k.sized.len);
  }

  pub kept_stored : (IsTrue told → p.bytes ≡ slice_of (files p.manifest p.file) p.at (length p.bytes)) → (IsTrue c.metadata.frame.tells → bytes ≡ put_at x.gap_open.upto p.bytes c.bytes)
      → IsKept told files (record { metadata = record { region = progress gap (x.gap_open.upto + length p.bytes) c.metadata.region; frame = frame; range = c.metadata.range }; bytes = bytes; spare = c.spare })
  kept_stored right put =
      let o = x.gap_open in
      let r = progress gap (o.upto + length p.bytes) c.metadata.region in
      let l = len_progress gap (o.upto + length p.bytes) c.metadata.region in
      record {
        sized = sized_as _ refl size l;
        ranged = ranged_progress c.metadata.range gap (o.upto + length p.bytes) c.metadata.region k.ranged;
        whole = λ h n. (l ∙ k.whole h n ∙ ap (λ (s : ℕ). length (region_bytes files s c.metadata.region.tag)) (sym size));
        filled = λ h n.
            let m = telling n in
            let long = held m in
            let f = filled_progress files c.metadata.frame.size gap c.metadata.region c.bytes p.bytes good o x.is (k.filled h m) x.fits.inside (omega (arith, long, k.sized.len)) k.sized.len (right_bytes files c.metadata.frame.size c.metadata.region.tag o p x.fits (right h)) in
            rw (size, put m) f;
      }

  pub kept_unstored : (IsTrue c.metadata.frame.tells → SameOutside x.gap_open.upto (length p.bytes) c.bytes bytes) → IsKept told files (record { metadata = record { region = c.metadata.region; frame = frame; range = c.metadata.range }; bytes = bytes; spare = c.spare })
  kept_unstored outside = record {
    sized = sized_as _ refl size refl;
    ranged = k.ranged;
    whole = λ h n. (k.whole h n ∙ ap (λ (s : ℕ). length (region_bytes files s c.metadata.region.tag)) (sym size));
    filled = λ h n.
        let m = telling n in
        let f = filled_outside files c.metadata.frame.size gap c.metadata.region c.bytes p.bytes good x.gap_open x.is (k.filled h m) x.fits.inside bytes (outside m) in
        rw size f;
  }

-- ---- a copy

-- a ticket that is ready, and the bytes that the frame gave for it
module _ (told : Bool) (files : ℕ → ℕ → List ℕ) (c : CellView) (k : IsKept told files c) (n len : ℕ) (sub : ByteRange) (out : List ℕ) (w : Waits c.metadata.range c.metadata.region n sub) (s : Held n c.metadata.region.tracker Ready)
    (l : IfSome (ticket_of n c.metadata.region.tracker) (λ t. len ≡ t.end - t.start)) (got : IsTrue c.metadata.frame.tells → out ≡ bytes_at sub.start len c.bytes) where
  here : IsTrue c.metadata.frame.tells → out ≡ slice_of c.bytes w.ticket.start (w.ticket.end - w.ticket.start)
  here m =
      let wide : len ≡ w.ticket.end - w.ticket.start = rw w.is at l in
      got m ∙ ap (λ (a : ℕ). bytes_at a len c.bytes) (sym w.begins) ∙ ap (λ (a : ℕ). bytes_at w.ticket.start a c.bytes) wide

  pub copied_bytes : TicketBytes c n out
  copied_bytes = rw w.is here

  pub copied : TicketContent told files c n out
  copied =
      let one : Some w.ticket ≡ Some s.ticket = sym w.is ∙ s.is in
      let same : w.ticket ≡ s.ticket = cc in
      let ready = ready_is s.ticket c.metadata.region.tracker s.state in
      let all : has_all (record { start = w.ticket.start; end = w.ticket.end }) c.metadata.region.tracker ≡ true = ap (λ (t : Ticket). has_all (record { start = t.start; end = t.end }) c.metadata.region.tracker) same ∙ ready in
      rw w.is (λ h m. here m ∙ read_kept told files c k (record { start = w.ticket.start; end = w.ticket.end }) (omega (arith, w.some, w.begins, w.ends)) (omega (arith, w.most, w.ends)) all h m)
