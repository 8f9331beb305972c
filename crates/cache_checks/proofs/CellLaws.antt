-- What is known of a cell's states step by step, and what the calls make of them.
use Rattle.std.proofs.Common.{arith, ◌≡◌, ◌<◌, ◌≤◌, ◌+◌, ◌-◌, ◌*◌, ◌/◌, ℕ, List, length, sym, ◌∙◌, ap, subst, refl, Option, Some, true, false}
use Rattle.std.specs.Prelude.{IsSome, IfSome}
use Rattle.std.proofs.Math.Nat.{div-eq_of_lt}
use Rattle.region_ranges.specs.declared.ranges.ByteRange.{ByteRange}
use Rattle.region_ranges.specs.Keys.{manifest_of}
use Rattle.sparse_tracker.specs.declared.gaps.OpenGap.{OpenGap}
use Rattle.sparse_tracker.specs.declared.tickets.Ticket.{Ticket}
use Rattle.sparse_tracker.specs.ByteStates.{gap_of, ticket_of}
use Rattle.blob_parts.specs.Pieces.{PieceView, IsPieceAt}
use Rattle.region_cell.specs.Cells.{Region, CellMetadata, CellView, len_of, file_of, part_of, claim, progress, fail, LiesInRange, FitsGap, FrameStays, FrameOnly, Stored}
use Rattle.cache_checks.specs.CellSteps.{IsAt, fresh, claimed, begun, joined, lost, first_ticket, wanted, few}

-- ---- what a call asks for

module _ (s : Region) (n : CellMetadata) (a : IsAt s n) where
  pub lies : (start end len : ℕ) → len_of s ≡ len → start < end → end ≤ len → end ≤ 4096 → LiesInRange (record { start = start; end = end }) n
  lies start end len l h m k =
      let r : len_of n.region ≡ len = ap len_of a.region ∙ l in
      let x : start / n.range ≡ 0 = ap (λ (y : ℕ). start / y) a.range ∙ div-eq_of_lt {n = start} {m = 4096} (omega arith) in
      let z : (end - 1) / n.range ≡ 0 = ap (λ (y : ℕ). (end - 1) / y) a.range ∙ div-eq_of_lt {n = end - 1} {m = 4096} (omega arith) in
      (h, omega (arith, r), x ∙ sym z)

  pub has_gap : (g : ℕ) (o : OpenGap) → gap_of g s.tracker ≡ Some o → IsSome (gap_of g n.region.tracker)
  has_gap g o e = rw (a.region, e) refl

  pub has_ticket : (k : ℕ) (t : Ticket) → ticket_of k s.tracker ≡ Some t → IsSome (ticket_of k n.region.tracker)
  has_ticket k t e = rw (a.region, e) refl

  pub as_wide : (k len : ℕ) (t : Ticket) → ticket_of k s.tracker ≡ Some t → len ≡ t.end - t.start → IfSome (ticket_of k n.region.tracker) (λ x. len ≡ x.end - x.start)
  as_wide k len t e l = rw (a.region, e) l

  pub fits : (g tag at len : ℕ) (o : OpenGap) (p : PieceView) → gap_of g s.tracker ≡ Some o → s.tag ≡ tag → IsPieceAt (manifest_of tag) (file_of tag) at len p → at ≡ part_of tag * 8192 + o.upto → o.upto + len ≤ o.end → IfSome (gap_of g n.region.tracker) (λ x. FitsGap n.frame.size n.region.tag x p)
  fits g tag at len o p e t i h k =
      let r : FitsGap 8192 tag o p = record { manifest = i.manifest; file = i.file; at = i.at ∙ h; inside = omega (arith, i.size, k) } in
      rw (a.region, e, a.size, t) r

  -- ---- what it makes of the cell

  pub claims : (sub : ByteRange) → IsAt (claim 4096 sub s) (record n { region = claim n.range sub n.region })
  claims sub = record { region = rw (a.region, a.range) refl; size = a.size; range = a.range }

  -- a store of a piece
  pub stored : (u : Region) (x y : CellView) (g : ℕ) (piece : List ℕ) (o : OpenGap) → x.metadata ≡ n → gap_of g s.tracker ≡ Some o → IfSome (gap_of g x.metadata.region.tracker) (Stored g piece x y) → progress g (o.upto + length piece) s ≡ u → FrameStays x.metadata.frame y.metadata.frame → y.metadata.range ≡ x.metadata.range → IsAt u y.metadata
  stored u x y g piece o w e i h f r =
      let region : x.metadata.region ≡ s = ap (λ (m : CellMetadata). m.region) w ∙ a.region in
      let gap : gap_of g x.metadata.region.tracker ≡ Some o = ap (λ (c : Region). gap_of g c.tracker) region ∙ e in
      let P : Option OpenGap → Type 0 = λ k. IfSome k (Stored g piece x y) in
      let q : Stored g piece x y o = subst P gap i in
      record {
        region = q.region ∙ ap (λ (c : Region). progress g (o.upto + length piece) c) region ∙ h;
        size = f.size ∙ ap (λ (m : CellMetadata). m.frame.size) w ∙ a.size;
        range = r ∙ ap (λ (m : CellMetadata). m.range) w ∙ a.range;
      }

-- a copy or a look
pub stays_at : (s : Region) (x y : CellView) → IsAt s x.metadata → FrameOnly x y → IsAt s y.metadata
stays_at s x y a f = record { region = ap (λ (v : CellView). v.metadata.region) f.same ∙ a.region; size = f.frame.size ∙ a.size; range = ap (λ (v : CellView). v.metadata.range) f.same ∙ a.range }

-- ---- the states

pub fresh_len : len_of fresh ≡ 8192
unfolding fresh
fresh_len = refl

pub claimed_gap : gap_of 0 claimed.tracker ≡ Some (record { id = 0; upto = 0; end = 4096 })
unfolding claimed
claimed_gap = refl

pub claimed_tag : claimed.tag ≡ 2199023255552
unfolding claimed
claimed_tag = refl

pub begun_len : len_of begun ≡ 8192
unfolding begun
begun_len = refl

pub begun_ticket : ticket_of 0 begun.tracker ≡ Some first_ticket
unfolding begun
begun_ticket = refl

pub joined_ticket : ticket_of 1 joined.tracker ≡ Some (record { number = 1; start = 120; end = 130; failed = false })
unfolding joined
joined_ticket = refl

pub joined_gap : gap_of 0 joined.tracker ≡ Some (record { id = 0; upto = 150; end = 4096 })
unfolding joined
joined_gap = refl

pub lost_len : len_of lost ≡ 8192
unfolding lost
lost_len = refl

pub lost_ticket : ticket_of 0 lost.tracker ≡ Some (record first_ticket { failed = true })
unfolding lost
lost_ticket = refl

pub at_claimed : (n : CellMetadata) → IsAt fresh n → IsAt claimed (record n { region = claim n.range wanted n.region })
unfolding fresh claimed
at_claimed n a = claims fresh n a wanted

pub at_joined : (n : CellMetadata) → IsAt begun n → IsAt joined (record n { region = claim n.range few n.region })
unfolding begun joined
at_joined n a = claims begun n a few

pub at_lost : (n : CellMetadata) → IsAt joined n → IsAt lost (record n { region = fail 0 n.region })
unfolding joined lost
at_lost n a = record { region = rw a.region refl; size = a.size; range = a.range }

pub is_begun : progress 0 150 claimed ≡ begun
unfolding claimed begun
is_begun = refl
