use Rattle.std.proofs.Common.{arith, ◌≡◌, ◌+◌, ◌%◌, ◌∙◌, ap, ℕ, length}
use Rattle.sparse_tracker.specs.ByteStates.{progress, Tracker, TrackerView}
use Rattle.region_cell.specs.Cells.{Region, tag_at}
use Rattle.region_cell.proofs.Kept.{put_of, kept_stored, kept_unstored, err_any, outside_as, put_as}
use Rattle.region_cell.proofs.cell.RegionCell.store.Goals as goal

pub put-requires : goal.put-requires
put-requires g c =
    let i = c.self.invariant in
    let p = put_of _ _ _ c.args.gap c.at.result c.self.inside.size c.bytes-bytes.result.now c.args.piece.now i.3 c.lesson.ensures.tracker (rw (← c.self.view_is) at c.requires.gap) (rw (← c.self.view_is) at c.requires.piece) c.at.ensures i.1 c.bytes-bytes.ensures.value in
    omega (arith, p.at, p.room, p.most)

pub invariant_of-self : goal.invariant_of-self
invariant_of-self g c =
    let i = c.self.invariant in
    let p = put_of _ _ _ c.args.gap c.at.result c.self.inside.size c.bytes-bytes.result.now c.args.piece.now i.3 c.lesson.ensures.tracker (rw (← c.self.view_is) at c.requires.gap) (rw (← c.self.view_is) at c.requires.piece) c.at.ensures i.1 c.bytes-bytes.ensures.value in (
      i.0,
      c.put.ensures.frame.size ∙ i.1,
      i.2,
      kept_unstored _ _ _ i.3 c.lesson.ensures.tracker c.args.gap c.args.piece.now p.fit _ _ c.put.ensures.frame.size c.put.ensures.frame.tells (g.met.F.Frame.whole c.self.inside.frame) (λ n. outside_as _ _ _ _ _ _ p.at (ap length c.bytes-bytes.ensures.value) (c.in_err-put.ensures.outside n)),
    )

pub returns-in_err-put-clause-outside : goal.returns-in_err-put-clause-outside
returns-in_err-put-clause-outside g c =
    let i = c.self.invariant in
    let p = put_of _ _ _ c.args.gap c.at.result c.self.inside.size c.bytes-bytes.result.now c.args.piece.now i.3 c.lesson.ensures.tracker (rw (← c.self.view_is) at c.requires.gap) (rw (← c.self.view_is) at c.requires.piece) c.at.ensures i.1 c.bytes-bytes.ensures.value in
    rw (← c.self.view_is) (err_any c.from_residual.result (rw p.fit.is (λ n. outside_as _ _ _ _ _ _ p.at (ap length c.bytes-bytes.ensures.value) (c.in_err-put.ensures.outside n))))

pub overflow_cast-bytes : goal.overflow_cast-bytes
overflow_cast-bytes g c =
    let i = c.self.invariant in
    let p = put_of _ _ _ c.args.gap c.at.result c.self.inside.size c.bytes-bytes.result.now c.args.piece.now i.3 c.lesson.ensures.tracker (rw (← c.self.view_is) at c.requires.gap) (rw (← c.self.view_is) at c.requires.piece) c.at.ensures i.1 c.bytes-bytes.ensures.value in
    omega (arith, p.room, p.most, p.small)

pub overflow_add-at : goal.overflow_add-at
overflow_add-at g c =
    let i = c.self.invariant in
    let p = put_of _ _ _ c.args.gap c.at.result c.self.inside.size c.bytes-bytes.result.now c.args.piece.now i.3 c.lesson.ensures.tracker (rw (← c.self.view_is) at c.requires.gap) (rw (← c.self.view_is) at c.requires.piece) c.at.ensures i.1 c.bytes-bytes.ensures.value in
    omega (arith, p.at, p.room, p.most, p.small)

pub progress-requires-clause-within : goal.progress-requires-clause-within
progress-requires-clause-within g c =
    let i = c.self.invariant in
    let p = put_of _ _ _ c.args.gap c.at.result c.self.inside.size c.bytes-bytes.result.now c.args.piece.now i.3 c.lesson.ensures.tracker (rw (← c.self.view_is) at c.requires.gap) (rw (← c.self.view_is) at c.requires.piece) c.at.ensures i.1 c.bytes-bytes.ensures.value in
    rw p.fit.is (omega (arith, p.at), omega (arith, p.at, p.room))

pub invariant_of-self-2 : goal.invariant_of-self-2
invariant_of-self-2 g c =
    let i = c.self.invariant in
    let p = put_of _ _ _ c.args.gap c.at.result c.self.inside.size c.bytes-bytes.result.now c.args.piece.now i.3 c.lesson.ensures.tracker (rw (← c.self.view_is) at c.requires.gap) (rw (← c.self.view_is) at c.requires.piece) c.at.ensures i.1 c.bytes-bytes.ensures.value in
    let l : length c.bytes-bytes.result.now ≡ length c.args.piece.now.bytes = ap length c.bytes-bytes.ensures.value in
    let to : c.at.result % c.self.inside.size + length c.bytes-bytes.result.now ≡ p.fit.gap_open.upto + length c.args.piece.now.bytes = omega (arith, p.at, l) in
    rw (c.progress.ensures, to) (
      i.0,
      c.put.ensures.frame.size ∙ i.1,
      i.2,
      kept_stored _ _ _ i.3 c.lesson.ensures.tracker c.args.gap c.args.piece.now p.fit _ _ c.put.ensures.frame.size c.put.ensures.frame.tells (g.met.F.Frame.whole c.self.inside.frame) c.bytes-bytes.ensures.content (λ n. put_as _ _ _ _ _ _ p.at c.bytes-bytes.ensures.value (c.in_ok-put.ensures.put n)),
    )

pub returns-clause-ok : goal.returns-clause-ok
returns-clause-ok g c =
    let i = c.self.invariant in
    let p = put_of _ _ _ c.args.gap c.at.result c.self.inside.size c.bytes-bytes.result.now c.args.piece.now i.3 c.lesson.ensures.tracker (rw (← c.self.view_is) at c.requires.gap) (rw (← c.self.view_is) at c.requires.piece) c.at.ensures i.1 c.bytes-bytes.ensures.value in
    let l : length c.bytes-bytes.result.now ≡ length c.args.piece.now.bytes = ap length c.bytes-bytes.ensures.value in
    let to : c.at.result % c.self.inside.size + length c.bytes-bytes.result.now ≡ p.fit.gap_open.upto + length c.args.piece.now.bytes = omega (arith, p.at, l) in
    let cell : Tracker → Region = λ t. record { tag = tag_at c.self.inside.key; tracker = t } in
    rw (← c.self.view_is) (rw p.fit.is (record {
      region = ap cell (ap (λ (v : TrackerView). v.tracker) c.progress.ensures ∙ ap (λ (n : ℕ). progress c.args.gap n c.self.inside.tracker.tracker) to);
      bytes = λ n. put_as _ _ _ _ _ _ p.at c.bytes-bytes.ensures.value (c.in_ok-put.ensures.put n);
    }))
