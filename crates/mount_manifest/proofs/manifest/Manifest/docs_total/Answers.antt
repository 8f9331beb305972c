use Rattle.std.proofs.Common.{◌≡◌, ◌≤◌, ◌*◌, ℕ, List, ap, arith, get_or}
use Rattle.std.specs.Prelude.{sum_by}
use Rattle.std.proofs.lemmas.List.Sums.{sum_by_more_le}
use Rattle.mount_manifest.specs.declared.record.Segment.{Segment}
use Rattle.mount_manifest.proofs.Whole.{docs_fit}
use Rattle.mount_manifest.proofs.manifest.Manifest.docs_total.Goals as goal

pub overflow_add-total : goal.overflow_add-total
overflow_add-total c =
    let items : List Segment = c.deref-segment-items.result.now in
    let i : ℕ = c.loop-segment.segment-index in
    let it : Segment = c.segment-item.result in
    let more = sum_by_more_le (λ (s : Segment). s.docs) items i it c.loop-segment-test.true in
    let same : it.docs ≡ (get_or items i it).docs = ap (λ (s : Segment). s.docs) c.segment-item.is in
    let kept = docs_fit (record { files = c.self.inside.files.items; segments = c.self.inside.segments.items }) c.self.invariant in
    let whole : sum_by (λ (s : Segment). s.docs) items ≤ 1024 * 16777216 = rw c.deref-segment-items.ensures.value kept in
    let total = c.loop-segment.invariant in
    record { fits = omega arith }
