use Rattle.std.proofs.Common.{arith, ◌≡◌, ◌∙◌, ◌<◌, ◌+◌, ◌∷◌, [], ℕ, length, map, get_or, sym, ap, mod-lt}
use Rattle.std.specs.Prelude.{◌%◌}
use Rattle.std.specs.Vec.Iter.{into_iter_items, into_iter_len}
use Rattle.std.proofs.lemmas.List.{length-append, length-set, get_or-map}
use Rattle.shared_run.proofs.Queues.{split_next, split_all, short_of}
use Rattle.shared_run.proofs.gather.in_order.Goals as goal

pub unreachable-requires : goal.unreachable-requires
unreachable-requires c =
    let n = length c.args.queues.now.items in
    let k = c.loop-k.k in
    let i = c.loop-k.invariant in
    let qs = c.loop-k.queues.items in
    let now = c.index_mut.result.now in
    let workers : c.len-workers.result ≡ n = c.len-workers.ensures ∙ c.args.queues.now.ok.0 in
    let turn : k % c.len-workers.result ≡ k % n = ap (λ (m : ℕ). k % m) workers in
    let low = mod-lt k c.requires.some in
    let below : k % c.len-workers.result < length qs = omega (arith, turn, low, i.count) in
    let own = (i.split (k % n) low).count in
    let short = short_of n k c.loop-k.replies.items c.args.block.now i.many c.loop-k-test.true in
    let at = ap (λ (m : ℕ). get_or (map into_iter_len qs) m 0) (sym turn) ∙ get_or-map into_iter_len qs (k % c.len-workers.result) now 0 below ∙ ap into_iter_len (sym c.index_mut.ensures.value) in
    let some : 0 < into_iter_len now = omega (arith, own, short, at) in
    let never = c.in_default.ensures.variant.1 some in
    absurd (cc)

pub loop-k-preserved : goal.loop-k-preserved
loop-k-preserved c =
    let n = length c.args.queues.now.items in
    let k = c.loop-k.k in
    let i = c.loop-k.invariant in
    let qs = c.loop-k.queues.items in
    let now = c.index_mut.result.now in
    let new = c.next.new.self in
    let x = c.in-Some.reply in
    let j = k % c.len-workers.result in
    let workers : c.len-workers.result ≡ n = c.len-workers.ensures ∙ c.args.queues.now.ok.0 in
    let turn : j ≡ k % n = ap (λ (m : ℕ). k % m) workers in
    let low = mod-lt k c.requires.some in
    let below : j < length qs = omega (arith, turn, low, i.count) in
    let more = ap length c.in-Ok.ensures.items ∙ length-append c.loop-k.replies.items (x ∷ []) in
    record {
      count = length-set qs j new ∙ i.count;
      many = omega (arith, more, i.many);
      len = c.in-Ok.ensures.len ∙ ap (λ (m : ℕ). m + 1) i.len;
      room = omega (arith, i.room, c.in-Ok.ensures.capacity);
      split = λ m less. split_next into_iter_items into_iter_len n k j m c.loop-k.replies.items c.push.new.self.items x (map into_iter_items c.args.queues.now.items) c.args.block.now qs now new
          i.many c.in-Ok.ensures.items turn below c.index_mut.ensures.value c.in-Some.ensures.items c.in-Some.ensures.len (i.split m less);
    }

pub returns-clause-each : goal.returns-clause-each
returns-clause-each c = λ i below.
    split_all (length c.args.queues.now.items) i c.loop-k.replies.items (map into_iter_items c.args.queues.now.items) (map into_iter_items c.loop-k.queues.items) (map into_iter_len c.loop-k.queues.items) c.args.block.now
    (omega (arith, c.loop-k.invariant.many, c.loop-k-test.false, c.loop-k.auto.k-end)) (c.requires.fit i below) (c.loop-k.invariant.split i below)
