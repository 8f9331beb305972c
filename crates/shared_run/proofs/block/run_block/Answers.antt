use Rattle.std.proofs.Common.{arith, rules, ◌≡◌, ◌∙◌, ◌<◌, ◌++◌, [], ℕ, List, length, map, take, drop, get_or, sym, ap, subst}
use Rattle.std.specs.Vec.Iter.{into_iter_items}
use Rattle.std.proofs.lemmas.List.{map-append, take-append-drop}
use Rattle.cache_outside.specs.Sources.{SourceView}
use Rattle.script_run.specs.Lines.{cached}
use Rattle.shared_run.specs.Blocks.{BlockDid}
use Rattle.shared_run.specs.Shares.{share}
use Rattle.shared_run.proofs.Jobs.{map_map}
use Rattle.shared_run.proofs.Together.{block_did, shares_same}
use Rattle.shared_run.proofs.Wholes.{queues_fit, allowed_whole}
use Rattle.shared_run.proofs.block.run_block.Goals as goal

pub in_order-requires-clause-fit : goal.in_order-requires-clause-fit
in_order-requires-clause-fit g c =
    queues_fit (cached g.A.Archive.tells g.A.Archive.blobs c.args.config.now) c.args.cache.now c.args.roster.now c.args.workers c.args.block.now c.args.pass.now c.run_dealt-queues.new.pass
    (map into_iter_items c.run_dealt-queues.result.items) _ _ c.run_dealt-queues.ensures.ran (length c.run_dealt-queues.result.items) c.run_dealt-queues.ensures.count

pub in_order-requires-clause-lens : goal.in_order-requires-clause-lens
in_order-requires-clause-lens g c = λ i below.
    c.run_dealt-queues.ensures.lens i (omega (arith, below, c.run_dealt-queues.ensures.count)) ∙ ap (λ (w : ℕ). length (share w i 0 c.args.block.now)) (sym c.run_dealt-queues.ensures.count)

pub returns-clause-did : goal.returns-clause-did
returns-clause-did g c =
    let S = g.row.S.Denot in
    let view = g.S.BlobSource.view in
    let e = cached g.A.Archive.tells g.A.Archive.blobs c.args.config.now in
    let w = c.args.workers in
    let given = into_iter_items c.into_iter-given.result in
    let all : given ≡ c.args.sources.now.items = search rules in
    let queues = c.run_dealt-queues.result.items in
    let xss = map into_iter_items queues in
    let same = c.run_dealt-queues.ensures.count in
    let each : (i : ℕ) → i < w → share w i 0 c.in_order.new.replies.items ≡ get_or xss i [] = λ i below.
    ap (λ (n : ℕ). share n i 0 c.in_order.new.replies.items) (sym same) ∙ c.in_order.ensures.each i (omega (arith, below, same)) in
    let base = block_did e c.args.cache.now c.args.roster.now w c.args.block.now c.in_order.new.replies.items c.args.pass.now c.run_dealt-queues.new.pass xss (map view (take w given)) (map view c.run_dealt-queues.new.sources.items) (map view (drop w given))
    (omega (arith, c.requires.workers.0)) c.run_dealt-queues.ensures.ran c.in_order.ensures.many each in
    let olds : map view (take w given) ++ map view (drop w given) ≡ map view c.args.sources.now.items = sym (map-append view (take w given) (drop w given)) ∙ ap (map view) (take-append-drop w given ∙ all) in
    let news : map view c.run_dealt-queues.new.sources.items ++ map view (drop w given) ≡ map view c.put_back.new.sources.items =
    sym (map-append view c.run_dealt-queues.new.sources.items (drop w given)) ∙ ap (map view) (ap (λ (l : List S). c.run_dealt-queues.new.sources.items ++ l) (sym c.run_dealt-queues.ensures.others) ∙ sym c.put_back.ensures) in
    subst (λ (a : List SourceView). BlockDid e c.args.cache.now w c.args.roster.now c.args.block.now c.in_order.new.replies.items a (map view c.put_back.new.sources.items) c.args.pass.now c.run_dealt-queues.new.pass) olds
    (subst (λ (b : List SourceView). BlockDid e c.args.cache.now w c.args.roster.now c.args.block.now c.in_order.new.replies.items (map view (take w given) ++ map view (drop w given)) b c.args.pass.now c.run_dealt-queues.new.pass) news base)

same_shares : goal.returns-clause-pass
same_shares g c = (
  c.run_dealt-queues.ensures.idle,
  shares_same (cached g.A.Archive.tells g.A.Archive.blobs c.args.config.now) c.args.cache.now c.args.roster.now c.args.workers c.args.block.now c.in_order.new.replies.items c.args.pass.now c.run_dealt-queues.new.pass
      (map into_iter_items c.run_dealt-queues.result.items) _ _ [] (omega (arith, c.requires.workers.0)) c.run_dealt-queues.ensures.ran c.in_order.ensures.many
      (λ i below. ap (λ (n : ℕ). share n i 0 c.in_order.new.replies.items) (sym c.run_dealt-queues.ensures.count) ∙ c.in_order.ensures.each i (omega (arith, below, c.run_dealt-queues.ensures.count)))
      (omega (arith, c.requires.shares)),
)

pub returns-clause-pass : goal.returns-clause-pass
returns-clause-pass g c = same_shares g c

pub returns-clause-allowed : goal.returns-clause-allowed
returns-clause-allowed g c = λ whole none.
    allowed_whole (cached g.A.Archive.tells g.A.Archive.blobs c.args.config.now) c.args.cache.now c.args.roster.now c.args.workers c.args.block.now c.args.pass.now c.run_dealt-queues.new.pass
    (map into_iter_items c.run_dealt-queues.result.items) _ _ c.run_dealt-queues.ensures.ran c.in_order.new.replies.items (map g.S.BlobSource.view c.args.sources.now.items) (map g.S.BlobSource.view c.put_back.new.sources.items) c.args.config.now.regions
    c.requires.workers.0 (returns-clause-did g c) c.lesson.ensures c.requires.lines ((same_shares g c).1 ∙ whole) none

pub returns-clause-identities : goal.returns-clause-identities
returns-clause-identities g c =
    let view = g.S.BlobSource.view in
    sym (map_map (λ (s : SourceView). s.identity) view c.put_back.new.sources.items) ∙ (returns-clause-did g c).identities ∙ map_map (λ (s : SourceView). s.identity) view c.args.sources.now.items
