use Rattle.std.proofs.Common.{◌≡◌, ◌∙◌, ◌+◌, ◌*◌, ◌++◌, ap, sym, arith}
use Rattle.mount_script.specs.Scripts.{script}
use Rattle.shard_maker.specs.Draws.{state, draw}
use Rattle.shard_maker.specs.Searches.{query_text, search_bytes, script_bytes}
use Rattle.shard_maker.proofs.Pieces.{one_search_more}
use Rattle.shard_maker.proofs.Steps.{next_state, draw_is}
use Rattle.shard_maker.proofs.Reading.{script_is}
use Rattle.shard_maker.proofs.script.made_script.Goals as goal

pub loop-i-preserved : goal.loop-i-preserved
loop-i-preserved c =
    let from = c.args.draws.now.state in
    let i = c.loop-i.i in
    let first = next_state from (2 * i) _ _ c.loop-i.invariant.0 c.draw-a.ensures.state in
    let second = next_state from (2 * i + 1) _ _ first c.draw-b.ensures.state in
    let a : c.draw-a.result ≡ draw from (2 * i) c.args.terms = draw_is from (2 * i) _ c.args.terms _ first c.draw-a.ensures.value in
    let b : c.draw-b.result ≡ draw from (2 * i + 1) c.args.terms = draw_is from (2 * i + 1) _ c.args.terms _ second c.draw-b.ensures.value in
    let more = one_search_more from c.args.terms i in (
      second ∙ ap (state from) (omega arith),
      c.in_ok-push_search.ensures ∙ ap (λ t. t ++ search_bytes (query_text i c.draw-a.result c.draw-b.result)) c.loop-i.invariant.1
          ∙ (λ k. script_bytes from c.args.terms i ++ search_bytes (query_text i (a k) (b k))) ∙ sym more,
    )

pub returns : goal.returns
returns c =
    let from = c.args.draws.now.state in
    let all : c.loop-i.i ≡ 64 = omega (arith, c.loop-i.auto.i-end, c.loop-i-test.false) in
    ap script (c.loop-i.invariant.1 ∙ ap (script_bytes from c.args.terms) all) ∙ script_is from c.args.terms
