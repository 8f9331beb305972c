use Rattle.std.proofs.Common.{◌+◌, [], ◌∷◌, None, length, ap, ◌∙◌}
use Rattle.std.proofs.lemmas.List.{length-append}
use Rattle.shard_search.specs.Shelves.{kept_at}
use Rattle.shard_search.proofs.Shelves.{empty_place}
use Rattle.shard_search.proofs.shelf.reach.Goals as goal

pub loop-place-preserved : goal.loop-place-preserved
loop-place-preserved c = record {
  size = ap length c.in_ok-push.ensures.items ∙ length-append c.loop-place.places.items (None ∷ []) ∙ ap (λ n. n + 1) c.loop-place.invariant.size;
  same = λ i. ap (λ l. kept_at l i) c.in_ok-push.ensures.items ∙ empty_place c.loop-place.places.items i ∙ c.loop-place.invariant.same i;
}
