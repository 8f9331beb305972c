use Rattle.std.proofs.Common.{arith, ◌≡◌, ◌∙◌, sym, ap}
use Rattle.blob_parts.specs.Content.{content}
use Rattle.cache_table.specs.Views.{CacheView}
use Rattle.cache_table.specs.Keys.{about_of}
use Rattle.cache_table.proofs.Keeps.{takes_turn}
use Rattle.cache_table.proofs.cache.SharedCache.try_take.Goals as goal

pub compare_exchange-requires : goal.compare_exchange-requires
compare_exchange-requires g c = let is = c.self.view_is in let n : c.self.inside.table.shared.key.config.regions ≡ c.args.self.now.about.config.regions = ap (λ (v : CacheView). v.about.config.regions) is in let k = ap (λ (f : _). f.regions) c.self.invariant.0 in (
  c.requires.id ∙ sym (ap (λ (v : CacheView). v.id) is),
  (let s = c.self.invariant.2 in let p = c.requires.place.0 in omega (arith, n, k)),
  takes_turn g.A.Archive.tells (content g.A.Archive.blobs) g.row.A.Denot g.row.F.Denot c.ticket_weights.ensures c.gap_weights.ensures (about_of g.F.Frame.view c.self.inside.table.shared.key) _ _ _ c.args.at c.args.seen
      (let p = c.requires.place.0 in omega (arith, n)) c.requires.place.1 c.requires.place.2 c.requires.may.0 c.requires.may.1,
)
