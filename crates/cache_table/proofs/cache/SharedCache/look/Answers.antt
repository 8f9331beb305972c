use Rattle.std.proofs.Common.{arith, ◌≡◌, ◌∙◌, sym, ap}
use Rattle.blob_parts.specs.Content.{content}
use Rattle.cache_table.specs.Views.{CacheView}
use Rattle.cache_table.specs.Keys.{about_of}
use Rattle.cache_table.proofs.Keeps.{loads_word}
use Rattle.cache_table.proofs.cache.SharedCache.look.Goals as goal

pub load-requires : goal.load-requires
load-requires g c = let is = c.self.view_is in let n : c.self.inside.table.shared.key.config.regions ≡ c.args.self.now.about.config.regions = ap (λ (v : CacheView). v.about.config.regions) is in let k = ap (λ (f : _). f.regions) c.self.invariant.0 in (
  c.requires.id ∙ sym (ap (λ (v : CacheView). v.id) is),
  (let s = c.self.invariant.2 in let p = c.requires.place in omega (arith, n, k)),
  loads_word g.A.Archive.tells (content g.A.Archive.blobs) g.row.A.Denot g.row.F.Denot (about_of g.F.Frame.view c.self.inside.table.shared.key) _ _ _ c.args.at,
)
