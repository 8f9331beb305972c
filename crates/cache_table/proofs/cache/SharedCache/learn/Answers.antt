use Rattle.std.proofs.Common.{arith, ◌∙◌, sym, ap}
use Rattle.blob_parts.specs.Content.{content}
use Rattle.cache_table.specs.Views.{CacheView}
use Rattle.cache_table.specs.Keys.{about_of}
use Rattle.cache_table.proofs.Keeps.{learns}
use Rattle.cache_table.proofs.cache.SharedCache.learn.Goals as goal

pub load-requires : goal.load-requires
load-requires g c = (
  c.requires.id ∙ sym (ap (λ (v : CacheView). v.id) c.self.view_is),
  (let s = c.self.invariant.2 in omega arith),
  learns g.A.Archive.tells (content g.A.Archive.blobs) g.row.A.Denot g.row.F.Denot (about_of g.F.Frame.view c.self.inside.table.shared.key) _ _ _,
)
