use Rattle.std.proofs.Common.{arith, ◌∙◌, sym, ap}
use Rattle.blob_parts.specs.Content.{content}
use Rattle.cache_table.specs.Views.{CacheView}
use Rattle.cache_table.specs.Keys.{about_of}
use Rattle.cache_table.proofs.Keeps.{splits}
use Rattle.cache_table.proofs.cache.SharedCache.cut.Goals as goal

pub split_seat-requires : goal.split_seat-requires
split_seat-requires g c = (
  c.requires.id ∙ sym (ap (λ (v : CacheView). v.id) c.self.view_is),
  (let w = c.self.invariant.2 in omega arith),
  splits g.A.Archive.tells (content g.A.Archive.blobs) g.row.A.Denot g.row.F.Denot (about_of g.F.Frame.view c.self.inside.table.shared.key) _ _ c.requires.shares,
)
