use Rattle.std.proofs.Common.{arith, ◌∙◌, sym, ap}
use Rattle.blob_parts.specs.Content.{content}
use Rattle.cache_table.specs.Views.{CacheView}
use Rattle.cache_table.specs.Keys.{about_of}
use Rattle.cache_table.proofs.Keeps.{joins}
use Rattle.cache_table.proofs.cache.SharedCache.merge.Goals as goal

pub join_seat-requires : goal.join_seat-requires
join_seat-requires g c = (
  c.requires.id.0 ∙ sym (ap (λ (v : CacheView). v.id) c.self.view_is),
  c.requires.id.1 ∙ sym (ap (λ (v : CacheView). v.id) c.self.view_is),
  c.requires.rests.2,
  (let w = c.self.invariant.2 in omega arith),
  joins g.A.Archive.tells (content g.A.Archive.blobs) g.row.A.Denot g.row.F.Denot (about_of g.F.Frame.view c.self.inside.table.shared.key) _ _ _ _ c.requires.rests.0 c.requires.rests.1 c.requires.free c.requires.share,
)
