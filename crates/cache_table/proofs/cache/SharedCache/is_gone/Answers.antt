use Rattle.std.proofs.Common.{arith, ◌∙◌, sym, ap, ◌+◌, ◌*◌, ℕ}
use Rattle.blob_parts.specs.Content.{content}
use Rattle.region_ranges.specs.declared.keys.Config.{Config}
use Rattle.cache_table.specs.Views.{CacheView}
use Rattle.cache_table.specs.Keys.{about_of}
use Rattle.cache_table.proofs.Keeps.{loads_mount}
use Rattle.cache_table.proofs.cache.SharedCache.is_gone.Goals as goal

pub load-requires : goal.load-requires
load-requires g c = let is = c.self.view_is in let k = ap (λ (f : Config). f.regions) c.self.invariant.0 in (
  c.requires.id ∙ sym (ap (λ (v : CacheView). v.id) is),
  (let s = c.self.invariant.2 in let p = c.requires.place.0 in omega arith),
  loads_mount g.A.Archive.tells (content g.A.Archive.blobs) g.row.A.Denot g.row.F.Denot (about_of g.F.Frame.view c.self.inside.table.shared.key) _ _ _ _ c.args.mount
      (ap (λ (n : ℕ). 8 * n + 1 + c.args.mount) k) c.requires.place.0 c.requires.place.1,
)
