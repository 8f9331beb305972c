use Rattle.std.proofs.Common.{arith, ◌≡◌, ◌∙◌, sym, ap, subst}
use Rattle.blob_parts.specs.Content.{content}
use Rattle.cache_table.specs.Views.{CacheView}
use Rattle.cache_table.specs.Keys.{about_of}
use Rattle.cache_table.specs.Rule.{Fits}
use Rattle.cache_table.specs.Abouts.{About}
use Rattle.cache_table.proofs.Keeps.{gives_home}
use Rattle.cache_table.proofs.cache.SharedCache.give.Goals as goal

pub store-requires : goal.store-requires
store-requires g c = let is = c.self.view_is in let n : c.self.inside.table.shared.key.config.regions ≡ c.args.self.now.about.config.regions = ap (λ (v : CacheView). v.about.config.regions) is in let k = ap (λ (f : _). f.regions) c.self.invariant.0 in (
  c.exchange.ensures.0 ∙ c.requires.id ∙ sym (ap (λ (v : CacheView). v.id) is),
  (let s = c.self.invariant.2 in let p = c.requires.place.0 in omega (arith, n, k)),
  gives_home g.A.Archive.tells (content g.A.Archive.blobs) g.row.A.Denot g.row.F.Denot (about_of g.F.Frame.view c.self.inside.table.shared.key) _ _ c.args.seat.now.me _ c.args.at c.args.word c.args.new c.args.home g.H.Leaves.hold c.exchange.ensures.3
      (let p = c.requires.place.0 in omega (arith, n)) c.requires.place.1 c.requires.place.2 c.requires.turn.0 c.requires.may
      (subst (λ (a : About). Fits g.A.Archive.tells (content g.A.Archive.blobs) a c.args.at c.args.new c.args.home) (sym (ap (λ (v : CacheView). v.about) is)) c.requires.home.0) c.requires.changes c.requires.home.1,
)
