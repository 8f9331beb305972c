use Rattle.std.proofs.Common.{arith, ℕ, ◌≡◌, subst, length, ◌∙◌, sym, ap, refl, ◌∷◌, []}
use Rattle.std.specs.List.{list_all}
use Rattle.blob_parts.specs.Content.{content}
use Rattle.region_ranges.specs.declared.keys.Config.{Config}
use Rattle.cache_table.specs.Keys.{about_of}
use Rattle.cache_table.specs.declared.view.View.{View}
use Rattle.cache_table.specs.Calls.{AreCells}
use Rattle.cache_table.proofs.Opens.{opens, fresh, none_tied, words_are}
use Rattle.cache_table.proofs.cache.SharedCache.open.Goals as goal

pub new-requires : goal.new-requires
new-requires g c = let k = c.new-key.ensures.config in let n : length c.args.frames.items ≡ c.new-key.result.config.regions = c.requires.count ∙ sym (ap (λ (f : Config). f.regions) k) in
    opens g.A.Archive.tells (content g.A.Archive.blobs) g.row.A.Denot g.row.F.Denot (about_of g.F.Frame.view c.new-key.result) c.as_slice.result.now c.in_ok-slots.slots.items
    (subst (λ (m : ℕ). AreCells g.A.Archive.tells (content g.A.Archive.blobs) (about_of g.F.Frame.view c.new-key.result) m c.in_ok-slots.slots.items) n c.in_ok-slots.ensures)
    (c.as_slice.ensures.value ∙ words_are c.args.config.now.regions c.new-key.result.config.regions _ (sym (ap (λ (f : Config). f.regions) k)) c.in_ok-words.ensures)

pub invariant_of-pass : goal.invariant_of-pass
invariant_of-pass g c = let b = c.into_badge.ensures.2 in let m = c.in-Ok.ensures.ok.4 in let e = b ∙ ap (λ (v : View). v ∷ []) (ap (λ (x : _). x.0) m) in
    rw (e, c.new-in-Ok-2.ensures, c.new-in-Ok-3.ensures) (record { seated = refl; shared = refl; held = refl; near = tt; unmounts = none_tied; goes = none_tied; at_rest = refl })

pub invariant_of-result : goal.invariant_of-result
invariant_of-result g c = let k = c.in-Ok.ensures.ok.5 in let f = fresh g.A.Archive.tells (content g.A.Archive.blobs) g.row.A.Denot g.row.F.Denot (about_of g.F.Frame.view c.new-key.result) c.in_ok-slots.slots.items
    (subst (λ (m : ℕ). AreCells g.A.Archive.tells (content g.A.Archive.blobs) (about_of g.F.Frame.view c.new-key.result) m c.in_ok-slots.slots.items) (c.requires.count ∙ sym (ap (λ (f : Config). f.regions) c.new-key.ensures.config)) c.in_ok-slots.ensures) in
    let w = c.in-Ok.ensures.ok.0 in let s = c.in-Ok.ensures.ok.1 in
    let r = ap (λ (f : Config). f.regions) c.new-key.ensures.config in
    let l = ap length (c.as_slice.ensures.value ∙ words_are c.args.config.now.regions c.new-key.result.config.regions _ (sym r) c.in_ok-words.ensures) in (
      sym (ap (λ (z : _). z.config) k ∙ c.new-key.ensures.config),
      c.requires.config,
      omega (arith, w, l, f.wide, r),
      omega (arith, s, f.deep, r),
    )

pub returns-clause-cache : goal.returns-clause-cache
returns-clause-cache g c = ap (about_of g.F.Frame.view) c.in-Ok.ensures.ok.5 ∙ (λ i. record {
  config = c.new-key.ensures.config i;
  tells = list_all (λ f. (g.F.Frame.view f).tells) (c.new-key.ensures.frames i).items;
  steady = list_all (λ f. (g.F.Frame.view f).steady) (c.new-key.ensures.frames i).items;
})
