use Rattle.std.proofs.Common.{◌≡◌, ◌∙◌, ℕ, ap, sym, length}
use Rattle.blob_parts.specs.Content.{content}
use Rattle.region_ranges.specs.Keys.{tag_of}
use Rattle.region_cell.specs.Cells.{region_bytes}
use Rattle.cache_checks.proofs.passes.read_around_a_hold.Goals as goal

pub enter-requires-clause-whole : goal.enter-requires-clause-whole
enter-requires-clause-whole g c told =
    let bytes = λ (region : ℕ). length (region_bytes (content g.A.Archive.blobs) region (tag_of c.in-Some.want.key)) in
    let held = ap (λ b. b.now.about.config.region) c.new-holder.ensures.cache in
    let opened : c.in_ok-cache.cache.about.config.region ≡ 4096 = ap (λ a. a.config.region) c.in_ok-cache.ensures.cache in
    c.in-Some.ensures.whole told ∙ sym (ap bytes (held ∙ opened))
