use Rattle.std.proofs.Common.{arith, ◌≡◌, ◌∙◌, ◌-◌, sym, ap, refl, ℕ}
use Rattle.std.specs.Prelude.{length, min}
use Rattle.blob_parts.specs.Content.{content}
use Rattle.sample_archive.specs.Sample.{sample}
use Rattle.cache_checks.specs.CellSteps.{fresh}
use Rattle.cache_reader.proofs.Wants.{has_length}
use Rattle.cache_checks.proofs.cells.first.Goals as goal

pub assign-requires-clause-whole : goal.assign-requires-clause-whole
assign-requires-clause-whole c = rw (c.new-cell.ensures, c.in_ok-new.ensures) (λ h.
    let e = ap (λ (m : ℕ). length (content sample m 0)) (sym c.requires.0) ∙ c.length-length.ensures.whole h in
    c.region_len.ensures ∙ ap (λ (n : ℕ). min 8192 (n - 0)) (sym e) ∙ sym (has_length (content sample) 2 0 0 8192 (omega arith) (omega arith) (omega arith)))

pub returns : goal.returns
unfolding fresh
returns c =
    let len : c.region_len.result ≡ 8192 = c.region_len.ensures ∙ ap (λ (n : ℕ). min 8192 (n - 0)) (c.length-length.ensures.value ∙ c.requires.2) in
    rw (c.assign.ensures, c.new-cell.ensures, len) (record { region = refl; size = c.in_ok-new.ensures; range = refl })
