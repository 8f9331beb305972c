use Rattle.std.proofs.Common.{◌≡◌, ◌≤◌, length, arith, sym}
use Rattle.std.specs.Prelude.{vec_len}
use Rattle.mount_manifest.proofs.Steps.{within}
use Rattle.mount_manifest.proofs.Sound.{few_docs}
use Rattle.mount_manifest.proofs.Whole.{sound}
use Rattle.mount_manifest.proofs.manifest.checked.Goals as goal

pub all_placed-requires-clause-docs : goal.all_placed-requires-clause-docs
all_placed-requires-clause-docs c =
    few_docs c.deref-6.result.now c.in_ok-all_segment_limits.field-0 (rw (c.deref-6.ensures.value, sym c.deref-2.ensures.value) c.in_ok-all_segment_limits.ensures)

pub invariant_of-result : goal.invariant_of-result
invariant_of-result c =
    let files = c.text.inside.files.items in
    let named = c.text.inside.segments.items in
    let few_files : length files ≤ 4096 =
    let most = within _ _ _ _ c.in_ok-at_most.ensures in let count : c.len.result ≡ vec_len c.text.inside.files = c.len.ensures in omega (arith, c.text.inside.files.ok.0) in
    let few_named : length named ≤ 1024 =
    let most = within _ _ _ _ c.in_ok-at_most-2.ensures in let count : c.len-2.result ≡ vec_len c.text.inside.segments = c.len-2.ensures in omega (arith, c.text.inside.segments.ok.0) in
    sound files named c.in_ok-segments.segments.items c.in_ok-all_file_limits.field-0 c.in_ok-no_double_files.field-0 c.in_ok-no_double_segments.field-0
    c.text.invariant few_files
    (rw (sym c.deref.ensures.value) c.in_ok-all_file_limits.ensures) few_named
    (few_docs named c.in_ok-all_segment_limits.field-0 (rw (sym c.deref-2.ensures.value) c.in_ok-all_segment_limits.ensures))
    (rw (sym c.deref-3.ensures.value) c.in_ok-no_double_files.ensures) (rw (sym c.deref-4.ensures.value) c.in_ok-no_double_segments.ensures)
    (rw (sym c.deref-5.ensures.value, sym c.deref-6.ensures.value) c.in_ok-segments.ensures)
