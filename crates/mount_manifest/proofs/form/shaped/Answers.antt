use Rattle.mount_manifest.proofs.Sound.{all_named}
use Rattle.mount_manifest.proofs.form.shaped.Goals as goal

pub invariant_of-result : goal.invariant_of-result
invariant_of-result c = all_named _ _ c.in_ok-files-2.ensures
