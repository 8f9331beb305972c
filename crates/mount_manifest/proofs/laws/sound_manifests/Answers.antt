use Rattle.mount_manifest.proofs.Read.{read_sound}
use Rattle.mount_manifest.proofs.laws.sound_manifests.Goals as goal

pub returns : goal.returns
returns c = read_sound
