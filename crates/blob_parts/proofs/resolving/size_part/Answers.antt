use Rattle.blob_parts.proofs.Named.{place_below}
use Rattle.blob_parts.proofs.resolving.size_part.Goals as goal

pub size-requires : goal.size-requires
size-requires g c tells = place_below _ _ _ (c.requires.named tells)
