use Rattle.blob_checks.specs.Example.{few_manifests}
use Rattle.blob_checks.proofs.example.source.Goals as goal

pub new-requires-clause-few_manifests : goal.new-requires-clause-few_manifests
new-requires-clause-few_manifests c = rw c.in_ok-blobs.ensures few_manifests
