use Rattle.sample_archive.specs.Sample.{few_manifests_sample}
use Rattle.shared_checks.proofs.tests.sample_source.Goals as goal

pub new-source-requires-clause-few_manifests : goal.new-source-requires-clause-few_manifests
new-source-requires-clause-few_manifests c = rw c.in_ok-blobs.ensures few_manifests_sample
