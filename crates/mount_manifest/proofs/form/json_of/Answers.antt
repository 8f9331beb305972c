use Rattle.std.proofs.Common.{ap}
use Rattle.std.proofs.lemmas.Bool.{false≢true}
use Rattle.mount_manifest.specs.Steps.{or_refuse}
use Rattle.mount_manifest.specs.declared.error.ManifestError.TheVariants.{NotJson}
use Rattle.mount_manifest.proofs.Json.{json_of-Some, json_of-None}
use Rattle.mount_manifest.proofs.form.json_of.Goals as goal

pub returns-in-Ok : goal.returns-in-Ok
returns-in-Ok c = ap (or_refuse NotJson) (json_of-Some c.args.bytes.now _ c.in-Ok.ensures.ok.0 c.in-Ok.ensures.ok.1)

pub returns-else-is_memory : goal.returns-else-is_memory
returns-else-is_memory c =
    ap (or_refuse NotJson) (json_of-None c.args.bytes.now (c.in-Err.ensures.err (λ m. false≢true (c.if-is_memory.ensures.1 m))))
