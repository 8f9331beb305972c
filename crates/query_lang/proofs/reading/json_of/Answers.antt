use Rattle.std.proofs.lemmas.Bool.{false≢true}
use Rattle.mount_manifest.proofs.Json.{json_of-Some, json_of-None}
use Rattle.query_lang.proofs.reading.json_of.Goals as goal

pub returns-in-Ok : goal.returns-in-Ok
returns-in-Ok c = json_of-Some c.args.bytes.now _ c.in-Ok.ensures.ok.0 c.in-Ok.ensures.ok.1

pub returns-else-is_memory : goal.returns-else-is_memory
returns-else-is_memory c = json_of-None c.args.bytes.now (c.in-Err.ensures.err (λ m. false≢true (c.if-is_memory.ensures.1 m)))
