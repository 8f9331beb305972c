use Rattle.mount_tool.proofs.Makes.{made_limits, few_manifests, same_blocks}
use Rattle.mount_tool.proofs.make.draw.Goals as goal

pub make-requires : goal.make-requires
make-requires c = made_limits c.args.settings.now c.requires.limits

pub returns-clause-few : goal.returns-clause-few
returns-clause-few c = few_manifests c.args.settings.now.seed c.args.settings.now.docs c.args.settings.now.terms c.in-Ok.made.blobs c.in-Ok.ensures.archive

pub returns-clause-script : goal.returns-clause-script
returns-clause-script c = same_blocks _ _ _ _ c.as_bytes.ensures c.in-Ok-read.ensures.script c.in-Ok.ensures.script
