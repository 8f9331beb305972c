use Rattle.std.proofs.Common.{rules, length, refl}
use Rattle.blob_parts.proofs.Asked.{answered, refused}
use Rattle.blob_parts.proofs.direct.DirectBytesFileBytes.read.Goals as goal

pub returns-in-Ok-clause-goes : goal.returns-in-Ok-clause-goes
returns-in-Ok-clause-goes g c =
    let call = c.in-Ok.ensures in
    (refl, refl, answered _ _ _ c.args.file c.args.at (length c.args.out.now) _ _ _ c.requires.file c.requires.inside call.source.identity call.source.later call.reads)

pub returns-in-Err-Fault-clause-goes : goal.returns-in-Err-Fault-clause-goes
returns-in-Err-Fault-clause-goes g c =
    let call = c.in-Err-Fault.ensures in
    (refl, refl, refused _ _ _ c.args.file c.args.at (length c.args.out.now) _ _ _ _ c.requires.file c.requires.inside call.source.identity call.source.later (λ h. h) (λ enough calm. calm (search rules)) call.reads)

pub returns-in-Err-NoMemory-clause-goes : goal.returns-in-Err-NoMemory-clause-goes
returns-in-Err-NoMemory-clause-goes g c =
    let call = c.in-Err-NoMemory.ensures in
    (refl, refl, refused _ _ _ c.args.file c.args.at (length c.args.out.now) _ _ _ _ c.requires.file c.requires.inside call.source.identity call.source.later (λ h. refl) (λ enough calm. absurd (search rules)) call.reads)
