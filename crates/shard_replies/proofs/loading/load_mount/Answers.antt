use Rattle.shard_replies.proofs.Taken.{some_taken, all_taken}
use Rattle.shard_replies.proofs.loading.load_mount.Goals as goal

pub returns-in_err-error_text-in-Err-Manifest-clause-reads : goal.returns-in_err-error_text-in-Err-Manifest-clause-reads
returns-in_err-error_text-in-Err-Manifest-clause-reads g c = λ t.
    let took = rw c.in-Err-Manifest.field-0-is at (c.in-Err-Manifest.ensures.reads t) in
    all_taken _ _ _ c.from_residual-in_err-error_text-in-Err-Manifest.result took

pub returns-in_ok-error_text-in-Err-Manifest-clause-reads : goal.returns-in_ok-error_text-in-Err-Manifest-clause-reads
returns-in_ok-error_text-in-Err-Manifest-clause-reads g c = λ t.
    let took = rw c.in-Err-Manifest.field-0-is at (c.in-Err-Manifest.ensures.reads t) in
    some_taken _ _ _ took

pub returns-in-Ok-clause-reads : goal.returns-in-Ok-clause-reads
returns-in-Ok-clause-reads g c = λ t.
    rw c.with_parts.ensures.reads (all_taken _ _ _ c.with_parts.result (c.in-Ok.ensures.reads t))
