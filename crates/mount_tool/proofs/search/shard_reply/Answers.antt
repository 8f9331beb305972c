use Rattle.mount_tool.proofs.Allowed.{allowed_hits}
use Rattle.mount_tool.proofs.search.shard_reply.Goals as goal

pub returns-in-Ok-query_reply-clause-allowed : goal.returns-in-Ok-query_reply-clause-allowed
returns-in-Ok-query_reply-clause-allowed g c = allowed_hits _ _ _ _ _ c.in-Ok-query_reply.ensures.form (λ t.
    rw (c.in-Ok.ensures, c.new-bytes.ensures.table) at (c.in-Ok-query_reply.ensures.reply t))
