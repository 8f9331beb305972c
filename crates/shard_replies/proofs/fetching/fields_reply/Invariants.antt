use Rattle.std.proofs.Common.{◌≡◌, ◌++◌, map, drop}
use Rattle.shard_replies.specs.ExpectedReplies.{given}
use Rattle.shard_replies.proofs.fetching.fields_reply.Given as goal

abbrev pub invariant-loop-field : goal.invariant-loop-field
invariant-loop-field l = l.list ++ map given (drop l.field-index l.fields) ≡ map given l.fields
