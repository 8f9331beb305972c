use Rattle.std.proofs.Common.{◌≡◌, take, map}
use Rattle.shard_search.specs.Answers.{pair_of}
use Rattle.shard_replies.specs.ExpectedReplies.{shown}
use Rattle.shard_replies.proofs.searching.shown_of.Given as goal

abbrev pub invariant-loop-i : goal.invariant-loop-i
invariant-loop-i l = l.list ≡ map (shown l.shard.segments) (map pair_of (take l.i l.hits))
