use Rattle.std.proofs.Common.{◌<◌, length}
use Rattle.cache_checks.proofs.reads.first_other_sum.Given as goal

abbrev pub invariant-loop-place : goal.invariant-loop-place
invariant-loop-place g l = 0 < length l.reader.table.now.files
