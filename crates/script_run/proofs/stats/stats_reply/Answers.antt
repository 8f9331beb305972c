use Rattle.std.proofs.Common.{ap, arith}
use Rattle.cache_policy.specs.declared.tally.Tally4.{Tally4}
use Rattle.script_run.proofs.Regions.{all_regions}
use Rattle.script_run.proofs.stats.stats_reply.Goals as goal

pub returns-clause-regions : goal.returns-clause-regions
returns-clause-regions g c =
    let all = all_regions c.args.core.now.policy c.lesson.ensures.good.policy in
    let tags = c.lesson.ensures.good.counts.tags in
    let listed = ap (λ (t : Tally4). t.listed) c.tally-tally.ensures in
    omega (arith, all, tags, listed, c.free_len.ensures, c.leaving_len.ensures)
