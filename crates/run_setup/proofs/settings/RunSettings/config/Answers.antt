use Rattle.std.proofs.Common.{arith}
use Rattle.run_setup.proofs.Limits.{config_good}
use Rattle.run_setup.proofs.settings.RunSettings.config.Goals as goal

pub overflow_cast-result-3 : goal.overflow_cast-result-3
overflow_cast-result-3 c = let good = (config_good c.args.self.now c.requires).range in omega (arith, good)

pub returns-clause-limits : goal.returns-clause-limits
returns-clause-limits c = config_good c.args.self.now c.requires
