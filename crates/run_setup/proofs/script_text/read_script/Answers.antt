use Rattle.run_setup.proofs.Causes.{cause_ok, cause_err}
use Rattle.run_setup.proofs.script_text.read_script.Goals as goal

pub returns-in-Ok-fill-clause-cause : goal.returns-in-Ok-fill-clause-cause
returns-in-Ok-fill-clause-cause g c = cause_ok _ _ _ c.fill.ensures.cause.later

pub returns-in-Err-clause-cause : goal.returns-in-Err-clause-cause
returns-in-Err-clause-cause g c = cause_err _ _ c.fill.result _ c.in-Err.is c.fill.ensures.cause
