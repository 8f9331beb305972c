-- A cause that goes on to an answer of another type.
use Rattle.std.proofs.Common.{◌≡◌, ℕ, ◌≤◌, Ok, Err, refl}
use Rattle.std.specs.Prelude.{Result}
use Rattle.cache_outside.specs.Causes.{HasCause}
use Rattle.cache_outside.specs.declared.fault.OutError.{OutError}
use Rattle.cache_outside.specs.declared.fault.OutError.TheVariants.{Failed, NoMemory}

no_failure : {Y P : Type 0} (y : Y) → Ok y ≡ Err Failed → P
no_failure y f = absurd cc

no_memory : {Y P : Type 0} → (the_error : Result Y OutError) → the_error ≡ Err NoMemory → the_error ≡ Err Failed → P
no_memory r e f = absurd cc

pub cause_ok : {Y : Type 0} (before now : ℕ) (y : Y) → before ≤ now → HasCause before now (Ok y)
cause_ok before now y later = record { later = later; failed = no_failure y }

pub cause_err : {X Y : Type 0} (before now : ℕ) (r : Result X OutError) (e : OutError) → r ≡ Err e → HasCause before now r → HasCause {T = Y} before now (Err e)
cause_err before now r Failed is cause = record { later = cause.later; failed = λ f. cause.failed is }
cause_err before now r NoMemory is cause = record { later = cause.later; failed = no_memory (Err NoMemory) refl }
