use Rattle.std.proofs.Common.{◌≡◌, drop}
use Rattle.std.specs.Prelude.{option_map}
use Rattle.std.specs.List.{cons_option}
use Rattle.run_setup.specs.Settings.{values}
use Rattle.run_setup.specs.Words.{texts}
use Rattle.run_setup.proofs.make_settings.exactly_one.Given as goal

abbrev pub invariant-loop-word : goal.invariant-loop-word
invariant-loop-word l = cons_option (option_map (λ s. s.now) l.given) (values l.key (texts (drop l.word-index l.words))) ≡ values l.key (texts l.words)
