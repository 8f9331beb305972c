use Rattle.std.proofs.Common.{◌≡◌, drop}
use Rattle.std.specs.List.{list_all}
use Rattle.run_setup.specs.Settings.{is_setting}
use Rattle.run_setup.specs.Words.{texts}
use Rattle.run_setup.proofs.settings.are_settings.Given as goal

abbrev pub invariant-loop-word : goal.invariant-loop-word
invariant-loop-word l = list_all is_setting (texts (drop l.word-index l.words)) ≡ list_all is_setting (texts l.words)
