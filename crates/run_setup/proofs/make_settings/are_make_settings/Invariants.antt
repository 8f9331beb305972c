use Rattle.std.proofs.Common.{◌≡◌, drop}
use Rattle.std.specs.List.{list_all}
use Rattle.run_setup.specs.MakeSettings.{is_make_setting}
use Rattle.run_setup.specs.Words.{texts}
use Rattle.run_setup.proofs.make_settings.are_make_settings.Given as goal

abbrev pub invariant-loop-word : goal.invariant-loop-word
invariant-loop-word l = list_all is_make_setting (texts (drop l.word-index l.words)) ≡ list_all is_make_setting (texts l.words)
