use Rattle.et_command_tests.proofs.bench.is_summed_up.Given as goal

abbrev pub ghosts-summed_up : goal.ghosts-summed_up
ghosts-summed_up g a = record { name = a.blank.name; parts = a.blank.parts }
