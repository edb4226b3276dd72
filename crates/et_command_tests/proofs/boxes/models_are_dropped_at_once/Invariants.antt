use Rattle.et_command_tests.proofs.boxes.models_are_dropped_at_once.Given as goal

abbrev pub ghosts-answer_of_three : goal.ghosts-answer_of_three
ghosts-answer_of_three g a = record { name = a.blank.name; parts = a.blank.parts }
