use Rattle.et_heap.proofs.tests.a_reference_is_polled_once.Given as goal

abbrev pub ghosts-waits_and_is_polled : goal.ghosts-waits_and_is_polled
ghosts-waits_and_is_polled g a = record { name = a.blank.name; parts = a.blank.parts }
