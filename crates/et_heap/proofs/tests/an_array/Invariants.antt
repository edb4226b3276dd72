use Rattle.et_heap.proofs.tests.an_array.Given as goal

abbrev pub ghosts-parts : goal.ghosts-parts
ghosts-parts g a = record { name = a.blank.name; parts = a.blank.parts }
