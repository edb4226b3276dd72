use Rattle.et_top.proofs.process.run_elephant.Given as goal

-- the ledger is the one that the blank names
abbrev pub ghosts-with_models : goal.ghosts-with_models
ghosts-with_models g a = record { name = a.blank.name; parts = a.blank.parts }
