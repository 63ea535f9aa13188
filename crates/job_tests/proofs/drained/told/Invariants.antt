use Rattle.job_tests.proofs.drained.told.Given as goal

abbrev pub ghosts-drained : goal.ghosts-drained
ghosts-drained a = record { name = a.blank.name; parts = a.blank.parts }
