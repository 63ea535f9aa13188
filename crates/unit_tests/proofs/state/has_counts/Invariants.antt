use Rattle.unit_tests.proofs.state.has_counts.Given as goal

abbrev pub ghosts-has_two_rows : goal.ghosts-has_two_rows
ghosts-has_two_rows a = record { name = a.blank.name; parts = a.blank.parts }
