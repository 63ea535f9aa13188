use Rattle.batch_answer.proofs.tables.table_rows.Given as goal

abbrev pub ghosts-tally_of : goal.ghosts-tally_of
ghosts-tally_of a = record { name = a.blank.name; parts = a.blank.parts }
