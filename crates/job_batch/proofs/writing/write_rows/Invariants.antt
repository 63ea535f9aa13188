use Rattle.job_batch.proofs.writing.write_rows.Given as goal

abbrev pub ghosts-put_rows : goal.ghosts-put_rows
ghosts-put_rows g a = record { name = a.blank.name; parts = a.blank.parts }
