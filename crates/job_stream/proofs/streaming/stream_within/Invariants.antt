use Rattle.job_stream.proofs.streaming.stream_within.Given as goal

abbrev pub ghosts-run_job : goal.ghosts-run_job
ghosts-run_job g a = record { name = a.blank.name; parts = a.blank.parts }
