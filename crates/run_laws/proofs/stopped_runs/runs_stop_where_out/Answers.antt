use Rattle.run_laws.proofs.laws.Stops as law
use Rattle.run_laws.proofs.stopped_runs.runs_stop_where_out.Goals as goal

pub returns : goal.returns
returns c = law.runs_stop_where_out
