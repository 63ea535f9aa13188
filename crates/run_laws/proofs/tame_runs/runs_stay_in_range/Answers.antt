use Rattle.run_laws.proofs.laws.TameTheorems as law
use Rattle.run_laws.proofs.tame_runs.runs_stay_in_range.Goals as goal

pub returns : goal.returns
returns c = law.runs_stay_in_range
