use Rattle.run_laws.proofs.laws.Theorems as law
use Rattle.run_laws.proofs.runs_print_answers.Goals as goal

pub returns : goal.returns
returns c = law.runs_print_answers
