use Rattle.job_text.proofs.laws.Told as law
use Rattle.job_text.proofs.promises.lines_tell_items.Goals as goal

pub returns-clause-one : goal.returns-clause-one
returns-clause-one c = law.lines_tell_items

pub returns-clause-all : goal.returns-clause-all
returns-clause-all c = law.bytes_tell_items
