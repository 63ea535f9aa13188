use Rattle.std.proofs.Common.{◌≡◌, IfErr, IfOk, Ok, subst}
use Rattle.job_judgement.specs.Halts.{IsHalt}
use Rattle.job_judgement.specs.Judgement.{judgement}
use Rattle.job_judgement.specs.Views.{accepted_view}
use Rattle.job_run.proofs.running_sums.accepted.Goals as goal

pub returns-in-Ok-clause-ok : goal.returns-in-Ok-clause-ok
returns-in-Ok-clause-ok c = subst (λ text. IfOk c.judged.result (λ script. judgement text ≡ Ok (accepted_view script))) c.in-Ok.ensures.text c.judged.ensures.ok

pub returns-in-Ok-clause-halts : goal.returns-in-Ok-clause-halts
returns-in-Ok-clause-halts c = subst (λ text. IfErr c.judged.result (λ halt. IsHalt halt (judgement text))) c.in-Ok.ensures.text c.judged.ensures.halts
