use Rattle.std.proofs.lemmas.Result.{err_from_is_err_and}
use Rattle.job_judgement.specs.Judgement.{judgement}
use Rattle.job_run.specs.Outcome.{after_judgement}
use Rattle.job_run.proofs.Loads.{if_err, script_all, script_halt, script_judged}
use Rattle.job_run.proofs.Printable.{printable_halt}
use Rattle.job_run.proofs.load.load_script.Goals as goal

pub returns-in_err-text-clause-halts : goal.returns-in_err-text-clause-halts
returns-in_err-text-clause-halts g c =
    let p = err_from_is_err_and c.from_residual.result c.from_residual.ensures.1 in
    rw (p.1, p.2) (λ next. c.in_err-text.ensures.halts (λ h text. after_judgement (next h) (judgement text)))

pub returns-clause-judged : goal.returns-clause-judged
returns-clause-judged g c = script_judged (g.F.Shelf.holdings c.args.shelf.now) c.args.name.now c.in_ok-text.text c.in_ok-text.ensures.whole c.judged.result c.judged.ensures.ok

pub returns-clause-ok : goal.returns-clause-ok
returns-clause-ok g c = script_all (g.F.Shelf.holdings c.args.shelf.now) c.args.name.now c.in_ok-text.text c.in_ok-text.ensures.whole c.judged.result c.judged.ensures.ok

pub returns-clause-halts : goal.returns-clause-halts
returns-clause-halts g c = if_err c.judged.result _ _ (λ halt is. λ next. script_halt _ _ c.args.name.now c.in_ok-text.text halt (λ h told. c.in_ok-text.ensures.whole h told) is next) c.judged.ensures.halts

pub returns-clause-printable : goal.returns-clause-printable
returns-clause-printable g c = if_err c.judged.result _ _ (λ halt is. printable_halt halt (judgement c.in_ok-text.text) is) c.judged.ensures.halts
