use Rattle.std.proofs.Common.{◌≡◌, IfErr, IfOk, Ok, subst, sym}
use Rattle.sql_syntax.specs.View.{script_view}
use Rattle.judge.specs.Judgement.{IsRefused, asked_view}
use Rattle.judge.proofs.statements.judge.Goals as goal
use Rattle.judge.proofs.laws.Theorems.{script_is_judged}

pub returns-in-Ok-clause-ok : goal.returns-in-Ok-clause-ok
returns-in-Ok-clause-ok c =
    subst (λ j. IfOk c.asked_by.result (λ asked. j ≡ Ok (asked_view asked))) (sym (script_is_judged c.args.text.now (script_view c.in-Ok.script) c.in-Ok.ensures.ok)) c.asked_by.ensures.ok

pub returns-in-Ok-clause-refused : goal.returns-in-Ok-clause-refused
returns-in-Ok-clause-refused c =
    subst (λ j. IfErr c.asked_by.result (λ fault. IsRefused fault j)) (sym (script_is_judged c.args.text.now (script_view c.in-Ok.script) c.in-Ok.ensures.ok)) c.asked_by.ensures.refused
