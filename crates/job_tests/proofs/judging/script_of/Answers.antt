use Rattle.std.proofs.Common.{◌≡◌, Ok}
use Rattle.std.proofs.lemmas.Result.{IfOk-weaker}
use Rattle.job_judgement.specs.Judgement.{judgement}
use Rattle.job_judgement.specs.Judged.{IsJudged}
use Rattle.job_judgement.specs.Views.{accepted_view}
use Rattle.job_tests.proofs.judging.script_of.Goals as goal

pub returns : goal.returns
returns c =
    let text = c.args.text.now in
    IfOk-weaker c.judged.result (λ script. judgement text ≡ Ok (accepted_view script)) (λ script. IsJudged (accepted_view script))
    (λ script is. record { text = text; judged = is }) c.judged.ensures.ok
