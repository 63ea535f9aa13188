use Rattle.std.proofs.Common.{◌∙◌, ap, subst, sym}
use Rattle.job_ending.specs.Runs.{IsBefore}
use Rattle.job_run.specs.Outcome.{summed}
use Rattle.job_run.specs.Printing.{Printing}
use Rattle.job_run.proofs.KeptRuns.{if_halted, if_well}
use Rattle.job_run.proofs.summing.SummingSink.sum_up.Goals as goal

pub returns-clause-ok : goal.returns-clause-ok
returns-clause-ok c =
    let same = ap (λ (p : Printing). summed c.args.lines p.bytes) c.self.view_is in
    if_well c.sum_up.result c.sum_up.ensures.ok (λ line is. sym same ∙ is c.self.inside.log.value c.self.invariant)

pub returns-clause-halts : goal.returns-clause-halts
returns-clause-halts c =
    let same = ap (λ (p : Printing). summed c.args.lines p.bytes) c.self.view_is in
    if_halted c.sum_up.result c.sum_up.ensures.halts (λ halt is. subst (IsBefore halt) same (is c.self.inside.log.value c.self.invariant))
