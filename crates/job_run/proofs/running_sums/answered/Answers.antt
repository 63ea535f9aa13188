use Rattle.std.proofs.Common.{◌+◌, ◌++◌, ◌≤◌, ◌∙◌, ap, arith, length, subst, sym}
use Rattle.job_text.specs.Lines.{records_of}
use Rattle.job_text.proofs.laws.Records.{few_records}
use Rattle.job_ending.specs.Runs.{IsBefore}
use Rattle.job_run.specs.Outcome.{behind}
use Rattle.job_run.proofs.KeptRuns.{if_halted, if_well}
use Rattle.job_run.proofs.Summed.{whole_halted, whole_taken, whole_within}
use Rattle.job_run.proofs.running_sums.answered.Goals as goal

pub taken-requires : goal.taken-requires
taken-requires c =
    let r = c.requires in
    (records_of r.0, r.1.taken, omega (arith, few_records r.0, r.1.count_is, c.is_within.ensures.few c.if-not-is_within.false, c.len.ensures))

pub returns-in-Going-clause-ok : goal.returns-in-Going-clause-ok
returns-in-Going-clause-ok c = if_well c.answer_of.result c.answer_of.ensures.ok (λ sums is. λ gone r next.
    let rest = c.args.rest in
    let few : c.args.count + length c.args.rest ≤ 67108864 = omega (arith, c.is_within.ensures.few c.if-not-is_within.false, c.len.ensures) in
    let takes = whole_taken c.args.taking c.args.count rest gone r c.taken.result (c.taken.ensures (records_of gone) r.taken) in
    ap (behind next) (whole_within c.args.taking c.args.count rest gone r few) ∙ is (gone ++ rest) (rw c.in-Going.is at takes).1 next)

pub returns-in-Going-clause-halts : goal.returns-in-Going-clause-halts
returns-in-Going-clause-halts c = if_halted c.answer_of.result c.answer_of.ensures.halts (λ halt is. λ gone r next.
    let rest = c.args.rest in
    let few : c.args.count + length c.args.rest ≤ 67108864 = omega (arith, c.is_within.ensures.few c.if-not-is_within.false, c.len.ensures) in
    let takes = whole_taken c.args.taking c.args.count rest gone r c.taken.result (c.taken.ensures (records_of gone) r.taken) in
    subst (IsBefore halt) (sym (ap (behind next) (whole_within c.args.taking c.args.count rest gone r few))) (is (gone ++ rest) (rw c.in-Going.is at takes).1 next))

pub returns-in-Halted-clause-halts : goal.returns-in-Halted-clause-halts
returns-in-Halted-clause-halts c = λ gone r next.
    let few : c.args.count + length c.args.rest ≤ 67108864 = omega (arith, c.is_within.ensures.few c.if-not-is_within.false, c.len.ensures) in
    whole_halted c.args.taking c.args.count c.args.rest gone r few c.in-Halted.halt (rw c.in-Halted.is at (c.taken.ensures (records_of gone) r.taken)) next
