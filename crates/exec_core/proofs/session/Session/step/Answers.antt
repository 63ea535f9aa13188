use Rattle.std.proofs.Common.{◌++◌, ap, ◌∙◌}
use Rattle.plan_rules.specs.Doings.{network}
use Rattle.exec_core.proofs.laws.Standing.{held, same_printed}
use Rattle.exec_core.proofs.session.Session.step.Goals as goal

pub step-requires : goal.step-requires
step-requires g c = let r = c.requires.ready in record { ready = (network r.0, r.1, r.2, r.3, held c.args.self c.deref_mut.result.now c.deref_mut.ensures.value r.0 r.1 r.2 r.3 r.4, r.5) }

pub returns-in-Ok-clause-ok : goal.returns-in-Ok-clause-ok
returns-in-Ok-clause-ok g c = λ plan limit handed items stands typed.
    let job = held c.args.self c.deref_mut.result.now c.deref_mut.ensures.value plan limit handed items stands in
    let m = c.in-Ok.ensures.ok (network plan) limit handed items job typed in
    (m.0, m.1, record { ruled = stands.ruled; stands_for = m.2 })

pub returns-in-Err-clause-err : goal.returns-in-Err-clause-err
returns-in-Err-clause-err g c = λ plan limit handed items stands typed.
    let job = held c.args.self c.deref_mut.result.now c.deref_mut.ensures.value plan limit handed items stands in
    c.in-Err.ensures.err (network plan) limit handed items job typed

pub returns-in-Err-clause-printed : goal.returns-in-Err-clause-printed
returns-in-Err-clause-printed g c = λ plan limit handed items stands.
    let job = held c.args.self c.deref_mut.result.now c.deref_mut.ensures.value plan limit handed items stands in
    let same = same_printed c.deref_mut-in-Err.result.now c.step.new.self c.take_printed-printed.result c.deref_mut.result.now.traffic.printed
    c.take_printed-printed.ensures.items c.deref_mut-in-Err.ensures.value c.in-Err.ensures.printed in
    job.keeps.carries.printed ∙ ap (λ l. handed ++ l) same
