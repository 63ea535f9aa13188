use Rattle.std.proofs.Common.{◌++◌, ap, ◌∙◌}
use Rattle.plan_rules.specs.Doings.{network}
use Rattle.exec_core.proofs.laws.Standing.{held, same_printed}
use Rattle.exec_core.proofs.session.Session.tell_quiet.Goals as goal

pub returns-in-Ok-clause-ok : goal.returns-in-Ok-clause-ok
returns-in-Ok-clause-ok c = λ plan limit handed items stands.
    let job = held c.args.self c.deref_mut.result.now c.deref_mut.ensures.value plan limit handed items stands in
    record { ruled = stands.ruled; stands_for = c.in-Ok.ensures.ok (network plan) limit handed items job }

pub returns-in-Err-clause-printed : goal.returns-in-Err-clause-printed
returns-in-Err-clause-printed c = λ plan limit handed items stands.
    let job = held c.args.self c.deref_mut.result.now c.deref_mut.ensures.value plan limit handed items stands in
    let same = same_printed c.deref_mut-in-Err.result.now c.tell_quiet.new.self c.take_printed-printed.result c.deref_mut.result.now.traffic.printed
    c.take_printed-printed.ensures.items c.deref_mut-in-Err.ensures.value c.in-Err.ensures.printed in
    job.keeps.carries.printed ∙ ap (λ l. handed ++ l) same
