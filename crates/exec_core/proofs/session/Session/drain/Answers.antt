use Rattle.std.specs.Prelude.{List, ◌++◌}
use Rattle.std.proofs.Common.{sym, ap, subst, ◌∙◌}
use Rattle.plan_rules.specs.Doings.{network}
use Rattle.stream_model.specs.Drain.{StopsAlong, IsDrainFault, drain}
use Rattle.stream_model.specs.declared.events.PrintItem.{PrintItem}
use Rattle.exec_core.specs.Stands.{Job, reached}
use Rattle.exec_core.proofs.laws.Standing.{held}
use Rattle.exec_core.proofs.session.Session.drain.Goals as goal

pub drain-requires : goal.drain-requires
drain-requires g c = let r = c.requires.ready in record { ready = (network r.0, r.1, r.2, r.3, held c.args.self c.deref_mut.result.now c.deref_mut.ensures.value r.0 r.1 r.2 r.3 r.4) }

pub returns-in-Ok-clause-ok : goal.returns-in-Ok-clause-ok
returns-in-Ok-clause-ok g c = λ plan limit handed items stands.
    let job = held c.args.self c.deref_mut.result.now c.deref_mut.ensures.value plan limit handed items stands in
    let m = c.in-Ok.ensures.ok (network plan) limit handed items job in
    (m.0, m.1, record { ruled = stands.ruled; stands_for = m.2 }, m.3)

pub returns-in-Err-clause-err : goal.returns-in-Err-clause-err
returns-in-Err-clause-err g c = λ plan limit handed items stands.
    let job = held c.args.self c.deref_mut.result.now c.deref_mut.ensures.value plan limit handed items stands in
    let n = network plan in
    let at = reached plan limit items in
    let same = c.take_printed-printed.ensures.items ∙ ap (λ (it : Job). it.traffic.printed) c.deref_mut-in-Err.ensures.value in
    subst (λ (l : List PrintItem). StopsAlong n limit at (drain n limit at) c.in-Err.cause (handed ++ l) × IsDrainFault c.in-Err.cause) (sym same) (c.in-Err.ensures.err n limit handed items job)
