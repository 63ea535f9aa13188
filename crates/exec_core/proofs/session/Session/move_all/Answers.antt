use Rattle.std.specs.Prelude.{List, ◌++◌}
use Rattle.std.proofs.Common.{sym, ap, subst, ◌∙◌}
use Rattle.plan_rules.specs.Doings.{network}
use Rattle.stream_model.specs.Drain.{StopsAlong, moves}
use Rattle.stream_model.specs.declared.events.PrintItem.{PrintItem}
use Rattle.exec_core.specs.Stands.{Job, reached}
use Rattle.exec_core.proofs.laws.Standing.{held}
use Rattle.exec_core.proofs.session.Session.move_all.Goals as goal

pub move_all-requires : goal.move_all-requires
move_all-requires g c = let r = c.requires.ready in record { ready = (network r.0, r.1, r.2, r.3, held c.args.self c.deref_mut.result.now c.deref_mut.ensures.value r.0 r.1 r.2 r.3 r.4) }

pub returns-in-Ok-clause-ok : goal.returns-in-Ok-clause-ok
returns-in-Ok-clause-ok g c = λ plan limit handed items stands.
    let job = held c.args.self c.deref_mut.result.now c.deref_mut.ensures.value plan limit handed items stands in
    let m = c.in-Ok.ensures.ok (network plan) limit handed items job in
    (m.0, m.1, record { ruled = stands.ruled; stands_for = m.2 })

pub returns-in-Err-clause-err : goal.returns-in-Err-clause-err
returns-in-Err-clause-err g c = λ plan limit handed items stands.
    let lane = c.args.lane in
    let job = held c.args.self c.deref_mut.result.now c.deref_mut.ensures.value plan limit handed items stands in
    let same = c.take_printed-printed.ensures.items ∙ ap (λ (it : Job). it.traffic.printed) c.deref_mut-in-Err.ensures.value in
    subst (λ (l : List PrintItem). StopsAlong (network plan) limit (reached plan limit items) (moves lane.edge lane.from lane.to c.args.count) c.in-Err.cause (handed ++ l)) (sym same) (c.in-Err.ensures.err (network plan) limit handed items job)
