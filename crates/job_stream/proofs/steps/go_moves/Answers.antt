use Rattle.std.proofs.Common.{◌++◌, Err, List, ap, subst, sym}
use Rattle.std.specs.List.{AllByRecursion}
use Rattle.std.specs.Prelude.{IsTrue}
use Rattle.ct_value.specs.declared.ty.Ty.{Ty}
use Rattle.ct_field.specs.Numbers.{is_type}
use Rattle.plan_rules.specs.Doings.{network}
use Rattle.stream_model.specs.Drain.{Leads, StopsAlong, moves}
use Rattle.stream_model.specs.Machine.{State}
use Rattle.source_lines.proofs.laws.Along.{leads_along, stops_along}
use Rattle.exec_core.proofs.laws.Rows.{sink_types_exist}
use Rattle.exec_core.proofs.laws.Standing.{stands_along}
use Rattle.job_stream.specs.Parts.{moves_run}
use Rattle.job_stream.proofs.Going.{fault_behind, memory_behind, stops_behind}
use Rattle.job_stream.proofs.Results.{err_weaker, ok_weaker}
use Rattle.job_stream.proofs.Stepped.{steps_ahead, steps_failed, stopped_wide}
use Rattle.job_stream.proofs.steps.go_moves.Goals as goal

pub move_all-requires : goal.move_all-requires
move_all-requires g c = let r = c.requires.ready in record { ready = (r.0, r.1, r.2.printed, r.4.items, r.4.stands) }

pub hand_out-requires : goal.hand_out-requires
hand_out-requires g c =
    let r = c.requires.ready in
    let lane = c.args.lane in
    let made = moves lane.edge lane.from lane.to c.args.count in
    let m = c.in-Ok.ensures.ok r.0 r.1 r.2.printed r.4.items r.4.stands in
    let leads = subst (λ (u : State). Leads (network r.0) r.1 u made m.0) r.4.is m.1 in
    record { ready = (r.0, r.1, r.2.printed, m.0, r.3, stands_along c.in-Ok.next r.0 r.1 r.2.printed r.4.items made r.2 m.0 r.4.is leads m.2) }

pub put_items-requires-clause-wide : goal.put_items-requires-clause-wide
put_items-requires-clause-wide g c =
    let r = c.requires.ready in
    let lane = c.args.lane in
    stopped_wide r.0 r.1 r.2.printed c.in-Err.stopped.printed r.4.items c.args.session c.args.sheet.now lane.edge lane.from lane.to c.args.count c.in-Err.stopped.cause r.3 r.4.stands (c.in-Err.ensures.err r.0 r.1 r.2.printed r.4.items r.4.stands)

pub put_items-requires-clause-types : goal.put_items-requires-clause-types
put_items-requires-clause-types g c =
    let r = c.requires.ready in
    subst (λ (l : List Ty). AllByRecursion (λ ty. IsTrue (is_type ty)) l) (sym r.3.types) (sink_types_exist r.0 r.4.stands.ruled.sound)

pub returns-in-Ok-clause-ok : goal.returns-in-Ok-clause-ok
returns-in-Ok-clause-ok g c = ok_weaker c.hand_out.result c.hand_out.ensures.ok (λ next out sources files plan limit p is same stands.
    let lane = c.args.lane in
    let made = moves lane.edge lane.from lane.to c.args.count in
    let here = stands.stands in
    let m = c.in-Ok.ensures.ok plan limit p.state.printed here.items here.stands in
    let leads = subst (λ (u : State). Leads (network plan) limit u made m.0) here.is m.1 in
    steps_ahead c.args.sheet.now plan limit p (moves_run lane.edge lane.from lane.to c.args.count c.args.sheet.now.by_table plan limit p) m.0 (leads_along (network plan) limit plan.sources c.args.sheet.now.by_table p made m.0 leads) _ _ c.args.session next files stands
    (out plan limit p.state.printed m.0 (stands_along c.in-Ok.next plan limit p.state.printed here.items made p.state m.0 here.is leads m.2)))

pub returns-in-Ok-clause-halts : goal.returns-in-Ok-clause-halts
returns-in-Ok-clause-halts g c = err_weaker c.hand_out.result c.hand_out.ensures.halts (λ halt out sources files plan limit p is same stands.
    let lane = c.args.lane in
    let made = moves lane.edge lane.from lane.to c.args.count in
    let here = stands.stands in
    let m = c.in-Ok.ensures.ok plan limit p.state.printed here.items here.stands in
    let leads = subst (λ (u : State). Leads (network plan) limit u made m.0) here.is m.1 in
    steps_failed c.args.sheet.now plan limit p (moves_run lane.edge lane.from lane.to c.args.count c.args.sheet.now.by_table plan limit p) m.0 (leads_along (network plan) limit plan.sources c.args.sheet.now.by_table p made m.0 leads) _ _ halt
    (out plan limit p.state.printed m.0 (stands_along c.in-Ok.next plan limit p.state.printed here.items made p.state m.0 here.is leads m.2)))

pub returns-in-Ok-put_items-clause-halts : goal.returns-in-Ok-put_items-clause-halts
returns-in-Ok-put_items-clause-halts g c = λ sources files plan limit p is same stands.
    let lane = c.args.lane in
    let made = moves lane.edge lane.from lane.to c.args.count in
    let here = stands.stands in
    let stopped = c.in-Err.stopped in
    let by = c.args.sheet.now.by_table in
    let stops = subst (λ (u : State). StopsAlong (network plan) limit u made stopped.cause (p.state.printed ++ stopped.printed)) here.is (c.in-Err.ensures.err plan limit p.state.printed here.items here.stands) in
    rw c.halt_of.ensures (stops_behind c.args.sheet.now (moves_run lane.edge lane.from lane.to c.args.count by plan limit p) p stopped.printed _ _ stopped.cause
    (stops_along (network plan) limit plan.sources by p made stopped.cause (p.state.printed ++ stopped.printed) stops) c.in-Ok-put_items.ensures.whole)

pub returns-in-Err-Failed-clause-halts : goal.returns-in-Err-Failed-clause-halts
returns-in-Err-Failed-clause-halts g c = λ sources files plan limit p is same stands.
    let lane = c.args.lane in
    let made = moves lane.edge lane.from lane.to c.args.count in
    let here = stands.stands in
    let stopped = c.in-Err.stopped in
    let by = c.args.sheet.now.by_table in
    let stops = subst (λ (u : State). StopsAlong (network plan) limit u made stopped.cause (p.state.printed ++ stopped.printed)) here.is (c.in-Err.ensures.err plan limit p.state.printed here.items here.stands) in
    fault_behind c.args.sheet.now (moves_run lane.edge lane.from lane.to c.args.count by plan limit p) p stopped.printed _ _ stopped.cause
    (stops_along (network plan) limit plan.sources by p made stopped.cause (p.state.printed ++ stopped.printed) stops) c.in-Err-Failed.ensures.part (c.in-Err-Failed.ensures.failed (ap Err c.in-Err-Failed.field-0-is))

pub returns-clause-halts : goal.returns-clause-halts
returns-clause-halts g c = λ sources files plan limit p is same stands.
    let lane = c.args.lane in
    let made = moves lane.edge lane.from lane.to c.args.count in
    let here = stands.stands in
    let stopped = c.in-Err.stopped in
    let by = c.args.sheet.now.by_table in
    let stops = subst (λ (u : State). StopsAlong (network plan) limit u made stopped.cause (p.state.printed ++ stopped.printed)) here.is (c.in-Err.ensures.err plan limit p.state.printed here.items here.stands) in
    memory_behind c.args.sheet.now (moves_run lane.edge lane.from lane.to c.args.count by plan limit p) p stopped.printed _ _ stopped.cause
    (stops_along (network plan) limit plan.sources by p made stopped.cause (p.state.printed ++ stopped.printed) stops) c.in-Err-Memory.ensures.part
