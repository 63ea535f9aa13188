use Rattle.op_group.specs.declared.groups.Results.{Results}
use Rattle.op_group.proofs.Folded.{can_after, emits_folded, emits_out, if_ranges}
use Rattle.op_group.proofs.fold.take_group.Goals as goal

pub fold_group-requires : goal.fold_group-requires
fold_group-requires g c = (g.O.ChangeMode.mode c.args.output.now, c.requires)

pub tell-requires : goal.tell-requires
tell-requires g c =
    let r = c.requires in
    let input = g.I.ChangeMode.mode c.args.input.now in
    let output = g.O.ChangeMode.mode c.args.output.now in
    can_after c.args.by.now input output r.0 c.args.groups.now r.1 c.args.key c.args.changes r.3 c.in-Ok.results (c.in-Ok.ensures.told output r.0 r.1 r.2 r.3)

pub returns-in-Err-clause-range : goal.returns-in-Err-clause-range
returns-in-Err-clause-range g c =
    let input = g.I.ChangeMode.mode c.args.input.now in
    let output = g.O.ChangeMode.mode c.args.output.now in
    if_ranges Results (Unit {0}) c.in-Err.fault (λ row is out rows held stands m. emits_out c.args.by.now input output rows c.args.groups.now held c.args.key c.args.changes m row is (out output rows held stands m))
    c.in-Err.ensures.key c.in-Err.ensures.range

pub returns-clause-sent : goal.returns-clause-sent
returns-clause-sent g c = λ rows held stands m.
    let input = g.I.ChangeMode.mode c.args.input.now in
    let output = g.O.ChangeMode.mode c.args.output.now in
    emits_folded c.args.by.now input output rows c.args.groups.now held c.args.key c.args.changes m c.in-Ok.results (c.in-Ok.ensures.told output rows held stands m) c.args.to.now c.tell.new.to c.in_ok-tell.ensures

pub returns-clause-rows : goal.returns-clause-rows
returns-clause-rows g c = c.in-Ok.ensures.rows (g.O.ChangeMode.mode c.args.output.now)

pub returns-clause-kept : goal.returns-clause-kept
returns-clause-kept g c = c.in-Ok.ensures.kept (g.O.ChangeMode.mode c.args.output.now)
