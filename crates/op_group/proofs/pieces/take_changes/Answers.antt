use Rattle.std.proofs.Common.{sym, subst, ◌∙◌}
use Rattle.op_group.proofs.Folded.{if_ok, on_ok, ranges}
use Rattle.op_group.proofs.Taking.{may_all, told_all, folds_all, grouped_all}
use Rattle.op_group.proofs.pieces.take_changes.Goals as goal

pub take_groups-requires : goal.take_groups-requires
take_groups-requires g c =
    let input = g.I.ChangeMode.mode c.args.input.now in
    let output = g.O.ChangeMode.mode c.args.output.now in
    let r = c.requires in
    (r.0, r.1, r.2, may_all c.args.by.now input output r.0 c.args.groups.now r.1 c.args.changes r.3 c.in_ok-bundle.bundle.entries c.in_ok-bundle.ensures.entries c.in_ok-bundle.ensures.held)

pub returns-clause-sent : goal.returns-clause-sent
returns-clause-sent g c = if_ok c.take_groups.result (λ sent told rows held stands m.
    let input = g.I.ChangeMode.mode c.args.input.now in
    let output = g.O.ChangeMode.mode c.args.output.now in
    let entries = c.in_ok-bundle.bundle.entries in
    sym (told_all c.args.by.now input output rows c.args.groups.now held c.args.changes m entries c.in_ok-bundle.ensures.entries c.in_ok-bundle.ensures.held)
    ∙ told rows held stands (may_all c.args.by.now input output rows c.args.groups.now held c.args.changes m entries c.in_ok-bundle.ensures.entries c.in_ok-bundle.ensures.held)) c.take_groups.ensures.sent

pub returns-clause-rows : goal.returns-clause-rows
returns-clause-rows g c = on_ok c.take_groups.result (λ after rows held stands m.
    let input = g.I.ChangeMode.mode c.args.input.now in
    let output = g.O.ChangeMode.mode c.args.output.now in
    let entries = c.in_ok-bundle.bundle.entries in
    subst (g.I.InMode.stands_for c.args.input.now c.take_groups.new.rows) (folds_all c.args.by.now input output rows c.args.groups.now held c.args.changes m entries c.in_ok-bundle.ensures.entries c.in_ok-bundle.ensures.held)
    (after rows held stands (may_all c.args.by.now input output rows c.args.groups.now held c.args.changes m entries c.in_ok-bundle.ensures.entries c.in_ok-bundle.ensures.held))) c.take_groups.ensures.rows

pub returns-clause-kept : goal.returns-clause-kept
returns-clause-kept g c = on_ok c.take_groups.result (λ after rows held stands m.
    let input = g.I.ChangeMode.mode c.args.input.now in
    let output = g.O.ChangeMode.mode c.args.output.now in
    let entries = c.in_ok-bundle.bundle.entries in
    grouped_all c.args.by.now input output rows c.args.groups.now held c.args.changes m entries c.in_ok-bundle.ensures.entries c.in_ok-bundle.ensures.held c.take_groups.new.groups
    (after rows held stands (may_all c.args.by.now input output rows c.args.groups.now held c.args.changes m entries c.in_ok-bundle.ensures.entries c.in_ok-bundle.ensures.held))) c.take_groups.ensures.kept

pub returns-clause-range : goal.returns-clause-range
returns-clause-range g c = ranges c.take_groups.result (λ row out rows held stands m.
    let input = g.I.ChangeMode.mode c.args.input.now in
    let output = g.O.ChangeMode.mode c.args.output.now in
    let entries = c.in_ok-bundle.bundle.entries in
    sym (told_all c.args.by.now input output rows c.args.groups.now held c.args.changes m entries c.in_ok-bundle.ensures.entries c.in_ok-bundle.ensures.held)
    ∙ out rows held stands (may_all c.args.by.now input output rows c.args.groups.now held c.args.changes m entries c.in_ok-bundle.ensures.entries c.in_ok-bundle.ensures.held)) c.take_groups.ensures.range
