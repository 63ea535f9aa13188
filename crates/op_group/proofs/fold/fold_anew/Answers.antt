use Rattle.ct_change.specs.Changelog.{fold_from}
use Rattle.emission_rules.specs.Grouping.{members, fits_along, is_counted}
use Rattle.op_group.specs.Groups.{grouping}
use Rattle.op_group.proofs.Shifts.{both_true}
use Rattle.op_group.proofs.Turns.{absent}
use Rattle.op_group.proofs.Folds.{may_shift, grouped_after}
use Rattle.op_group.proofs.fold.fold_anew.Goals as goal

pub fold_kept-requires : goal.fold_kept-requires
fold_kept-requires g c =
    let by = c.args.by.now in
    let output = c.requires.0 in
    let r = c.requires.1 in
    let input = g.I.ChangeMode.mode c.args.input.now in
    let before = c.in_ok-kept.ensures.kept (λ k. members (grouping by input output) k r.0) r.3.grouped.kept in
    (by, output, r.0, r.2, may_shift by input output r.0 c.args.groups.now r.1 c.args.key c.args.changes r.3 c.in_ok-kept.kept before.0 before.1)

pub put_back-requires-clause-absent : goal.put_back-requires-clause-absent
put_back-requires-clause-absent g c = absent c.args.groups.now c.take_out.new.groups c.args.key c.in_ok-kept.ensures.others

pub returns-clause-told : goal.returns-clause-told
returns-clause-told g c = λ output rows held stands m.
    let by = c.args.by.now in
    let input = g.I.ChangeMode.mode c.args.input.now in
    let h = grouping by input output in
    let before = c.in_ok-kept.ensures.kept (λ k. members h k rows) m.grouped.kept in
    let may = may_shift by input output rows c.args.groups.now held c.args.key c.args.changes m c.in_ok-kept.kept before.0 before.1 in
    record {
      old = c.in-Ok.ensures.old by output rows stands may;
      fresh = c.in-Ok.ensures.fresh by output rows stands may;
      fine = both_true (fits_along h c.args.key rows c.args.changes) (is_counted h (fold_from input rows c.args.changes) c.args.key) (c.in-Ok.ensures.kept by output rows stands may).fits (c.in-Ok.ensures.counted by output rows stands may);
    }

pub returns-clause-rows : goal.returns-clause-rows
returns-clause-rows g c = λ output rows held stands m.
    let by = c.args.by.now in
    let input = g.I.ChangeMode.mode c.args.input.now in
    let before = c.in_ok-kept.ensures.kept (λ k. members (grouping by input output) k rows) m.grouped.kept in
    c.in-Ok.ensures.rows by output rows stands (may_shift by input output rows c.args.groups.now held c.args.key c.args.changes m c.in_ok-kept.kept before.0 before.1)

pub returns-clause-kept : goal.returns-clause-kept
returns-clause-kept g c = λ output rows held stands m.
    let by = c.args.by.now in
    let input = g.I.ChangeMode.mode c.args.input.now in
    let before = c.in_ok-kept.ensures.kept (λ k. members (grouping by input output) k rows) m.grouped.kept in
    let may = may_shift by input output rows c.args.groups.now held c.args.key c.args.changes m c.in_ok-kept.kept before.0 before.1 in
    grouped_after by input output rows c.args.groups.now held c.args.key c.args.changes m c.take_out.new.groups c.put_back.new.groups c.fold_kept.new.kept (c.in-Ok.ensures.kept by output rows stands may) (c.in-Ok.ensures.counted by output rows stands may)
    c.in_ok-kept.ensures.others c.in_ok-put_back.ensures.put c.in_ok-put_back.ensures.ordered

pub returns-in-Err-Out-clause-range : goal.returns-in-Err-Out-clause-range
returns-in-Err-Out-clause-range g c = λ output rows held stands m.
    let by = c.args.by.now in
    let input = g.I.ChangeMode.mode c.args.input.now in
    let before = c.in_ok-kept.ensures.kept (λ k. members (grouping by input output) k rows) m.grouped.kept in
    c.in-Err-Out.ensures.out c.in-Err-Out.field-0-is by output rows stands (may_shift by input output rows c.args.groups.now held c.args.key c.args.changes m c.in_ok-kept.kept before.0 before.1) (m.grouped.counted c.args.key)
