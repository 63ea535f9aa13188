use Rattle.std.proofs.Common.{◌&&◌, sym, ap, ◌∙◌}
use Rattle.ct_change.specs.Changelog.{fold_from}
use Rattle.emission_rules.specs.Grouping.{members, fits_along, is_counted}
use Rattle.op_group.specs.Kept.{all_counted, row_in}
use Rattle.op_group.specs.Groups.{grouping}
use Rattle.op_group.proofs.Shifts.{own_calls, second_false}
use Rattle.op_group.proofs.Folded.{no_less}
use Rattle.op_group.proofs.fold.fold_kept.Goals as goal

pub row-requires : goal.row-requires
row-requires g c =
    let r = c.requires in
    let m = members (grouping r.0 (g.I.ChangeMode.mode c.args.input.now) r.1) c.args.key.now r.2 in
    (r.0.tys, m, own_calls r.0.tys r.0.aggs c.args.kept.now m r.4.is)

pub shift_along-requires : goal.shift_along-requires
shift_along-requires g c = (c.args.key.now, c.requires)

pub row-requires-2 : goal.row-requires-2
row-requires-2 g c =
    let r = c.requires in
    let input = g.I.ChangeMode.mode c.args.input.now in
    let h = grouping r.0 input r.1 in
    let after = members h c.args.key.now (fold_from input r.2 c.args.changes) in
    (r.0.tys, after, own_calls r.0.tys r.0.aggs c.shift_along.new.kept after (c.in_default.ensures.kept c.args.key.now r.0 r.1 r.2 r.3 r.4).is)

pub returns-in-Ok-row-clause-old : goal.returns-in-Ok-row-clause-old
returns-in-Ok-row-clause-old g c = λ by output rows stands may.
    let m = members (grouping by (g.I.ChangeMode.mode c.args.input.now) output) c.args.key.now rows in
    c.in-Ok.ensures.row by.tys m (own_calls by.tys by.aggs c.args.kept.now m may.is)
    ∙ ap (λ aggs. row_in c.args.keys by.tys aggs c.args.key.now m) may.is.calls_are

pub returns-in-Ok-row-clause-fresh : goal.returns-in-Ok-row-clause-fresh
returns-in-Ok-row-clause-fresh g c = λ by output rows stands may.
    let input = g.I.ChangeMode.mode c.args.input.now in
    let after = members (grouping by input output) c.args.key.now (fold_from input rows c.args.changes) in
    let is = (c.in_default.ensures.kept c.args.key.now by output rows stands may).is in
    c.in-Ok-row.ensures.row by.tys after (own_calls by.tys by.aggs c.shift_along.new.kept after is)
    ∙ ap (λ aggs. row_in c.args.keys by.tys aggs c.args.key.now after) is.calls_are

pub returns-in-Ok-row-clause-counted : goal.returns-in-Ok-row-clause-counted
returns-in-Ok-row-clause-counted g c = λ by output rows stands may.
    let input = g.I.ChangeMode.mode c.args.input.now in
    let after = members (grouping by input output) c.args.key.now (fold_from input rows c.args.changes) in
    let is = (c.in_default.ensures.kept c.args.key.now by output rows stands may).is in
    sym (ap (λ aggs. all_counted by.tys aggs after) is.calls_are) ∙ c.in-Ok-row.ensures.counted by.tys after (own_calls by.tys by.aggs c.shift_along.new.kept after is)

pub returns-in-Err-clause-out : goal.returns-in-Err-clause-out
returns-in-Err-clause-out g c = λ out by output rows stands may counted.
    let m = members (grouping by (g.I.ChangeMode.mode c.args.input.now) output) c.args.key.now rows in
    no_less (sym counted ∙ sym (ap (λ aggs. all_counted by.tys aggs m) may.is.calls_are) ∙ c.in-Err.ensures.out out by.tys m (own_calls by.tys by.aggs c.args.kept.now m may.is))

pub returns-in-Err-shift_along-clause-out : goal.returns-in-Err-shift_along-clause-out
returns-in-Err-shift_along-clause-out g c = λ out by output rows stands may counted.
    let input = g.I.ChangeMode.mode c.args.input.now in
    let h = grouping by input output in
    ap (λ b. b && is_counted h (fold_from input rows c.args.changes) c.args.key.now) (c.in-Err-shift_along.ensures.out out c.args.key.now by output rows stands may)

pub returns-in-Err-row-clause-out : goal.returns-in-Err-row-clause-out
returns-in-Err-row-clause-out g c = λ out by output rows stands may counted.
    let input = g.I.ChangeMode.mode c.args.input.now in
    let h = grouping by input output in
    let after = members h c.args.key.now (fold_from input rows c.args.changes) in
    let is = (c.in_default.ensures.kept c.args.key.now by output rows stands may).is in
    second_false (fits_along h c.args.key.now rows c.args.changes) (is_counted h (fold_from input rows c.args.changes) c.args.key.now)
    (sym (ap (λ aggs. all_counted by.tys aggs after) is.calls_are) ∙ c.in-Err-row.ensures.out out by.tys after (own_calls by.tys by.aggs c.shift_along.new.kept after is))

pub returns-in-Ok-row-clause-kept : goal.returns-in-Ok-row-clause-kept
returns-in-Ok-row-clause-kept g c = c.in_default.ensures.kept c.args.key.now

pub returns-in-Ok-row-clause-rows : goal.returns-in-Ok-row-clause-rows
returns-in-Ok-row-clause-rows g c = c.in_default.ensures.rows c.args.key.now
