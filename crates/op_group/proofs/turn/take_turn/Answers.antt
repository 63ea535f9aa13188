use Rattle.std.proofs.Common.{◌&&◌, sym, ap, ◌∙◌, option_copied}
use Rattle.ct_change.specs.Emission.{replaced}
use Rattle.op_group.specs.Kept.{calls, all_fit, all_counted, row_in}
use Rattle.op_group.proofs.Shifts.{own_calls, both_true, second_false}
use Rattle.op_group.proofs.turn.take_turn.Goals as goal

pub returns-in-Err-shift-clause-out : goal.returns-in-Err-shift-clause-out
returns-in-Err-shift-clause-out c = λ out columns rows kept has counted.
    let after = replaced rows (option_copied c.args.gone) (option_copied c.args.come) in
    ap (λ b. b && all_counted columns (calls c.args.kept.now.counters.items) after) (c.in-Err-shift.ensures.out out columns rows kept has)

pub row-requires-2 : goal.row-requires-2
row-requires-2 c =
    let r = c.requires.kept in
    let after = replaced r.1 (option_copied c.args.gone) (option_copied c.args.come) in
    (r.0, after, own_calls r.0 (calls c.args.kept.now.counters.items) c.shift.new.self after (c.in_default.ensures.kept r.0 r.1 r.2 r.3))

pub returns-in-Ok-row-clause-fresh : goal.returns-in-Ok-row-clause-fresh
returns-in-Ok-row-clause-fresh c = λ columns rows kept has.
    let after = replaced rows (option_copied c.args.gone) (option_copied c.args.come) in
    let is = c.in_default.ensures.kept columns rows kept has in
    c.in-Ok-row.ensures.row columns after (own_calls columns (calls c.args.kept.now.counters.items) c.shift.new.self after is)
    ∙ ap (λ aggs. row_in c.args.keys columns aggs c.args.key.now after) is.calls_are

pub returns-in-Ok-row-clause-fine : goal.returns-in-Ok-row-clause-fine
returns-in-Ok-row-clause-fine c = λ columns rows kept has fits.
    let after = replaced rows (option_copied c.args.gone) (option_copied c.args.come) in
    let aggs = calls c.args.kept.now.counters.items in
    let is = c.in_default.ensures.kept columns rows kept has in
    both_true (all_fit columns aggs after) (all_counted columns aggs after) (c.in_default.ensures.fits columns rows kept has fits)
    (ap (λ a. all_counted columns a after) (sym is.calls_are) ∙ c.in-Ok-row.ensures.counted columns after (own_calls columns aggs c.shift.new.self after is))

pub returns-in-Err-row-clause-out : goal.returns-in-Err-row-clause-out
returns-in-Err-row-clause-out c = λ out columns rows kept has counted.
    let after = replaced rows (option_copied c.args.gone) (option_copied c.args.come) in
    let aggs = calls c.args.kept.now.counters.items in
    let is = c.in_default.ensures.kept columns rows kept has in
    second_false (all_fit columns aggs after) (all_counted columns aggs after)
    (ap (λ a. all_counted columns a after) (sym is.calls_are) ∙ c.in-Err-row.ensures.out out columns after (own_calls columns aggs c.shift.new.self after is))
