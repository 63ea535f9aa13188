use Rattle.std.proofs.Common.{◌≡◌, true, false, sym, subst, ◌∙◌, arith}
use Rattle.agg_fns.specs.MergedPartials.{StandsForPartials}
use Rattle.agg_fns.specs.Partial.{partials_sum}
use Rattle.agg_fns.specs.Reading.{parts_by, all_blank}
use Rattle.phase_rules.specs.Merging.{argument_type}
use Rattle.op_merge.proofs.Mergers.{rows_at, item_of, blank_more, blank_all, not_blank}
use Rattle.op_merge.proofs.kept.are_blank.Goals as goal

pub loop-merger-init : goal.loop-merger-init
loop-merger-init c = λ columns rows all. tt

pub returns-then-not-blank : goal.returns-then-not-blank
returns-then-not-blank c = λ columns rows stand.
    let n = c.loop-merger.merger-index in
    let item = c.merger-item.result in
    let all = c.args.mergers.now in
    let stands = subst (λ m. StandsForPartials m.agg.call (argument_type columns m.agg) m.acc (rows_at n all rows)) (sym c.merger-item.is) (item_of columns n rows all item (omega arith) stand) in
    sym (not_blank columns n rows all item (omega arith)
    (subst (λ m. all_blank (parts_by m.agg.call) (partials_sum m.agg.call (rows_at n all rows)) ≡ false) c.merger-item.is (sym (c.is_blank-blank.ensures item.agg.call (argument_type columns item.agg) (rows_at n all rows) stands) ∙ c.if-not-blank.true)))

pub loop-merger-preserved : goal.loop-merger-preserved
loop-merger-preserved c = λ columns rows stand.
    let n = c.loop-merger.merger-index in
    let item = c.merger-item.result in
    let all = c.args.mergers.now in
    let stands = subst (λ m. StandsForPartials m.agg.call (argument_type columns m.agg) m.acc (rows_at n all rows)) (sym c.merger-item.is) (item_of columns n rows all item (omega arith) stand) in
    blank_more columns n rows all item (omega arith)
    (subst (λ m. all_blank (parts_by m.agg.call) (partials_sum m.agg.call (rows_at n all rows)) ≡ true) c.merger-item.is (sym (c.is_blank-blank.ensures item.agg.call (argument_type columns item.agg) (rows_at n all rows) stands) ∙ c.if-not-blank.false))
    (c.loop-merger.invariant columns rows stand)

pub returns : goal.returns
returns c = λ columns rows stand. sym (blank_all columns c.loop-merger.merger-index rows c.args.mergers.now (omega arith) (c.loop-merger.invariant columns rows stand))
