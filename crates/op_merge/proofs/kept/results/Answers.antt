use Rattle.std.proofs.Common.{◌≡◌, ◌++◌, Some, None, sym, ap, subst, ◌∙◌, arith}
use Rattle.std.specs.Prelude.{option_map}
use Rattle.rel_algebra.specs.Clauses.{collect}
use Rattle.agg_fns.specs.MergedPartials.{StandsForPartials}
use Rattle.agg_fns.specs.Partial.{partials_sum}
use Rattle.agg_fns.specs.PartialResults.{result_of}
use Rattle.phase_rules.specs.Merging.{argument_type}
use Rattle.op_merge.proofs.Mergers.{rows_at, item_of, result_more, result_out, values_all}
use Rattle.op_merge.proofs.kept.results.Goals as goal

pub result-requires : goal.result-requires
result-requires c =
    let r = c.requires in
    let n = c.loop-merger.merger-index in
    let item = c.merger-item.result in
    let all = c.args.mergers.now in
    (item.agg.call, argument_type r.0 item.agg, rows_at n all r.1, subst (λ m. StandsForPartials m.agg.call (argument_type r.0 m.agg) m.acc (rows_at n all r.1)) (sym c.merger-item.is) (item_of r.0 n r.1 all item (omega arith) r.2))

pub returns-in-Err-clause-out : goal.returns-in-Err-clause-out
returns-in-Err-clause-out c = λ out columns rows stand.
    let n = c.loop-merger.merger-index in
    let item = c.merger-item.result in
    let all = c.args.mergers.now in
    let stands = subst (λ m. StandsForPartials m.agg.call (argument_type columns m.agg) m.acc (rows_at n all rows)) (sym c.merger-item.is) (item_of columns n rows all item (omega arith) stand) in
    result_out columns n rows all item (omega arith)
    (subst (λ m. result_of m.agg.call (argument_type columns m.agg) (partials_sum m.agg.call (rows_at n all rows)) ≡ None) c.merger-item.is (c.in-Err.ensures.out out item.agg.call (argument_type columns item.agg) (rows_at n all rows) stands))

pub loop-merger-preserved : goal.loop-merger-preserved
loop-merger-preserved c = λ columns rows stand.
    let n = c.loop-merger.merger-index in
    let item = c.merger-item.result in
    let all = c.args.mergers.now in
    let stands = subst (λ m. StandsForPartials m.agg.call (argument_type columns m.agg) m.acc (rows_at n all rows)) (sym c.merger-item.is) (item_of columns n rows all item (omega arith) stand) in
    result_more columns n rows all item c.args.row c.loop-merger.made c.in-Ok.value (omega arith)
    (subst (λ m. result_of m.agg.call (argument_type columns m.agg) (partials_sum m.agg.call (rows_at n all rows)) ≡ Some c.in-Ok.value) c.merger-item.is (c.in-Ok.ensures.value item.agg.call (argument_type columns item.agg) (rows_at n all rows) stands))
    (c.loop-merger.invariant columns rows stand)
    ∙ ap Some (sym c.in_ok-made-in-Ok.ensures)

pub returns-clause-row : goal.returns-clause-row
returns-clause-row c = λ columns rows stand.
    ap (λ os. option_map (λ more. c.args.row ++ more) (collect os)) (sym (values_all columns c.loop-merger.merger-index rows c.args.mergers.now (omega arith))) ∙ c.loop-merger.invariant columns rows stand
