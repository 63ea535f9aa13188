use Rattle.std.proofs.Common.{Some, sym, ap, subst, ◌∙◌, arith}
use Rattle.rel_algebra.specs.Aggregates.{values_of, agg_result}
use Rattle.op_group.specs.Kept.{type_among, Stands}
use Rattle.op_group.proofs.Shifts.{item_of, result_more, result_out}
use Rattle.op_group.proofs.kept.results.Goals as goal

pub result-requires : goal.result-requires
result-requires c =
    let r = c.requires in
    let item = c.counter-item.result in
    (item.agg.call, type_among r.0 item.agg, values_of item.agg r.1, subst (Stands r.0 r.1) (sym c.counter-item.is) (item_of r.0 r.1 (Stands r.0 r.1) c.loop-counter.counter-index c.args.counters.now c.counter-item.result (omega arith) r.2))

pub returns-in-Err-clause-out : goal.returns-in-Err-clause-out
returns-in-Err-clause-out c = λ out columns rows all.
    let item = c.counter-item.result in
    let stands = subst (Stands columns rows) (sym c.counter-item.is) (item_of columns rows (Stands columns rows) c.loop-counter.counter-index c.args.counters.now c.counter-item.result (omega arith) all) in
    result_out columns rows c.loop-counter.counter-index c.args.counters.now c.counter-item.result (omega arith)
    (λ counter is. ap (λ k. agg_result columns rows k.agg) (is ∙ sym c.counter-item.is) ∙ c.in-Err.ensures.out out item.agg.call (type_among columns item.agg) (values_of item.agg rows) stands)

pub loop-counter-preserved : goal.loop-counter-preserved
loop-counter-preserved c = λ columns rows all.
    let item = c.counter-item.result in
    let stands = subst (Stands columns rows) (sym c.counter-item.is) (item_of columns rows (Stands columns rows) c.loop-counter.counter-index c.args.counters.now c.counter-item.result (omega arith) all) in
    result_more columns rows c.args.key c.loop-counter.values c.loop-counter.counter-index c.args.counters.now c.counter-item.result c.in-Ok.value (omega arith)
    (λ counter is. ap (λ k. agg_result columns rows k.agg) (is ∙ sym c.counter-item.is) ∙ c.in-Ok.ensures.value item.agg.call (type_among columns item.agg) (values_of item.agg rows) stands)
    (c.loop-counter.invariant columns rows all)
    ∙ ap Some (sym c.in_ok-push-in-Ok.ensures.ok)
