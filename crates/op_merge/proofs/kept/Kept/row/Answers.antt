use Rattle.std.proofs.Common.{◌++◌, Option, None, cond, sym, ap, subst, ◌∙◌, map, drop}
use Rattle.std.specs.Prelude.{is_some, option_map}
use Rattle.ct_value.specs.declared.row.Row.{Row}
use Rattle.ct_value.specs.declared.ty.Ty.TheVariants.{BigInt}
use Rattle.rel_algebra.specs.declared.agg.AggCall.TheVariants.{CountAll}
use Rattle.rel_algebra.specs.Aggregates.{sum_of}
use Rattle.rel_algebra.specs.Clauses.{collect}
use Rattle.agg_fns.specs.Partial.{column_of}
use Rattle.phase_rules.specs.Merging.{merged, results_from}
use Rattle.op_merge.specs.Kept.{StandAll, calls}
use Rattle.op_merge.proofs.Partials.{values}
use Rattle.op_merge.proofs.Counts.{no_rows, some_rows, results_are, some_results}
use Rattle.op_merge.proofs.kept.Kept.row.Goals as goal

pub results-requires : goal.results-requires
results-requires c =
    let r = c.requires in
    (r.0.columns, map (λ row. drop 1 row) r.1, subst (λ ms. StandAll r.0.columns ms (map (λ row. drop 1 row) r.1)) (sym c.deref.ensures.value) r.2.stand)

pub returns-in-Err-clause-out : goal.returns-in-Err-clause-out
returns-in-Err-clause-out c = λ out l rows is.
    let rest = map (λ row. drop 1 row) rows in
    let told = c.in-Err.ensures.out out l.columns rest (subst (λ ms. StandAll l.columns ms rest) (sym c.deref.ensures.value) is.stand) in
    (λ i. is_some (collect (values l.columns ((sym (ap calls c.deref.ensures.value ∙ is.calls_are)) i) rest))) ∙ told

pub returns-then-gone-clause-row : goal.returns-then-gone-clause-row
returns-then-gone-clause-row c = λ l rows is.
    sym (ap (λ b. let o : Option Row = cond b None (option_map (λ more. c.args.key.now ++ more) (results_from l.columns l.aggs (merged l.aggs rows))) in o)
    (no_rows (sum_of (column_of 0 rows)) c.is_blank-gone.result (c.is_blank-gone.ensures CountAll BigInt rows is.count) c.if-gone.true))

pub returns-then-gone-clause-results : goal.returns-then-gone-clause-results
returns-then-gone-clause-results c = λ l rows is.
    let rest = map (λ row. drop 1 row) rows in
    let told = c.in-Ok.ensures.row l.columns rest (subst (λ ms. StandAll l.columns ms rest) (sym c.deref.ensures.value) is.stand) in
    some_results c.args.key.now c.in-Ok.row (results_from l.columns l.aggs (merged l.aggs rows)) (results_are l rows c.args.self.now c.args.key.now c.in_ok-made.made c.in-Ok.row c.deref.result.now is c.in_ok-made.ensures c.deref.ensures.value told)

pub returns-clause-row : goal.returns-clause-row
returns-clause-row c = λ l rows is.
    let rest = map (λ row. drop 1 row) rows in
    let told = c.in-Ok.ensures.row l.columns rest (subst (λ ms. StandAll l.columns ms rest) (sym c.deref.ensures.value) is.stand) in
    sym (ap (λ b. let o : Option Row = cond b None (option_map (λ more. c.args.key.now ++ more) (results_from l.columns l.aggs (merged l.aggs rows))) in o)
    (some_rows (sum_of (column_of 0 rows)) c.is_blank-gone.result (c.is_blank-gone.ensures CountAll BigInt rows is.count) c.if-gone.false)
    ∙ results_are l rows c.args.self.now c.args.key.now c.in_ok-made.made c.in-Ok.row c.deref.result.now is c.in_ok-made.ensures c.deref.ensures.value told)

pub returns-clause-results : goal.returns-clause-results
returns-clause-results c = λ l rows is.
    let rest = map (λ row. drop 1 row) rows in
    let told = c.in-Ok.ensures.row l.columns rest (subst (λ ms. StandAll l.columns ms rest) (sym c.deref.ensures.value) is.stand) in
    some_results c.args.key.now c.in-Ok.row (results_from l.columns l.aggs (merged l.aggs rows)) (results_are l rows c.args.self.now c.args.key.now c.in_ok-made.made c.in-Ok.row c.deref.result.now is c.in_ok-made.ensures c.deref.ensures.value told)
